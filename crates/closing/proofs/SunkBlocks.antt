-- Receives, probes and exchanges, by the sinks before them.
use Rattle.std.proofs.Common.{◌≡◌, refl, sym, ◌∙◌, ap, subst, ℕ, suc, ◌≤◌, Bool, true, false, ◌||◌, if◌then◌else◌, Option, Some, None, option_and_then, option_map, Result, Ok, Err, List, [], ◌∷◌, ◌++◌, arith}
use Rattle.std.specs.Prelude.{IsTrue, is_some, option_to_list}
use Rattle.std.specs.List.{list_any}
use Rattle.std.specs.Option.{option_map_or}
use Rattle.mpicall.specs.declared.call.Call.{Call}
use Rattle.mpicall.specs.declared.call.Call.TheVariants.{Open}
use Rattle.mpicall.specs.declared.call.Mode.TheVariants.{Standard}
use Rattle.closing.specs.Called.{Sent, Awaited}
use Rattle.closing.specs.Endings.{sent_can_be}
use Rattle.closing.specs.Entry.{start_send}
use Rattle.closing.specs.Fit.{AllFit}
use Rattle.closing.specs.Pending.{PendingCall, for_all, sinks_from, unknown, pending_said}
use Rattle.closing.specs.Reported.{Message as Said, is_gone, message_of, peer_can_be, tag_can_be}
use Rattle.closing.specs.Sinks.{Outcome, GoesOn, Ends, ends, is_met, overlap, sink_in}
use Rattle.closing.specs.Steps.{Id, Own, Whole, Progress, Step, Starts, Written, after_step, after_steps, least_free}
use Rattle.closing.specs.inner.Lists.{ComesTo, Handed, IsCut, Stands, start_call}
use Rattle.closing.specs.inner.Sinks.{HasSinks}
use Rattle.closing.specs.inner.Sunk.{IsPendingAfter, IsSunkBy, PendsAfter, PendsFor, PutsSink, PutsSteps, TakesPending, TakesSteps, blocks_on, blocks_sunk, exchange_steps, exchanges_sunk, fate_by, is_sink_by, message_pending, outcome_by_fate, sink_step, starts_exchange_sunk, starts_receive_sunk, steps_if, steps_left, wants_both, wants_in, with_known}
use Rattle.closing.specs.inner.Taken.{IsKept, IsLeftOut}
use Rattle.closing.specs.inner.Walked.{IsAt, number_at, size_at}
use Rattle.closing.specs.inner.Walks.{Spot, starts_at}
use Rattle.closing.specs.declared.list.List.{List as ListCode}
use Rattle.closing.specs.declared.list.Start.{Start}
use Rattle.closing.specs.declared.pending.Item.{Item}
use Rattle.closing.specs.declared.pending.Item.TheVariants as item
use Rattle.closing.specs.declared.pending.Pending.{Pending}
use Rattle.closing.specs.declared.pending.Sink.{Sink as SinkKept}
use Rattle.closing.specs.declared.pending.Sinks.{Sinks}
use Rattle.closing.specs.declared.pending.Wanted.{Wanted}
use Rattle.closing.specs.declared.stop.Stop.{Stop}
use Rattle.closing.specs.declared.stop.Stop.TheVariants.{Left, Memory}
use Rattle.closing.specs.declared.walk.At.{At}
use Rattle.closing.specs.declared.walk.Walk.{Walk}
use Rattle.closing.specs.declared.walk.sinks.Fate.{Fate}
use Rattle.closing.specs.declared.walk.sinks.Fate.TheVariants as fate
use Rattle.closing.specs.declared.walk.sinks.Leaves.{Leaves}
use Rattle.closing.specs.declared.walk.sinks.Wants.{Wants}
use Rattle.closing.specs.declared.why.Why.{Why}
use Rattle.closing.specs.declared.why.Why.TheVariants.{NeverCameBack, NeverReported, Failed, NoNumber, TooLong, CannotBe, Stopped, Aborted, Full, Cut, NoJournal, NotJudged}
use Rattle.closing.proofs.FollowLemmas.{both_left, peer_up}
use Rattle.closing.proofs.SunkLemmas.{kept_plain, own_plain}
use Rattle.closing.proofs.SunkSteps.{first_stops, kept_list, then_sink}
use Rattle.closing.proofs.SunkWaits.{left_ended, only_items}

-- ---- What is wanted ----

pub wants_none : (known : Bool) (o : Option Wanted) → None ≡ option_map (with_known known) o → o ≡ None
wants_none known None e = refl
wants_none known (Some wanted) e = cc

pub record AreWanted (known : Bool) (o : Option Wanted) (wants : Wants) : Type 0 where
  pub wanted : o ≡ Some wants.wanted
  pub same : known ≡ wants.is_known

pub wants_some : (known : Bool) (wants : Wants) (o : Option Wanted) → Some wants ≡ option_map (with_known known) o → AreWanted known o wants
wants_some known wants None e = cc
wants_some known wants (Some wanted) e =
    let same : wants ≡ with_known known wanted = cc in
    record { wanted = ap (λ (it : Wants). Some it.wanted) (sym same); same = ap (λ (it : Wants). it.is_known) (sym same) }

pub small_at : (spot : Spot) (at : At) → IsAt spot at → size_at at ≤ 1024
small_at spot at is = subst (λ n. n ≤ 1024) (sym is.size) is.small

pub wants_spot : (spot : Spot) (at : At) (result : Option Wants) (awaited : Awaited) (reported m : Option Said) → IsAt spot at → m ≡ message_of awaited reported
    → result ≡ option_map (with_known (is_some m)) (wants_in (size_at at) (number_at at) awaited m)
    → result ≡ option_map (with_known (is_some (message_of awaited reported))) (wants_in spot.size spot.number awaited (message_of awaited reported))
wants_spot spot at result awaited reported m is em e =
    e ∙ ap (λ s. option_map (with_known (is_some m)) (wants_in s (number_at at) awaited m)) is.size
    ∙ ap (λ n. option_map (with_known (is_some m)) (wants_in spot.size n awaited m)) is.number
    ∙ ap (λ v. option_map (with_known (is_some v)) (wants_in spot.size spot.number awaited v)) em

pub wants_both_spot : (spot : Spot) (at : At) (result : Option Wants) (sent : Sent) (awaited : Awaited) (reported m : Option Said) → IsAt spot at → m ≡ message_of awaited reported
    → result ≡ option_map (with_known (is_some m)) (wants_both (size_at at) (number_at at) sent awaited m)
    → result ≡ option_map (with_known (is_some (message_of awaited reported))) (wants_both spot.size spot.number sent awaited (message_of awaited reported))
wants_both_spot spot at result sent awaited reported m is em e =
    e ∙ ap (λ s. option_map (with_known (is_some m)) (wants_both s (number_at at) sent awaited m)) is.size
    ∙ ap (λ n. option_map (with_known (is_some m)) (wants_both spot.size n sent awaited m)) is.number
    ∙ ap (λ v. option_map (with_known (is_some v)) (wants_both spot.size spot.number sent awaited v)) em

sent_by : (b : Bool) (wants : Option Wanted) (wanted : Wanted) → (if b then wants else None) ≡ Some wanted → b ≡ true
sent_by true wants wanted e = refl
sent_by false wants wanted e = cc

-- the peer of the send of an exchange that wants a message
pub sent_peer_of : (spot : Spot) (sent : Sent) (awaited : Awaited) (message : Option Said) (wanted : Wanted) → spot.size ≤ 1024
    → wants_both spot.size spot.number sent awaited message ≡ Some wanted → IsTrue (peer_can_be 1024 sent.dest)
sent_peer_of spot sent awaited message wanted small e =
    peer_up spot.size sent.dest small (both_left (peer_can_be spot.size sent.dest) (tag_can_be sent.tag)
    (sent_by (sent_can_be spot.size sent) (wants_in spot.size spot.number awaited message) wanted e))

-- ---- Whether a sink may take it ----

met_one : (place : ℕ) (wanted : Wanted) (found : Option Wanted) (rest : List SinkKept)
    → list_any (λ (sink : SinkKept). overlap wanted sink.wanted) (option_to_list (option_map (λ wanted. record { place = place; wanted = wanted }) found) ++ rest)
    ≡ (option_map_or (overlap wanted) found false || list_any (λ (sink : SinkKept). overlap wanted sink.wanted) rest)
met_one place wanted None rest = refl
met_one place wanted (Some found) rest = refl

met_is : (place : ℕ) (records : List Written) (wanted : Wanted) → list_any (λ (sink : SinkKept). overlap wanted sink.wanted) (sinks_from place records) ≡ is_met records wanted
met_is place [] wanted = refl
met_is place (one ∷ records) wanted =
    met_one place wanted (sink_in one.starts) (sinks_from (suc place) records)
    ∙ ap (λ b. option_map_or (overlap wanted) (sink_in one.starts) false || b) (met_is (suc place) records wanted)

pub met_kept : (records : List Written) (it : Sinks) (wanted : Wanted) → HasSinks records it
    → list_any (λ (sink : SinkKept). overlap wanted sink.wanted) it.all.items ≡ is_met records wanted
met_kept records it wanted has = ap (list_any (λ (sink : SinkKept). overlap wanted sink.wanted)) has.all ∙ met_is 0 records wanted

pub fate_said : (records : List Written) (it : Sinks) (wants : Wants) (came_back past past' : Bool) (result : Fate) → HasSinks records it → past ≡ past'
    → result ≡ fate_by wants.is_known (list_any (λ (sink : SinkKept). overlap wants.wanted sink.wanted) it.all.items) came_back past
    → result ≡ fate_by wants.is_known (is_met records wants.wanted) came_back past'
fate_said records it wants came_back past past' result has ep e =
    e ∙ ap (λ b. fate_by wants.is_known b came_back past) (met_kept records it wants.wanted has)
    ∙ ap (λ b. fate_by wants.is_known (is_met records wants.wanted) came_back b) ep

-- ---- What was put ----

pub puts_sunk : (line : ℕ) (came_back : Bool) (outcome : Option Outcome) (pending idle : PendingCall) (steps : List Step) (result : Result Bool Stop) (handed : Handed) (progress : Progress) (new : Walk)
    → outcome ≡ Some (GoesOn steps) → PutsSteps line steps result handed progress new → IsSunkBy line came_back outcome pending idle result handed progress new
puts_sunk line came_back outcome pending idle steps (Ok false) handed progress new e put = absurd put
puts_sunk line came_back outcome pending idle steps (Ok true) handed progress new e put = record { steps = steps; is = e; stands = put.0; kept = put.1 }
puts_sunk line came_back outcome pending idle steps (Err (Left TooLong)) handed progress new e put = record { found = GoesOn steps; is = e; before = put }
puts_sunk line came_back outcome pending idle steps (Err Memory) handed progress new e put = tt
puts_sunk line came_back outcome pending idle steps (Err (Left NeverCameBack)) handed progress new e put = absurd put
puts_sunk line came_back outcome pending idle steps (Err (Left NeverReported)) handed progress new e put = absurd put
puts_sunk line came_back outcome pending idle steps (Err (Left Failed)) handed progress new e put = absurd put
puts_sunk line came_back outcome pending idle steps (Err (Left NoNumber)) handed progress new e put = absurd put
puts_sunk line came_back outcome pending idle steps (Err (Left CannotBe)) handed progress new e put = absurd put
puts_sunk line came_back outcome pending idle steps (Err (Left Stopped)) handed progress new e put = absurd put
puts_sunk line came_back outcome pending idle steps (Err (Left Aborted)) handed progress new e put = absurd put
puts_sunk line came_back outcome pending idle steps (Err (Left Full)) handed progress new e put = absurd put
puts_sunk line came_back outcome pending idle steps (Err (Left Cut)) handed progress new e put = absurd put
puts_sunk line came_back outcome pending idle steps (Err (Left NotJudged)) handed progress new e put = absurd put
puts_sunk line came_back outcome pending idle steps (Err (Left NoJournal)) handed progress new e put = absurd put

pub pends_sunk : (line : ℕ) (came_back : Bool) (outcome : Option Outcome) (pending idle : PendingCall) (steps : List Step) (result : Result Bool Stop) (handed : Handed) (progress : Progress) (new : Walk)
    → outcome ≡ Some (Ends steps Open (Some NeverCameBack)) → came_back ≡ false → PendsAfter line steps pending result handed progress new
    → IsSunkBy line came_back outcome pending idle result handed progress new
pends_sunk line came_back outcome pending idle steps (Ok false) handed progress new e back put = absurd put
pends_sunk line came_back outcome pending idle steps (Ok true) handed progress new e back put = absurd put
pends_sunk line came_back outcome pending idle steps (Err (Left TooLong)) handed progress new e back put = record { found = Ends steps Open (Some NeverCameBack); is = e; before = put }
pends_sunk line came_back outcome pending idle steps (Err Memory) handed progress new e back put = tt
pends_sunk line came_back outcome pending idle steps (Err (Left NeverCameBack)) handed progress new e back put = record {
  steps = steps;
  is = e;
  stands = put.stands;
  sinks = put.sinks;
  waits = put.waits ∙ sym (ap (λ b. if b then unknown else pending) back);
  left_out = put.left_out;
}
pends_sunk line came_back outcome pending idle steps (Err (Left NeverReported)) handed progress new e back put = absurd put
pends_sunk line came_back outcome pending idle steps (Err (Left Failed)) handed progress new e back put = absurd put
pends_sunk line came_back outcome pending idle steps (Err (Left NoNumber)) handed progress new e back put = absurd put
pends_sunk line came_back outcome pending idle steps (Err (Left CannotBe)) handed progress new e back put = absurd put
pends_sunk line came_back outcome pending idle steps (Err (Left Stopped)) handed progress new e back put = absurd put
pends_sunk line came_back outcome pending idle steps (Err (Left Aborted)) handed progress new e back put = absurd put
pends_sunk line came_back outcome pending idle steps (Err (Left Full)) handed progress new e back put = absurd put
pends_sunk line came_back outcome pending idle steps (Err (Left Cut)) handed progress new e back put = absurd put
pends_sunk line came_back outcome pending idle steps (Err (Left NotJudged)) handed progress new e back put = absurd put
pends_sunk line came_back outcome pending idle steps (Err (Left NoJournal)) handed progress new e back put = absurd put

-- a message alone is waited for after steps of which the list has the records
pub pends_message : (line : ℕ) (steps : List Step) (pending : PendingCall) (wanted : Wanted) (result : Result Bool Stop) (handed : Handed) (progress : Progress) (old : Pending) (new : Walk)
    → PendsFor result old new.pending wanted → record { is_for_all = old.is_for_all; items = old.items.items ++ item.Message wanted ∷ [] } ≡ pending
    → (pending_said new.pending ≡ pending → IsPendingAfter line steps pending handed progress new)
    → PendsAfter line steps pending result handed progress new
pends_message line steps pending wanted (Ok done) handed progress old new put e is = absurd put
pends_message line steps pending wanted (Err (Left NeverCameBack)) handed progress old new put e is = is (put ∙ e)
pends_message line steps pending wanted (Err Memory) handed progress old new put e is = tt
pends_message line steps pending wanted (Err (Left TooLong)) handed progress old new put e is = absurd put
pends_message line steps pending wanted (Err (Left NeverReported)) handed progress old new put e is = put
pends_message line steps pending wanted (Err (Left Failed)) handed progress old new put e is = put
pends_message line steps pending wanted (Err (Left NoNumber)) handed progress old new put e is = put
pends_message line steps pending wanted (Err (Left CannotBe)) handed progress old new put e is = put
pends_message line steps pending wanted (Err (Left Stopped)) handed progress old new put e is = put
pends_message line steps pending wanted (Err (Left Aborted)) handed progress old new put e is = put
pends_message line steps pending wanted (Err (Left Full)) handed progress old new put e is = put
pends_message line steps pending wanted (Err (Left Cut)) handed progress old new put e is = put
pends_message line steps pending wanted (Err (Left NotJudged)) handed progress old new put e is = put
pends_message line steps pending wanted (Err (Left NoJournal)) handed progress old new put e is = put

-- where nothing was put before it
pub pends_alone : (line : ℕ) (wanted : Wanted) (result : Result Bool Stop) (handed : Handed) (progress : Progress) (old new : Walk)
    → PendsFor result old.pending new.pending wanted → new ≡ record old { pending = new.pending } → Stands handed progress old.list → IsKept progress.records old
    → PendsAfter line [] (message_pending (Some wanted)) result handed progress new
pends_alone line wanted result handed progress old new put same stands kept =
    pends_message line [] (message_pending (Some wanted)) wanted result handed progress old.pending new put (only_items old.pending (item.Message wanted ∷ []) kept.pending)
    (λ e. record {
      stands = subst (λ (walk : Walk). Stands handed progress walk.list) (sym same) stands;
      sinks = ap (λ (walk : Walk). walk.sinks.all.items) same ∙ kept.sinks.all;
      waits = e;
      left_out = subst (λ (walk : Walk). IsLeftOut progress.records walk) (sym same) kept.left_out;
    })

-- ---- By its fate ----

pub fate_pends : (known met came_back past : Bool) → fate_by known met came_back past ≡ fate.Pends → came_back ≡ false
fate_pends true false came_back past e = cc
fate_pends true true false past e = refl
fate_pends true true true true e = cc
fate_pends true true true false e = cc
fate_pends false met false past e = refl
fate_pends false met true past e = cc

pub fate_ends : (known met came_back past : Bool) (why : Why) (line : ℕ) (outcome : Option Outcome) (pending idle : PendingCall) (handed : Handed) (progress : Progress) (walk : Walk)
    → fate_by known met came_back past ≡ fate.Ends why → outcome ≡ Some (ends why) → Stands handed progress walk.list → IsKept progress.records walk
    → IsSunkBy line came_back outcome pending idle (Err (Left why)) handed progress walk
fate_ends true false came_back past why line outcome pending idle handed progress walk e is stands kept = cc
fate_ends true true false past why line outcome pending idle handed progress walk e is stands kept = cc
fate_ends true true true true why line outcome pending idle handed progress walk e is stands kept = cc
fate_ends true true true false why line outcome pending idle handed progress walk e is stands kept =
    let same : NotJudged ≡ why = cc in
    subst (λ y. outcome ≡ Some (ends y) → IsSunkBy line true outcome pending idle (Err (Left y)) handed progress walk) same
    (λ is. left_ended line true outcome pending NotJudged handed progress walk is refl stands kept) is
fate_ends false met false past why line outcome pending idle handed progress walk e is stands kept = cc
fate_ends false met true past why line outcome pending idle handed progress walk e is stands kept =
    let same : NeverCameBack ≡ why = cc in
    subst (λ y. outcome ≡ Some (ends y) → IsSunkBy line true outcome pending idle (Err (Left y)) handed progress walk) same
    (λ is. left_ended line true outcome pending NeverCameBack handed progress walk is refl stands kept) is

-- ---- What comes of it ----

-- of one that wants nothing
pub and_then_none : (f : Wanted → Option Outcome) (o : Option Wanted) → o ≡ None → option_and_then f o ≡ None
and_then_none f o e = ap (option_and_then f) e

pub blocks_is : (spot : Spot) (came_back : Bool) (leaves : Leaves) (awaited : Awaited) (message : Option Said) (records : List Written) (wants : Wants) (result : Fate)
    → AreWanted (is_some message) (wants_in spot.size spot.number awaited message) wants → result ≡ fate_by wants.is_known (is_met records wants.wanted) came_back spot.is_past
    → blocks_sunk spot came_back leaves awaited message records ≡ outcome_by_fate result [] (steps_left leaves wants.wanted wants.is_known)
blocks_is spot came_back leaves awaited message records wants result are e =
    ap (option_and_then (λ wanted. blocks_on spot came_back records (is_some message) wanted [] (steps_left leaves wanted (is_some message)))) are.wanted
    ∙ ap (λ k. outcome_by_fate (fate_by k (is_met records wants.wanted) came_back spot.is_past) [] (steps_left leaves wants.wanted k)) are.same
    ∙ ap (λ r. outcome_by_fate r [] (steps_left leaves wants.wanted wants.is_known)) (sym e)

pub exchanges_is : (spot : Spot) (came_back : Bool) (sent : Sent) (awaited : Awaited) (message : Option Said) (records : List Written) (wants : Wants) (result : Fate)
    → AreWanted (is_some message) (wants_both spot.size spot.number sent awaited message) wants → result ≡ fate_by wants.is_known (is_met records wants.wanted) came_back spot.is_past
    → exchanges_sunk spot came_back sent awaited message records
    ≡ outcome_by_fate result (exchange_steps spot wants.wanted sent wants.is_known) (exchange_steps spot wants.wanted sent wants.is_known)
exchanges_is spot came_back sent awaited message records wants result are e =
    ap (option_and_then (λ wanted. blocks_on spot came_back records (is_some message) wanted (exchange_steps spot wanted sent (is_some message)) (exchange_steps spot wanted sent (is_some message)))) are.wanted
    ∙ ap (λ k. outcome_by_fate (fate_by k (is_met records wants.wanted) came_back spot.is_past) (exchange_steps spot wants.wanted sent k) (exchange_steps spot wants.wanted sent k)) are.same
    ∙ ap (λ r. outcome_by_fate r (exchange_steps spot wants.wanted sent wants.is_known) (exchange_steps spot wants.wanted sent wants.is_known)) (sym e)

-- the steps of an exchange as the code puts them
pub halves_are : (spot : Spot) (line : ℕ) (wanted : Wanted) (sent : Sent) (known : Bool) (start : Start) → line ≡ spot.line → start_call start ≡ start_send Standard wanted.comm sent
    → Starts (Whole line) (start_call start) ∷ sink_step None wanted known ∷ [] ≡ exchange_steps spot wanted sent known
halves_are spot line wanted sent known start el es =
    ap (λ n. Starts (Whole n) (start_call start) ∷ sink_step None wanted known ∷ []) el
    ∙ ap (λ f. Starts (Whole spot.line) f ∷ sink_step None wanted known ∷ []) es

-- ---- Starts ----

-- whether one is a sink
pub sink_said : (records : List Written) (it : Sinks) (wants : Wants) (gone gone' result : Bool) → HasSinks records it → gone ≡ gone'
    → result ≡ is_sink_by gone wants.is_known (list_any (λ (sink : SinkKept). overlap wants.wanted sink.wanted) it.all.items)
    → result ≡ is_sink_by gone' wants.is_known (is_met records wants.wanted)
sink_said records it wants gone gone' result has eg e =
    e ∙ ap (λ b. is_sink_by gone wants.is_known b) (met_kept records it wants.wanted has) ∙ ap (λ b. is_sink_by b wants.is_known (is_met records wants.wanted)) eg

pub starts_is : (spot : Spot) (own : ℕ) (awaited : Awaited) (message : Option Said) (records : List Written) (wants : Wants) (result : Bool)
    → AreWanted (is_some message) (wants_in spot.size spot.number awaited message) wants → result ≡ is_sink_by (is_gone spot.lines own) wants.is_known (is_met records wants.wanted)
    → starts_receive_sunk spot own awaited message records ≡ (if result then Some (GoesOn (sink_step (Some own) wants.wanted wants.is_known ∷ [])) else None)
starts_is spot own awaited message records wants result are e =
    ap (option_and_then (λ wanted. if is_sink_by (is_gone spot.lines own) (is_some message) (is_met records wanted) then Some (GoesOn (sink_step (Some own) wanted (is_some message) ∷ [])) else None)) are.wanted
    ∙ ap (λ k. if is_sink_by (is_gone spot.lines own) k (is_met records wants.wanted) then Some (GoesOn (sink_step (Some own) wants.wanted k ∷ [])) else None) are.same
    ∙ ap (λ b. if b then Some (GoesOn (sink_step (Some own) wants.wanted wants.is_known ∷ [])) else None) (sym e)

pub starts_both_is : (spot : Spot) (own other : ℕ) (sent : Sent) (awaited : Awaited) (message : Option Said) (records : List Written) (wants : Wants) (result : Bool)
    → AreWanted (is_some message) (wants_both spot.size spot.number sent awaited message) wants → result ≡ is_sink_by (is_gone spot.lines other) wants.is_known (is_met records wants.wanted)
    → starts_exchange_sunk spot own other sent awaited message records
    ≡ (if result then Some (GoesOn (starts_at spot own (start_send Standard wants.wanted.comm sent) ++ sink_step (Some other) wants.wanted wants.is_known ∷ [])) else None)
starts_both_is spot own other sent awaited message records wants result are e =
    ap (option_and_then (λ wanted. if is_sink_by (is_gone spot.lines other) (is_some message) (is_met records wanted)
    then Some (GoesOn (starts_at spot own (start_send Standard wanted.comm sent) ++ sink_step (Some other) wanted (is_some message) ∷ [])) else None)) are.wanted
    ∙ ap (λ k. if is_sink_by (is_gone spot.lines other) k (is_met records wants.wanted)
    then Some (GoesOn (starts_at spot own (start_send Standard wants.wanted.comm sent) ++ sink_step (Some other) wants.wanted k ∷ [])) else None) are.same
    ∙ ap (λ b. if b then Some (GoesOn (starts_at spot own (start_send Standard wants.wanted.comm sent) ++ sink_step (Some other) wants.wanted wants.is_known ∷ [])) else None) (sym e)

pub if_so : {A : Type 0} (b : Bool) (x y : A) → b ≡ true → (if b then x else y) ≡ x
if_so true x y e = refl
if_so false x y e = cc

pub if_not : {A : Type 0} (b : Bool) (x y : A) → b ≡ false → (if b then x else y) ≡ y
if_not true x y e = cc
if_not false x y e = refl

-- ---- Where there are no sinks ----

pub none_met : (records : List Written) (it : Sinks) (wanted : Wanted) → HasSinks records it → it.all.items ≡ [] → is_met records wanted ≡ false
none_met records it wanted has none = sym (met_kept records it wanted has) ∙ ap (list_any (λ (sink : SinkKept). overlap wanted sink.wanted)) none

pub blocks_plain : (spot : Spot) (came_back : Bool) (leaves : Leaves) (awaited : Awaited) (message : Option Said) (records : List Written) → is_some message ≡ true → ((wanted : Wanted) → is_met records wanted ≡ false)
    → blocks_sunk spot came_back leaves awaited message records ≡ None
blocks_plain spot came_back leaves awaited message records known met = by_wanted (wants_in spot.size spot.number awaited message)
  where
    by_wanted : (o : Option Wanted) → option_and_then (λ wanted. blocks_on spot came_back records (is_some message) wanted [] (steps_left leaves wanted (is_some message))) o ≡ None
    by_wanted None = refl
    by_wanted (Some wanted) =
        ap (λ b. outcome_by_fate (fate_by b (is_met records wanted) came_back spot.is_past) [] (steps_left leaves wanted (is_some message))) known
        ∙ ap (λ b. outcome_by_fate (fate_by true b came_back spot.is_past) [] (steps_left leaves wanted (is_some message))) (met wanted)

no_sink : (gone : Bool) (outcome : Outcome) → (if is_sink_by gone true false then Some outcome else None) ≡ None
no_sink true outcome = refl
no_sink false outcome = refl

pub starts_plain : (spot : Spot) (own : ℕ) (awaited : Awaited) (message : Option Said) (records : List Written) → is_some message ≡ true → ((wanted : Wanted) → is_met records wanted ≡ false)
    → starts_receive_sunk spot own awaited message records ≡ None
starts_plain spot own awaited message records known met = by_wanted (wants_in spot.size spot.number awaited message)
  where
    by_wanted : (o : Option Wanted) → option_and_then (λ wanted. if is_sink_by (is_gone spot.lines own) (is_some message) (is_met records wanted) then Some (GoesOn (sink_step (Some own) wanted (is_some message) ∷ [])) else None) o ≡ None
    by_wanted None = refl
    by_wanted (Some wanted) =
        ap (λ b. if is_sink_by (is_gone spot.lines own) b (is_met records wanted) then Some (GoesOn (sink_step (Some own) wanted (is_some message) ∷ [])) else None) known
        ∙ ap (λ b. if is_sink_by (is_gone spot.lines own) true b then Some (GoesOn (sink_step (Some own) wanted (is_some message) ∷ [])) else None) (met wanted)
        ∙ no_sink (is_gone spot.lines own) (GoesOn (sink_step (Some own) wanted (is_some message) ∷ []))

-- ---- An exchange that is pending ----

pub exchange_items : (first mid : Pending) (pushed : List Item) (number least : ℕ) (wanted : Wanted) → pending_said first ≡ unknown → mid ≡ first
    → pushed ≡ mid.items.items ++ item.Request number ∷ [] → number ≡ least
    → record { is_for_all = mid.is_for_all; items = pushed ++ item.Message wanted ∷ [] } ≡ for_all (item.Request least ∷ item.Message wanted ∷ [])
exchange_items first mid pushed number least wanted none same put is =
    let shown : (Bool → List Item → PendingCall) = λ (all : Bool) (items : List Item). record { is_for_all = all; items = items } in
    ap (λ xs. shown mid.is_for_all (xs ++ item.Message wanted ∷ [])) put
    ∙ ap (λ (it : Pending). shown it.is_for_all ((it.items.items ++ item.Request number ∷ []) ++ item.Message wanted ∷ [])) same
    ∙ ap (λ (it : PendingCall). shown it.is_for_all ((it.items ++ item.Request number ∷ []) ++ item.Message wanted ∷ [])) none
    ∙ ap (λ n. for_all (item.Request n ∷ item.Message wanted ∷ [])) is

pub halves_pending : (handed : Handed) (progress : Progress) (line : ℕ) (id : Id) (call : ℕ → Call) (wanted : Wanted) (known : Bool) (pending : PendingCall) (old mid new : Walk)
    → mid ≡ record old { list = mid.list; sinks = mid.sinks } → new ≡ record mid { pending = new.pending }
    → PutsSink {A = Unit {0}} (Ok tt) handed (after_step progress line (Starts id call)) line None wanted known old.sinks mid → IsKept progress.records old
    → pending_said new.pending ≡ pending → IsPendingAfter line (Starts id call ∷ sink_step None wanted known ∷ []) pending handed progress new
halves_pending handed progress line id call wanted known pending old mid new same_mid same_new put kept is =
    let after = after_step (after_step progress line (Starts id call)) line (sink_step None wanted known) in
    record {
      stands = subst (λ (walk : Walk). Stands handed after walk.list) (sym same_new) put.0;
      sinks = ap (λ (walk : Walk). walk.sinks.all.items) same_new ∙ put.1.all;
      waits = is;
      left_out = subst (λ (walk : Walk). IsLeftOut progress.records walk) (sym (same_new ∙ ap (λ (walk : Walk). record walk { pending = new.pending }) same_mid)) kept.left_out;
    }

-- ---- By the arm ----

pub none_if : (o : Option Wants) → ((wants : Wants) → o ≡ Some wants → ⊥) → None ≡ o
none_if None h = refl
none_if (Some wants) h = absurd (h wants refl)

-- steps of the line are put
pub goes_by : (line line' : ℕ) (came_back : Bool) (outcome : Option Outcome) (pending idle : PendingCall) (steps : List Step) (result : Result Bool Stop) (handed : Handed) (progress : Progress) (old new : Walk)
    → line ≡ line' → outcome ≡ Some (GoesOn steps) → TakesSteps line' steps result old new → Stands handed progress old.list → IsKept progress.records old
    → AllFit progress line (steps_if outcome) → IsSunkBy line came_back outcome pending idle result handed progress new
goes_by line line' came_back outcome pending idle steps result handed progress old new el e takes stands kept fits =
    puts_sunk line came_back outcome pending idle steps result handed progress new e
    (subst (λ n. PutsSteps n steps result handed progress new) (sym el)
    (takes handed progress stands kept (subst (λ n. AllFit progress n steps) el (subst (λ o. AllFit progress line (steps_if o)) e fits))))

-- and a call is pending after them
pub pends_goes : (line line' : ℕ) (came_back : Bool) (outcome : Option Outcome) (pending idle : PendingCall) (pend : Progress → PendingCall) (steps : List Step) (result : Result Bool Stop) (handed : Handed) (progress : Progress) (old new : Walk)
    → line ≡ line' → outcome ≡ Some (Ends steps Open (Some NeverCameBack)) → came_back ≡ false → pend progress ≡ pending → TakesPending line' steps pend result old new
    → Stands handed progress old.list → IsKept progress.records old → AllFit progress line (steps_if outcome) → IsSunkBy line came_back outcome pending idle result handed progress new
pends_goes line line' came_back outcome pending idle pend steps result handed progress old new el e back ep takes stands kept fits =
    subst (λ p. IsSunkBy line came_back outcome p idle result handed progress new) ep
    (pends_sunk line came_back outcome (pend progress) idle steps result handed progress new e back
    (subst (λ n. PendsAfter n steps (pend progress) result handed progress new) (sym el)
    (takes handed progress stands kept (subst (λ n. AllFit progress n steps) el (subst (λ o. AllFit progress line (steps_if o)) e fits)))))

-- ---- A start before a sink ----

abbrev pub half_of : Bool → ℕ → (ℕ → Call) → List Step
half_of gone own call = if gone then [] else Starts (Own own) call ∷ []

pub halves_put : (gone : Bool) (line own : ℕ) (call : ℕ → Call) (other : Option ℕ) (wanted : Wanted) (known : Bool) (result : Result Bool Stop) (handed : Handed) (progress : Progress) (old mid new : Walk)
    → mid ≡ record old { list = mid.list } → Stands handed (after_steps progress line (half_of gone own call)) mid.list → TakesSteps line (sink_step other wanted known ∷ []) result mid new
    → IsKept progress.records old → AllFit progress line (half_of gone own call ++ sink_step other wanted known ∷ [])
    → PutsSteps line (half_of gone own call ++ sink_step other wanted known ∷ []) result handed progress new
halves_put true line own call other wanted known result handed progress old mid new same stands takes kept fits =
    takes handed progress stands (kept_list progress.records old mid mid.list same kept) fits
halves_put false line own call other wanted known result handed progress old mid new same stands takes kept fits =
    then_sink result handed progress line (Own own) call other wanted known new (own_plain own)
    (takes handed (after_step progress line (Starts (Own own) call)) stands
    (kept_plain progress.records (call (least_free progress.active)) line (Own own) mid (own_plain own) (kept_list progress.records old mid mid.list same kept)) fits.1)

-- a list that stands isn't too long
never_cut : (handed : Handed) (progress : Progress) (line : ℕ) (old new : ListCode) → Stands handed progress old → IsCut handed progress line new → ⊥
never_cut handed progress line old new stands cut = omega (arith, cut.long, stands.short, stands.count)

none_cut : (A : Type 0) (stop : Stop) (line : ℕ) (steps : List Step) (handed : Handed) (progress : Progress) (list : ListCode) (new : Walk) → Stands handed progress list
    → ComesTo {A = A} (Err stop) handed progress line new.list → PutsSteps line steps (Err stop) handed progress new
none_cut A (Left TooLong) line steps handed progress list new stands cut = absurd (never_cut handed progress line list new.list stands cut)
none_cut A Memory line steps handed progress list new stands cut = tt
none_cut A (Left NeverCameBack) line steps handed progress list new stands cut = cut
none_cut A (Left NeverReported) line steps handed progress list new stands cut = cut
none_cut A (Left Failed) line steps handed progress list new stands cut = cut
none_cut A (Left NoNumber) line steps handed progress list new stands cut = cut
none_cut A (Left CannotBe) line steps handed progress list new stands cut = cut
none_cut A (Left Stopped) line steps handed progress list new stands cut = cut
none_cut A (Left Aborted) line steps handed progress list new stands cut = cut
none_cut A (Left Full) line steps handed progress list new stands cut = cut
none_cut A (Left Cut) line steps handed progress list new stands cut = cut
none_cut A (Left NotJudged) line steps handed progress list new stands cut = cut
none_cut A (Left NoJournal) line steps handed progress list new stands cut = cut

halves_stop : (A : Type 0) (gone : Bool) (stop : Stop) (line own : ℕ) (call : ℕ → Call) (other : Option ℕ) (wanted : Wanted) (known : Bool) (handed : Handed) (progress : Progress) (old new : Walk)
    → new ≡ record old { list = new.list } → Stands handed progress old.list → IsKept progress.records old
    → ComesTo {A = A} (Err stop) handed (after_steps progress line (half_of gone own call)) line new.list
    → PutsSteps line (half_of gone own call ++ sink_step other wanted known ∷ []) (Err stop) handed progress new
halves_stop A true stop line own call other wanted known handed progress old new same stands kept cut =
    none_cut A stop line (sink_step other wanted known ∷ []) handed progress old.list new stands cut
halves_stop A false stop line own call other wanted known handed progress old new same stands kept cut =
    first_stops A stop handed progress line (Own own) call other wanted known old new stands kept same cut

pub halves_stop_by : {A : Type 0} (r : Result A Stop) (gone : Bool) (stop : Stop) (result : Result Bool Stop) (line own : ℕ) (call : ℕ → Call) (other : Option ℕ) (wanted : Wanted) (known : Bool) (handed : Handed) (progress : Progress) (old new : Walk)
    → r ≡ Err stop → result ≡ Err stop → new ≡ record old { list = new.list } → Stands handed progress old.list → IsKept progress.records old
    → ComesTo r handed (after_steps progress line (half_of gone own call)) line new.list
    → PutsSteps line (half_of gone own call ++ sink_step other wanted known ∷ []) result handed progress new
halves_stop_by {A} r gone stop result line own call other wanted known handed progress old new er e same stands kept cut =
    subst (λ v. PutsSteps line (half_of gone own call ++ sink_step other wanted known ∷ []) v handed progress new) (sym e)
    (halves_stop A gone stop line own call other wanted known handed progress old new same stands kept
    (subst (λ v. ComesTo {A = A} v handed (after_steps progress line (half_of gone own call)) line new.list) er cut))
