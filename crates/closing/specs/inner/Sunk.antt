-- What comes of an entry by the sinks before it, by what is known of where its call stands: as `Sinks` has it, by each
-- call; and what is kept after it.
use Rattle.std.specs.Prelude.{◌≡◌, ℕ, ◌-◌, Bool, true, false, ◌&&◌, ◌||◌, not, Option, Some, None, is_some, is_none, option_map, option_and_then, option_to_list, if◌then◌else◌, Result, Ok, Err, List, [], ◌∷◌, ◌++◌, take}
use Rattle.std.specs.List.{filter_map, list_all, list_any}
use Rattle.closing.specs.inner.Started.{active_at as started_at}
use Rattle.mpicall.specs.Word.{or_else}
use Rattle.mpicall.specs.declared.call.Call.{Call}
use Rattle.mpicall.specs.declared.call.Call.TheVariants.{Irecv, Open}
use Rattle.mpicall.specs.declared.call.Mode.TheVariants.{Standard}
use Rattle.mpicall.specs.declared.call.Peer.TheVariants as peer
use Rattle.journals.specs.Lines.{Line}
use Rattle.journals.specs.declared.field.Field.{Field}
use Rattle.journals.specs.declared.field.Field.TheVariants.{Natural}
use Rattle.closing.specs.Called.{Called, Sent, Awaited, Receives, StartsReceive, Exchanges, StartsExchange, Probes, ProbesMatching, ReceivesMatched, Waits, Tests, WaitsAny, WaitsSome}
use Rattle.closing.specs.Endings.{sent_can_be}
use Rattle.closing.specs.Entry.{id_of, ids_of, start_send}
use Rattle.closing.specs.Fit.{AllFit, steps_in}
use Rattle.closing.specs.Pending.{PendingCall, for_all, sinks_from, unknown, pending_said}
use Rattle.closing.specs.Reported.{Message, done_of, is_gone, is_left_out, message_can_be, message_of, peer_can_be, tag_can_be, unless_moved}
use Rattle.closing.specs.Sinks.{Outcome, GoesOn, Ends, ends, is_met, is_nobody, sink_for, wanted_by}
use Rattle.closing.specs.Steps.{Whole, Sink, Progress, Step, Starts, Written, after_step, after_steps, least_free, number_in}
use Rattle.closing.specs.inner.Lists.{Handed, IsCut, Stands}
use Rattle.closing.specs.inner.Outcomes.{outcome_at}
use Rattle.closing.specs.inner.Outcomes as kept
use Rattle.closing.specs.inner.Sinks.{HasSinks, named_in}
use Rattle.closing.specs.inner.Standings.{id_in}
use Rattle.closing.specs.inner.Taken.{IsKept, IsLeftOut}
use Rattle.closing.specs.inner.Walks.{Spot, starts_at}
use Rattle.closing.specs.declared.list.List.{List as ListCode}
use Rattle.closing.specs.declared.list.TheConstants.{MOST_RECORDS}
use Rattle.closing.specs.declared.pending.Item.{Item}
use Rattle.closing.specs.declared.pending.Item.TheVariants as item
use Rattle.closing.specs.declared.pending.Pending.{Pending}
use Rattle.closing.specs.declared.pending.Sinks.{Sinks}
use Rattle.closing.specs.declared.pending.Wanted.{Wanted}
use Rattle.closing.specs.declared.standing.Standing.{Standing}
use Rattle.closing.specs.declared.stop.Stop.{Stop}
use Rattle.closing.specs.declared.stop.Stop.TheVariants as stop
use Rattle.closing.specs.declared.walk.Walk.{Walk}
use Rattle.closing.specs.declared.walk.sinks.Fate.{Fate}
use Rattle.closing.specs.declared.walk.sinks.Fate.TheVariants as fate
use Rattle.closing.specs.declared.walk.sinks.Leaves.{Leaves}
use Rattle.closing.specs.declared.walk.sinks.Leaves.TheVariants as leaves
use Rattle.closing.specs.declared.walk.sinks.Wants.{Wants}
use Rattle.closing.specs.declared.why.Why.{Why}
use Rattle.closing.specs.declared.why.Why.TheVariants.{NeverCameBack, NeverReported, NotJudged, TooLong}

-- ---- What a receive or probe may take ----

abbrev pub is_from_nobody : Option Message → Bool
is_from_nobody None = false
is_from_nobody (Some it) = is_nobody it.source

-- None of one that takes nothing, can't be, or is on a communicator without a number
abbrev pub wants_in : ℕ → Option ℕ → Awaited → Option Message → Option Wanted
wants_in size None awaited message = None
wants_in size (Some comm) awaited message =
    if is_nobody awaited.source || not (peer_can_be size awaited.source && (tag_can_be awaited.tag && message_can_be size message)) then None
    else if is_from_nobody message then None
    else Some (wanted_by comm awaited message)

-- of an exchange, whose send can be too
abbrev pub wants_both : ℕ → Option ℕ → Sent → Awaited → Option Message → Option Wanted
wants_both size number sent awaited message = if sent_can_be size sent then wants_in size number awaited message else None

abbrev pub with_known : Bool → Wanted → Wants
with_known is_known wanted = record { wanted = wanted; is_known = is_known }

-- ---- What is put ----

-- what stands for a sink, by its request's number
abbrev pub null_receive : Wanted → ℕ → Call
null_receive wanted request = Irecv request wanted.comm peer.Null 0

abbrev pub sink_step : Option ℕ → Wanted → Bool → Step
sink_step own wanted is_known = Starts (Sink own wanted is_known) (null_receive wanted)

abbrev pub why_of_sink : Bool → Why
why_of_sink is_known = if is_known then NotJudged else NeverReported

-- a sink is put last, unless the list is too long
abbrev pub PutsSink : {A : Type 0} → Result A Stop → Handed → Progress → ℕ → Option ℕ → Wanted → Bool → Sinks → Walk → Type 0
PutsSink (Ok done) handed progress line own wanted is_known old new =
    Stands handed (after_step progress line (sink_step own wanted is_known)) new.list
    × HasSinks (after_step progress line (sink_step own wanted is_known)).records new.sinks
PutsSink (Err (stop.Left TooLong)) handed progress line own wanted is_known old new =
    IsCut handed (after_step progress line (sink_step own wanted is_known)) line new.list × (new.sinks ≡ old)
PutsSink (Err (stop.Left why)) handed progress line own wanted is_known old new = ⊥
PutsSink (Err stop.Memory) handed progress line own wanted is_known old new = Unit {0}

-- ---- The call that is pending ----

-- it waits for one message more
abbrev pub PendsFor : Result Bool Stop → Pending → Pending → Wanted → Type 0
PendsFor (Ok done) old new wanted = ⊥
PendsFor (Err (stop.Left NeverCameBack)) old new wanted =
    pending_said new ≡ record { is_for_all = old.is_for_all; items = old.items.items ++ item.Message wanted ∷ [] }
PendsFor (Err (stop.Left why)) old new wanted = ⊥
PendsFor (Err stop.Memory) old new wanted = Unit {0}

-- ---- What becomes of a call that blocks ----

abbrev pub fate_by : Bool → Bool → Bool → Bool → Fate
fate_by is_known is_met came_back is_past =
    if is_known && not is_met then fate.Plain
    else if not came_back then fate.Pends
    else if not is_known then fate.Ends NeverCameBack
    else if is_past then fate.Sinks
    else fate.Ends NotJudged

-- by its steps where it is pending, and where it went
abbrev pub outcome_by_fate : Fate → List Step → List Step → Option Outcome
outcome_by_fate fate.Plain pending past = None
outcome_by_fate fate.Sinks pending past = Some (GoesOn past)
outcome_by_fate fate.Pends pending past = Some (Ends pending Open (Some NeverCameBack))
outcome_by_fate (fate.Ends why) pending past = Some (ends why)

abbrev pub blocks_on : Spot → Bool → List Written → Bool → Wanted → List Step → List Step → Option Outcome
blocks_on spot came_back records is_known wanted pending past =
    outcome_by_fate (fate_by is_known (is_met records wanted) came_back spot.is_past) pending past

-- ---- By each call ----

abbrev pub half_step : Spot → Wanted → Sent → Step
half_step spot wanted sent = Starts (Whole spot.line) (start_send Standard wanted.comm sent)

-- what it leaves where it went
abbrev pub steps_left : Leaves → Wanted → Bool → List Step
steps_left leaves.Nothing wanted is_known = []
steps_left (leaves.Sink own) wanted is_known = sink_step own wanted is_known ∷ []

abbrev pub blocks_sunk : Spot → Bool → Leaves → Awaited → Option Message → List Written → Option Outcome
blocks_sunk spot came_back it awaited message records = option_and_then
    (λ wanted. blocks_on spot came_back records (is_some message) wanted [] (steps_left it wanted (is_some message)))
    (wants_in spot.size spot.number awaited message)

abbrev pub exchange_steps : Spot → Wanted → Sent → Bool → List Step
exchange_steps spot wanted sent is_known = half_step spot wanted sent ∷ sink_step None wanted is_known ∷ []

abbrev pub exchanges_sunk : Spot → Bool → Sent → Awaited → Option Message → List Written → Option Outcome
exchanges_sunk spot came_back sent awaited message records = option_and_then
    (λ wanted. blocks_on spot came_back records (is_some message) wanted
    (exchange_steps spot wanted sent (is_some message)) (exchange_steps spot wanted sent (is_some message)))
    (wants_both spot.size spot.number sent awaited message)

-- a started receive is a sink: it wasn't cancelled, and nobody knows what it took, or a sink may take that
abbrev pub is_sink_by : Bool → Bool → Bool → Bool
is_sink_by is_gone is_known is_met = not is_gone && (not is_known || is_met)

abbrev pub starts_receive_sunk : Spot → ℕ → Awaited → Option Message → List Written → Option Outcome
starts_receive_sunk spot own awaited message records = option_and_then
    (λ wanted. if is_sink_by (is_gone spot.lines own) (is_some message) (is_met records wanted)
    then Some (GoesOn (sink_step (Some own) wanted (is_some message) ∷ [])) else None)
    (wants_in spot.size spot.number awaited message)

abbrev pub starts_exchange_sunk : Spot → ℕ → ℕ → Sent → Awaited → Option Message → List Written → Option Outcome
starts_exchange_sunk spot own other sent awaited message records = option_and_then
    (λ wanted. if is_sink_by (is_gone spot.lines other) (is_some message) (is_met records wanted)
    then Some (GoesOn (starts_at spot own (start_send Standard wanted.comm sent) ++ sink_step (Some other) wanted (is_some message) ∷ [])) else None)
    (wants_both spot.size spot.number sent awaited message)

-- what the sink of a request may take, and what a pending wait waits for by a request, as they are kept
abbrev pub sink_at : Standing → Sinks → Field → Option Wanted
sink_at standing sinks (Natural request) =
    if kept.is_left_out (outcome_at standing.outcomes request) then None else named_in sinks (id_in standing request)
sink_at standing sinks field = None

abbrev pub active_at : Standing → ListCode → Field → Option Item
active_at standing list (Natural request) =
    if kept.is_left_out (outcome_at standing.outcomes request) then None
    else option_map (λ active. item.Request active.number) (started_at list.active (id_in standing request))
active_at standing list field = None

abbrev pub item_at : Standing → Sinks → ListCode → Field → Option Item
item_at standing sinks list field =
    or_else (option_map (λ wanted. item.Message wanted) (sink_at standing sinks field)) (active_at standing list field)

-- some of these requests is a sink's
abbrev pub names_sink : List Line → List ℕ → List Written → Bool
names_sink lines requests records = list_any (λ id. is_some (sink_for records id)) (ids_of lines requests)

abbrev pub waits_sunk : Spot → Bool → List ℕ → List Written → Option Outcome
waits_sunk spot came_back requests records =
    if spot.is_past || not (names_sink spot.lines requests records) then None
    else Some (ends (if came_back then NotJudged else NeverCameBack))

abbrev pub chooses_sunk : Spot → Bool → List ℕ → List Written → Option Outcome
chooses_sunk spot came_back (request ∷ []) records = waits_sunk spot came_back (request ∷ []) records
chooses_sunk spot came_back requests records =
    option_and_then (λ chosen. waits_sunk spot came_back chosen records) spot.chose

abbrev pub sunk_on : Spot → Bool → List Written → Called → Option Outcome
sunk_on spot came_back records (Receives awaited) =
    blocks_sunk spot came_back (leaves.Sink None) awaited (message_of awaited spot.got) records
sunk_on spot came_back records (StartsReceive own awaited) =
    starts_receive_sunk spot own (unless_moved spot.lines own awaited) (message_of (unless_moved spot.lines own awaited) (done_of spot.lines own)) records
sunk_on spot came_back records (Exchanges sent awaited) = exchanges_sunk spot came_back sent awaited (message_of awaited spot.got) records
sunk_on spot came_back records (StartsExchange own other sent awaited) =
    starts_exchange_sunk spot own other sent (unless_moved spot.lines other awaited) (message_of (unless_moved spot.lines other awaited) (done_of spot.lines other)) records
sunk_on spot came_back records (Probes awaited) =
    blocks_sunk spot came_back leaves.Nothing awaited (message_of awaited spot.got) records
sunk_on spot came_back records (ProbesMatching own awaited) =
    blocks_sunk spot came_back (leaves.Sink (Some own)) awaited (message_of awaited spot.got) records
sunk_on spot came_back records (ReceivesMatched message) = waits_sunk spot came_back (message ∷ []) records
sunk_on spot came_back records (Waits requests) = waits_sunk spot came_back requests records
sunk_on spot came_back records (Tests requests) = waits_sunk spot came_back requests records
sunk_on spot came_back records (WaitsAny requests) = chooses_sunk spot came_back requests records
sunk_on spot came_back records (WaitsSome requests) = chooses_sunk spot came_back requests records
sunk_on spot came_back records it = None

-- ---- The pending call ----

-- with more items
abbrev pub with_items : Pending → List Item → PendingCall
with_items it items = record { is_for_all = it.is_for_all; items = it.items.items ++ items }

abbrev pub any_of : Bool → List Item → PendingCall
any_of all items = record { is_for_all = false; items = if all then items else [] }

abbrev pub message_pending : Option Wanted → PendingCall
message_pending wanted = for_all (option_to_list (option_map (λ it. item.Message it) wanted))

abbrev pub exchange_pending : Option Wanted → Progress → PendingCall
exchange_pending wanted progress =
    for_all (item.Request (least_free progress.active) ∷ option_to_list (option_map (λ it. item.Message it) wanted))

abbrev pub item_in : List Line → Progress → ℕ → Option Item
item_in lines progress request =
    if is_left_out lines request then None
    else or_else (option_map (λ wanted. item.Message wanted) (sink_for progress.records (id_of lines request)))
    (option_map (λ number. item.Request number) (number_in progress.active (id_of lines request)))

abbrev pub waits_pending : List Line → List ℕ → Progress → PendingCall
waits_pending lines requests progress = for_all (filter_map (item_in lines progress) requests)

abbrev pub any_pending : List Line → List ℕ → Progress → PendingCall
any_pending lines requests progress =
    any_of (list_all (λ request. is_some (item_in lines progress request)) requests) (filter_map (item_in lines progress) requests)

-- one for any or some: as for all where it names one, else by all that it names
abbrev pub chooses_pending : List Line → List ℕ → Progress → PendingCall
chooses_pending lines (request ∷ []) progress = waits_pending lines (request ∷ []) progress
chooses_pending lines requests progress = any_pending lines requests progress

-- what is kept of it where it stands for what it does without sinks
abbrev pub chooses_idle : Spot → Bool → List ℕ → Progress → PendingCall
chooses_idle spot came_back (request ∷ []) progress = unknown
chooses_idle spot came_back requests progress =
    if is_none spot.chose && not came_back then any_pending spot.lines requests progress else unknown

-- by the call
abbrev pub pending_on : Spot → Called → Progress → PendingCall
pending_on spot (Receives awaited) progress = message_pending (wants_in spot.size spot.number awaited (message_of awaited spot.got))
pending_on spot (Exchanges sent awaited) progress =
    exchange_pending (wants_both spot.size spot.number sent awaited (message_of awaited spot.got)) progress
pending_on spot (Probes awaited) progress = message_pending (wants_in spot.size spot.number awaited (message_of awaited spot.got))
pending_on spot (ProbesMatching own awaited) progress =
    message_pending (wants_in spot.size spot.number awaited (message_of awaited spot.got))
pending_on spot (ReceivesMatched message) progress = waits_pending spot.lines (message ∷ []) progress
pending_on spot (Waits requests) progress = waits_pending spot.lines requests progress
pending_on spot (WaitsAny requests) progress = chooses_pending spot.lines requests progress
pending_on spot (WaitsSome requests) progress = chooses_pending spot.lines requests progress
pending_on spot it progress = unknown

abbrev pub idle_on : Spot → Bool → Called → Progress → PendingCall
idle_on spot came_back (WaitsAny requests) progress = chooses_idle spot came_back requests progress
idle_on spot came_back (WaitsSome requests) progress = chooses_idle spot came_back requests progress
idle_on spot came_back it progress = unknown

-- one that chose some came back
abbrev pub ChoseBack : Spot → Bool → Type 0
ChoseBack spot came_back = is_some spot.chose ≡ true → came_back ≡ true

-- that which was kept where the list ends
abbrev pub pending_when : Why → Bool → PendingCall → PendingCall
pending_when NeverCameBack came_back pending = if came_back then unknown else pending
pending_when why came_back pending = unknown

-- ---- Steps that put a sink last ----

-- where the list is too long for them, it ends before the sink
pub record IsCutBefore (line : ℕ) (steps : List Step) (handed : Handed) (progress : Progress) (walk : Walk) : Type 0 where
  pub cut : IsCut handed (after_steps progress line steps) line walk.list
  pub same : sinks_from 0 (take (MOST_RECORDS - 1) (after_steps progress line steps).records) ≡ sinks_from 0 progress.records
  pub kept : IsKept progress.records walk

-- the list goes on
abbrev pub PutsSteps : ℕ → List Step → Result Bool Stop → Handed → Progress → Walk → Type 0
PutsSteps line steps (Ok false) handed progress walk = ⊥
PutsSteps line steps (Ok true) handed progress walk =
    Stands handed (after_steps progress line steps) walk.list × IsKept (after_steps progress line steps).records walk
PutsSteps line steps (Err (stop.Left TooLong)) handed progress walk = IsCutBefore line steps handed progress walk
PutsSteps line steps (Err (stop.Left why)) handed progress walk = ⊥
PutsSteps line steps (Err stop.Memory) handed progress walk = Unit {0}

abbrev pub TakesSteps : ℕ → List Step → Result Bool Stop → Walk → Walk → Type 0
TakesSteps line steps result old new =
    (handed : Handed) (progress : Progress) → Stands handed progress old.list → IsKept progress.records old
    → AllFit progress line steps → PutsSteps line steps result handed progress new

-- a call is pending after them
pub record IsPendingAfter (line : ℕ) (steps : List Step) (pending : PendingCall) (handed : Handed) (progress : Progress) (walk : Walk) : Type 0 where
  pub stands : Stands handed (after_steps progress line steps) walk.list
  pub sinks : walk.sinks.all.items ≡ sinks_from 0 (after_steps progress line steps).records
  pub waits : pending_said walk.pending ≡ pending
  pub left_out : IsLeftOut progress.records walk

abbrev pub PendsAfter : ℕ → List Step → PendingCall → Result Bool Stop → Handed → Progress → Walk → Type 0
PendsAfter line steps pending (Ok done) handed progress walk = ⊥
PendsAfter line steps pending (Err (stop.Left TooLong)) handed progress walk = IsCutBefore line steps handed progress walk
PendsAfter line steps pending (Err (stop.Left NeverCameBack)) handed progress walk = IsPendingAfter line steps pending handed progress walk
PendsAfter line steps pending (Err (stop.Left why)) handed progress walk = ⊥
PendsAfter line steps pending (Err stop.Memory) handed progress walk = Unit {0}

abbrev pub TakesPending : ℕ → List Step → (Progress → PendingCall) → Result Bool Stop → Walk → Walk → Type 0
TakesPending line steps pending result old new =
    (handed : Handed) (progress : Progress) → Stands handed progress old.list → IsKept progress.records old
    → AllFit progress line steps → PendsAfter line steps (pending progress) result handed progress new

-- ---- After the entry ----

abbrev pub steps_if : Option Outcome → List Step
steps_if None = []
steps_if (Some outcome) = steps_in outcome

-- nothing was put
pub record LeavesSinks (handed : Handed) (progress : Progress) (idle : PendingCall) (walk : Walk) : Type 0 where
  pub stands : Stands handed progress walk.list
  pub sinks : HasSinks progress.records walk.sinks
  pub pending : pending_said walk.pending ≡ idle
  pub left_out : IsLeftOut progress.records walk

-- the steps were put
pub record GoesOnSunk (line : ℕ) (outcome : Option Outcome) (handed : Handed) (progress : Progress) (walk : Walk) : Type 0 where
  pub steps : List Step
  pub is : outcome ≡ Some (GoesOn steps)
  pub stands : Stands handed (after_steps progress line steps) walk.list
  pub kept : IsKept (after_steps progress line steps).records walk

-- the list is to end
pub record EndsSunk (line : ℕ) (came_back : Bool) (outcome : Option Outcome) (pending : PendingCall) (why : Why) (handed : Handed) (progress : Progress) (walk : Walk) : Type 0 where
  pub steps : List Step
  pub is : outcome ≡ Some (Ends steps Open (Some why))
  pub stands : Stands handed (after_steps progress line steps) walk.list
  pub sinks : walk.sinks.all.items ≡ sinks_from 0 (after_steps progress line steps).records
  pub waits : pending_said walk.pending ≡ pending_when why came_back pending
  pub left_out : IsLeftOut progress.records walk

-- it is too long, and ends before its sink
pub record IsCutSunk (line : ℕ) (outcome : Option Outcome) (handed : Handed) (progress : Progress) (walk : Walk) : Type 0 where
  pub found : Outcome
  pub is : outcome ≡ Some found
  pub before : IsCutBefore line (steps_in found) handed progress walk

abbrev pub IsSunkBy : ℕ → Bool → Option Outcome → PendingCall → PendingCall → Result Bool Stop → Handed → Progress → Walk → Type 0
IsSunkBy line came_back outcome pending idle (Ok false) handed progress walk = (outcome ≡ None) × LeavesSinks handed progress idle walk
IsSunkBy line came_back outcome pending idle (Ok true) handed progress walk = GoesOnSunk line outcome handed progress walk
IsSunkBy line came_back outcome pending idle (Err (stop.Left TooLong)) handed progress walk = IsCutSunk line outcome handed progress walk
IsSunkBy line came_back outcome pending idle (Err (stop.Left why)) handed progress walk =
    EndsSunk line came_back outcome pending why handed progress walk
IsSunkBy line came_back outcome pending idle (Err stop.Memory) handed progress walk = Unit {0}

-- a method that takes an entry by the sinks before it; by what is pending where the list ends, and where nothing was put
abbrev pub TakesSunk : ℕ → Bool → (List Written → Option Outcome) → (Progress → PendingCall) → (Progress → PendingCall) → Result Bool Stop → Walk → Walk → Type 0
TakesSunk line came_back outcome pending idle result old new =
    (handed : Handed) (progress : Progress) → Stands handed progress old.list → IsKept progress.records old
    → AllFit progress line (steps_if (outcome progress.records))
    → IsSunkBy line came_back (outcome progress.records) (pending progress) (idle progress) result handed progress new
