-- The list of a rank as an entry is taken: by its steps, one after the other, or to its end.
use Rattle.std.proofs.Common.{rules, ◌≡◌, refl, sym, ◌∙◌, ap, subst, ℕ, ◌≤◌, Bool, true, false, ◌&&◌, if◌then◌else◌, Option, Some, None, Result, Ok, Err, List, [], ◌∷◌, pos, negsuc, lt-ltb, arith}
use Rattle.std.proofs.lemmas.Bool.{ltb-true}
use Rattle.std.proofs.lemmas.Result.{err_from_is_err_and}
use Rattle.std.specs.Result.{IsErrAnd}
use Rattle.std.specs.Prelude.{IsTrue, option_map}
use Rattle.mpicall.specs.Limits.{in_ranges}
use Rattle.mpicall.specs.declared.call.Call.{Call}
use Rattle.mpicall.specs.declared.call.Call.TheVariants.{Open}
use Rattle.closing.specs.Steps.{Id, Own, Whole, ReceiveHalf, Progress, Step, Does, Starts, number_in, after_step}
use Rattle.closing.specs.Sinks.{Outcome, GoesOn, Ends}
use Rattle.closing.specs.Reported.{peer_can_be}
use Rattle.closing.specs.inner.Lists.{Handed, Stands, ComesTo, IsUnnamed, start_call}
use Rattle.closing.specs.inner.Views.{message_view}
use Rattle.mpicall.specs.declared.call.Mode.{Mode}
use Rattle.closing.specs.Called.{Sent, Awaited}
use Rattle.closing.specs.Entry.{send, start_send, receive, start_receive}
use Rattle.closing.specs.Endings.{sent_can_be, awaited_can_be}
use Rattle.closing.specs.Reported.{Message as Said, message_of, message_can_be, tag_can_be}
use Rattle.closing.specs.Sinks.{is_nobody, wanted_by}
use Rattle.closing.specs.inner.Sunk.{wants_in, with_known}
use Rattle.closing.specs.declared.walk.sinks.Wants.{Wants}
use Rattle.closing.specs.declared.pending.Wanted.{Wanted}
use Rattle.closing.specs.inner.Walks.{Spot, numbered, known_or_ends, does_at, sends_on}
use Rattle.closing.specs.inner.Walked.{AwaitedOr, IsAt, Takes, number_or, known_or, number_at, size_at}
use Rattle.journals.specs.declared.field.Field.{Field}
use Rattle.journals.specs.declared.field.Field.TheVariants.{Natural, Signed, Null, Any, Undefined}
use Rattle.closing.specs.declared.message.Message.{Message as MessageCode}
use Rattle.closing.specs.declared.walk.At.{At}
use Rattle.closing.specs.declared.list.List.{List as ListCode}
use Rattle.closing.specs.declared.list.Start.{Start}
use Rattle.closing.specs.declared.stop.Stop.{Stop}
use Rattle.closing.specs.declared.why.Why.TheVariants.{NoNumber, CannotBe, NeverCameBack}

-- what a `?` returns for an error of the same kind
pub residual : {B : Type 0} (r : Result B Stop) (stop : Stop) → IsErrAnd r (λ e. e ≡ stop) → r ≡ Err stop
residual r stop h = let p = err_from_is_err_and r h in p.1 ∙ ap (λ e. Err e) p.2

-- ---- By the number ----

-- the same of the spot as of what the code has
pub same_number : (spot : Spot) (at : At) (size : ℕ) (f : ℕ → Bool) (b : Bool) (r : Result ℕ Stop) → IsAt spot at → size ≡ size_at at → b ≡ f size → r ≡ number_or b (number_at at) → r ≡ number_or (f spot.size) spot.number
same_number spot at size f b r is es eb er =
    er ∙ ap (λ v. number_or v (number_at at)) (eb ∙ ap f (es ∙ is.size)) ∙ ap (number_or (f spot.size)) is.number

abbrev as_unit : {A B : Type 0} → B → Result A Stop → Result B Stop
as_unit done (Ok it) = Ok done
as_unit done (Err stop) = Err stop

pub stops : {B : Type 0} (done : B) (spot : Spot) (b : Bool) (n : Option ℕ) (others : ℕ → Outcome) (stop : Stop) (it : ListCode)
    → Err stop ≡ number_or b n → Takes {A = B} spot (numbered b n others) (Err stop) it it
stops {B} done spot false n others stop it e =
    subst (λ r. Takes {A = B} spot (numbered false n others) (as_unit done r) it it) (sym e) (λ handed progress stands fits. (refl, stands))
stops {B} done spot true None others stop it e =
    subst (λ r. Takes {A = B} spot (numbered true None others) (as_unit done r) it it) (sym e) (λ handed progress stands fits. (refl, stands))
stops done spot true (Some number) others stop it e = cc

pub goes : {B : Type 0} (spot : Spot) (b : Bool) (n : Option ℕ) (others : ℕ → Outcome) (comm : ℕ) (result : Result B Stop) (old new : ListCode)
    → Ok comm ≡ number_or b n → Takes spot (others comm) result old new → Takes spot (numbered b n others) result old new
goes spot false n others comm result old new e t = cc
goes spot true None others comm result old new e t = cc
goes {B} spot true (Some number) others comm result old new e t =
    let same : comm ≡ number = cc in subst (λ m. Takes {A = B} spot (others m) result old new) same t

pub could_be : (b : Bool) (n : Option ℕ) (comm : ℕ) → Ok comm ≡ number_or b n → b ≡ true
could_be false n comm e = cc
could_be true n comm e = refl

-- ---- By the message ----

pub unknown_stops : {B : Type 0} (done : B) (spot : Spot) (m : Option MessageCode) (steps : Said → List Step) (stop : Stop) (it : ListCode)
    → Err stop ≡ known_or m → Takes {A = B} spot (known_or_ends (option_map message_view m) steps) (Err stop) it it
unknown_stops {B} done spot None steps stop it e =
    subst (λ r. Takes {A = B} spot (ends_unknown) (as_unit done r) it it) (sym e) (λ handed progress stands fits. (refl, stands))
  where
    ends_unknown : Outcome
    ends_unknown = Ends [] Open (Some NeverCameBack)
unknown_stops done spot (Some message) steps stop it e = cc

pub known_goes : {B : Type 0} (spot : Spot) (m : Option MessageCode) (steps : Said → List Step) (message : MessageCode) (result : Result B Stop) (old new : ListCode)
    → Ok message ≡ known_or m → Takes spot (GoesOn (steps (message_view message))) result old new
    → Takes spot (known_or_ends (option_map message_view m) steps) result old new
known_goes spot None steps message result old new e t = cc
known_goes {B} spot (Some other) steps message result old new e t =
    let same : message ≡ other = cc in subst (λ m. Takes {A = B} spot (GoesOn (steps (message_view m))) result old new) same t

-- ---- One step ----

pub nothing_put : {B : Type 0} (done : B) (spot : Spot) (it : ListCode) → Takes {A = B} spot (GoesOn []) (Ok done) it it
nothing_put done spot it = λ handed progress stands fits. stands

abbrev pub Doing : {B : Type 0} → Call → Result B Stop → ListCode → ListCode → Type 0
Doing call result old new =
    (handed : Handed) (progress : Progress) (line : ℕ) → Stands handed progress old → IsTrue (in_ranges call)
    → ComesTo result handed (after_step progress line (Does call)) line new

pub puts : {B : Type 0} (spot : Spot) (call said : Call) (result : Result B Stop) (old new : ListCode)
    → call ≡ said → Doing call result old new → Takes spot (GoesOn (Does said ∷ [])) result old new
puts {B} spot call said result old new e does =
    subst (λ v. Takes {A = B} spot (GoesOn (Does v ∷ [])) result old new) e
    (λ handed progress stands fits. does handed progress spot.line stands fits.0)

abbrev pub StartingUnnamed : {B : Type 0} → Start → Result B Stop → ListCode → ListCode → Type 0
StartingUnnamed start result old new =
    (handed : Handed) (progress : Progress) (line : ℕ) (id : Id) → Stands handed progress old → IsTrue (in_ranges (start_call start 0))
    → IsUnnamed id → ComesTo result handed (after_step progress line (Starts id (start_call start))) line new

pub starts_whole : {B : Type 0} (spot : Spot) (start : Start) (said : ℕ → Call) (result : Result B Stop) (old new : ListCode)
    → start_call start ≡ said → StartingUnnamed start result old new → Takes spot (GoesOn (Starts (Whole spot.line) said ∷ [])) result old new
starts_whole {B} spot start said result old new e starts =
    subst (λ v. Takes {A = B} spot (GoesOn (Starts (Whole spot.line) v ∷ [])) result old new) e
    (λ handed progress stands fits. starts handed progress spot.line (Whole spot.line) stands fits.0 tt)

pub starts_half : {B : Type 0} (spot : Spot) (start : Start) (said : ℕ → Call) (result : Result B Stop) (old new : ListCode)
    → start_call start ≡ said → StartingUnnamed start result old new → Takes spot (GoesOn (Starts (ReceiveHalf spot.line) said ∷ [])) result old new
starts_half {B} spot start said result old new e starts =
    subst (λ v. Takes {A = B} spot (GoesOn (Starts (ReceiveHalf spot.line) v ∷ [])) result old new) e
    (λ handed progress stands fits. starts handed progress spot.line (ReceiveHalf spot.line) stands fits.0 tt)

abbrev pub Starting : {B : Type 0} → ℕ → Start → Result B Stop → ListCode → ListCode → Type 0
Starting id start result old new =
    (handed : Handed) (progress : Progress) (line : ℕ) → Stands handed progress old → IsTrue (in_ranges (start_call start 0))
    → number_in progress.active (Own id) ≡ None → ComesTo result handed (after_step progress line (Starts (Own id) (start_call start))) line new

pub starts_own : {B : Type 0} (spot : Spot) (id : ℕ) (start : Start) (said : ℕ → Call) (result : Result B Stop) (old new : ListCode)
    → start_call start ≡ said → Starting id start result old new → Takes spot (GoesOn (Starts (Own id) said ∷ [])) result old new
starts_own {B} spot id start said result old new e starts =
    subst (λ v. Takes {A = B} spot (GoesOn (Starts (Own id) v ∷ [])) result old new) e
    (λ handed progress stands fits. starts handed progress spot.line stands fits.0.0 fits.0.1)

-- ---- By whether the call came back ----

pub if_past : {B : Type 0} (spot : Spot) (past : Bool) (some others : List Step) (result : Result B Stop) (old new : ListCode)
    → past ≡ true → Takes spot (GoesOn some) result old new → Takes spot (GoesOn (if past then some else others)) result old new
if_past spot true some others result old new e t = t
if_past spot false some others result old new e t = cc

pub unless : {B : Type 0} (spot : Spot) (past : Bool) (some others : List Step) (result : Result B Stop) (old new : ListCode)
    → past ≡ false → Takes spot (GoesOn others) result old new → Takes spot (GoesOn (if past then some else others)) result old new
unless spot true some others result old new e t = cc
unless spot false some others result old new e t = t

-- ---- What can be ----

to_true : (b : Bool) → b ≡ true → IsTrue b
to_true true e = search rules
to_true false e = cc

peer_less : (size : ℕ) (peer : Field) → size ≤ 1024 → peer_can_be size peer ≡ true → peer_can_be 1024 peer ≡ true
peer_less size Null h e = refl
peer_less size (Signed (pos rank)) h e = lt-ltb rank 1024 (omega (arith, ltb-true rank size e))
peer_less size (Signed (negsuc n)) h e = cc
peer_less size Any h e = refl
peer_less size (Natural n) h e = cc
peer_less size Undefined h e = cc

-- a peer that can be is one in the greatest run
pub peer_up : (size : ℕ) (peer : Field) → size ≤ 1024 → peer_can_be size peer ≡ true → IsTrue (peer_can_be 1024 peer)
peer_up size peer h e = to_true (peer_can_be 1024 peer) (peer_less size peer h e)

pub both_left : (a b : Bool) → (a && b) ≡ true → a ≡ true
both_left true b e = refl
both_left false b e = cc

pub both_right : (a b : Bool) → (a && b) ≡ true → b ≡ true
both_right true b e = e
both_right false b e = cc

-- ---- A line, or what it starts ----

pub does_past : {B : Type 0} (spot : Spot) (call : Call) (said : ℕ → Call) (start : Start) (result : Result B Stop) (old new : ListCode)
    → spot.is_past ≡ true → start_call start ≡ said → StartingUnnamed start result old new
    → Takes spot (GoesOn (does_at spot call said)) result old new
does_past spot call said start result old new past e starts =
    if_past spot spot.is_past (Starts (Whole spot.line) said ∷ []) (Does call ∷ []) result old new past
    (starts_whole spot start said result old new e starts)

pub does_now : {B : Type 0} (spot : Spot) (said : Call) (start : ℕ → Call) (call : Call) (result : Result B Stop) (old new : ListCode)
    → spot.is_past ≡ false → call ≡ said → Doing call result old new → Takes spot (GoesOn (does_at spot said start)) result old new
does_now spot said start call result old new past e does =
    unless spot spot.is_past (Starts (Whole spot.line) start ∷ []) (Does said ∷ []) result old new past
    (puts spot call said result old new e does)

-- ---- Sends ----

pub sends_past : {B : Type 0} (spot : Spot) (mode : Mode) (sent : Sent) (comm : ℕ) (start : Start) (result : Result B Stop) (old new : ListCode)
    → Ok comm ≡ number_or (sent_can_be spot.size sent) spot.number → spot.is_past ≡ true → start_call start ≡ start_send mode comm sent
    → StartingUnnamed start result old new → Takes spot (sends_on spot mode sent) result old new
sends_past spot mode sent comm start result old new e past same starts =
    goes spot (sent_can_be spot.size sent) spot.number (λ comm. GoesOn (does_at spot (send mode comm sent) (start_send mode comm sent))) comm result old new e
    (does_past spot (send mode comm sent) (start_send mode comm sent) start result old new past same starts)

pub sends_now : {B : Type 0} (spot : Spot) (mode : Mode) (sent : Sent) (comm : ℕ) (call : Call) (result : Result B Stop) (old new : ListCode)
    → Ok comm ≡ number_or (sent_can_be spot.size sent) spot.number → spot.is_past ≡ false → call ≡ send mode comm sent
    → Doing call result old new → Takes spot (sends_on spot mode sent) result old new
sends_now spot mode sent comm call result old new e past same does =
    goes spot (sent_can_be spot.size sent) spot.number (λ comm. GoesOn (does_at spot (send mode comm sent) (start_send mode comm sent))) comm result old new e
    (does_now spot (send mode comm sent) (start_send mode comm sent) call result old new past same does)

-- the peer of a send whose communicator has a number
pub sent_peer : (spot : Spot) (sent : Sent) (comm : ℕ) → spot.size ≤ 1024 → Ok comm ≡ number_or (sent_can_be spot.size sent) spot.number
    → IsTrue (peer_can_be 1024 sent.dest)
sent_peer spot sent comm small e =
    peer_up spot.size sent.dest small
    (both_left (peer_can_be spot.size sent.dest) (tag_can_be sent.tag) (could_be (sent_can_be spot.size sent) spot.number comm e))

-- ---- Receives and probes that block ----

at_spot : (spot : Spot) (at : At) (awaited : Awaited) (r : Result (ℕ × MessageCode) Stop) → IsAt spot at
    → AwaitedOr r (number_or (awaited_can_be (size_at at) (awaited, option_map message_view at.got)) (number_at at)) (message_of awaited (option_map message_view at.got))
    → AwaitedOr r (number_or (awaited_can_be spot.size (awaited, spot.got)) spot.number) (message_of awaited spot.got)
at_spot spot at awaited r is h =
    subst (λ n. AwaitedOr r (number_or (awaited_can_be spot.size (awaited, spot.got)) n) (message_of awaited spot.got)) is.number
    (subst (λ s. AwaitedOr r (number_or (awaited_can_be s (awaited, spot.got)) (number_at at)) (message_of awaited spot.got)) is.size
    (subst (λ g. AwaitedOr r (number_or (awaited_can_be (size_at at) (awaited, g)) (number_at at)) (message_of awaited g)) is.got h))

awaited_err : (B : Type 0) (spot : Spot) (b : Bool) (n : Option ℕ) (m : Option Said) (f : ℕ → Said → List Step) (stop : Stop) (it : ListCode)
    → AwaitedOr (Err stop) (number_or b n) m → Takes {A = B} spot (numbered b n (λ comm. known_or_ends m (f comm))) (Err stop) it it
awaited_err B spot false n m f stop it h =
    subst (λ s. Takes {A = B} spot (Ends [] Open (Some CannotBe)) (Err s) it it) (sym h) (λ handed progress stands fits. (refl, stands))
awaited_err B spot true None m f stop it h =
    subst (λ s. Takes {A = B} spot (Ends [] Open (Some NoNumber)) (Err s) it it) (sym h) (λ handed progress stands fits. (refl, stands))
awaited_err B spot true (Some comm) m f stop it h =
    subst (λ v. Takes {A = B} spot (known_or_ends v (f comm)) (Err stop) it it) (sym h.0)
    (subst (λ s. Takes {A = B} spot (Ends [] Open (Some NeverCameBack)) (Err s) it it) (sym h.1) (λ handed progress stands fits. (refl, stands)))

pub awaited_stops : {B : Type 0} (spot : Spot) (at : At) (awaited : Awaited) (f : ℕ → Said → List Step) (stop : Stop) (r : Result (ℕ × MessageCode) Stop)
    (result : Result B Stop) (it : ListCode) → IsAt spot at → r ≡ Err stop → result ≡ Err stop
    → AwaitedOr r (number_or (awaited_can_be (size_at at) (awaited, option_map message_view at.got)) (number_at at)) (message_of awaited (option_map message_view at.got))
    → Takes spot (numbered (awaited_can_be spot.size (awaited, spot.got)) spot.number (λ comm. known_or_ends (message_of awaited spot.got) (f comm))) result it it
awaited_stops {B} spot at awaited f stop r result it is e e' h =
    let here : AwaitedOr r (number_or (awaited_can_be spot.size (awaited, spot.got)) spot.number) (message_of awaited spot.got) = at_spot spot at awaited r is h in
    let there : AwaitedOr (Err stop) (number_or (awaited_can_be spot.size (awaited, spot.got)) spot.number) (message_of awaited spot.got) =
    subst (λ v. AwaitedOr v (number_or (awaited_can_be spot.size (awaited, spot.got)) spot.number) (message_of awaited spot.got)) e here in
    subst (λ v. Takes {A = B} spot (numbered (awaited_can_be spot.size (awaited, spot.got)) spot.number (λ comm. known_or_ends (message_of awaited spot.got) (f comm))) v it it) (sym e')
    (awaited_err B spot (awaited_can_be spot.size (awaited, spot.got)) spot.number (message_of awaited spot.got) f stop it there)

-- the source of a message that can be
source_up : (size : ℕ) (awaited : Awaited) (reported : Option Said) (it : Said) → size ≤ 1024 → message_of awaited reported ≡ Some it
    → awaited_can_be size (awaited, reported) ≡ true → IsTrue (peer_can_be 1024 it.source)
source_up size awaited reported it small e can =
    let last : message_can_be size (message_of awaited reported) ≡ true =
    both_right (peer_can_be size awaited.source && tag_can_be awaited.tag) (message_can_be size (message_of awaited reported)) can in
    let known : message_can_be size (Some it) ≡ true = subst (λ m. message_can_be size m ≡ true) e last in
    peer_up size it.source small (both_left (peer_can_be size it.source) (tag_can_be it.tag) known)

pub awaited_goes : {B : Type 0} (spot : Spot) (at : At) (awaited : Awaited) (f : ℕ → Said → List Step) (comm : ℕ) (message : MessageCode)
    (result : Result B Stop) (old new : ListCode) → IsAt spot at
    → AwaitedOr (Ok (comm, message)) (number_or (awaited_can_be (size_at at) (awaited, option_map message_view at.got)) (number_at at)) (message_of awaited (option_map message_view at.got))
    → (IsTrue (peer_can_be 1024 message.source) → Takes spot (GoesOn (f comm (message_view message))) result old new)
    → Takes spot (numbered (awaited_can_be spot.size (awaited, spot.got)) spot.number (λ comm. known_or_ends (message_of awaited spot.got) (f comm))) result old new
awaited_goes {B} spot at awaited f comm message result old new is h t =
    let here : AwaitedOr (Ok (comm, message)) (number_or (awaited_can_be spot.size (awaited, spot.got)) spot.number) (message_of awaited spot.got) =
    at_spot spot at awaited (Ok (comm, message)) is h in
    let can : IsTrue (peer_can_be 1024 message.source) =
    source_up spot.size awaited spot.got (message_view message) is.small here.1
    (could_be (awaited_can_be spot.size (awaited, spot.got)) spot.number comm (sym here.0)) in
    goes spot (awaited_can_be spot.size (awaited, spot.got)) spot.number (λ comm. known_or_ends (message_of awaited spot.got) (f comm)) comm result old new (sym here.0)
    (subst (λ m. Takes {A = B} spot (known_or_ends m (f comm)) result old new) (sym here.1) (t can))

abbrev pub receives_at : Spot → ℕ → Said → List Step
receives_at spot comm it = does_at spot (receive comm it) (start_receive comm it)

-- what a receive or probe wants whose message was reported
mapped : (b : Bool) (wanted : Wanted) → option_map (with_known true) (if b then None else Some wanted) ≡ (if b then None else Some (with_known true wanted))
mapped true wanted = refl
mapped false wanted = refl

pub some_wants : (size comm : ℕ) (awaited : Awaited) (it : Said) (result : Option Wants) → size ≤ 1024 → is_nobody awaited.source ≡ false → (peer_can_be size awaited.source && (tag_can_be awaited.tag && message_can_be size (Some it))) ≡ true → (IsTrue (peer_can_be 1024 it.source) → IsTrue (tag_can_be it.tag) → result ≡ (if is_nobody it.source then None else Some (with_known true (wanted_by comm awaited (Some it))))) → result ≡ option_map (with_known true) (wants_in size (Some comm) awaited (Some it))
some_wants size comm awaited it result small someone can wants =
    let said = both_right (tag_can_be awaited.tag) (message_can_be size (Some it)) (both_right (peer_can_be size awaited.source) (tag_can_be awaited.tag && message_can_be size (Some it)) can) in
    let source = peer_up size it.source small (both_left (peer_can_be size it.source) (tag_can_be it.tag) said) in
    let tag = to_true (tag_can_be it.tag) (both_right (peer_can_be size it.source) (tag_can_be it.tag) said) in
    rw (someone, can) (wants source tag ∙ sym (mapped (is_nobody it.source) (wanted_by comm awaited (Some it))))
