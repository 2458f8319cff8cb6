-- The list of a rank as entries are taken that do more than one thing: exchanges, matching probes, starts of receives.
use Rattle.std.proofs.Common.{◌≡◌, ◌∙◌, refl, sym, ap, subst, ℕ, ◌≤◌, Bool, true, false, ◌&&◌, Option, Some, None, Result, Ok, Err, List, [], ◌∷◌, ◌++◌}
use Rattle.std.specs.Prelude.{if◌then◌else◌, IsTrue, IfSome, option_map}
use Rattle.mpicall.specs.declared.call.Call.{Call}
use Rattle.mpicall.specs.declared.call.Call.TheVariants.{Open}
use Rattle.mpicall.specs.declared.call.Mode.TheVariants.{Standard}
use Rattle.closing.specs.Called.{Sent, Awaited}
use Rattle.closing.specs.Steps.{Own, Step, after_steps, Whole, ReceiveHalf, Does, Starts}
use Rattle.closing.specs.Sinks.{Outcome, GoesOn, Ends}
use Rattle.closing.specs.Reported.{Message as Said, done_of, is_gone, message_of, message_can_be, peer_can_be, tag_can_be}
use Rattle.closing.specs.Endings.{sent_can_be, awaited_can_be}
use Rattle.closing.specs.Entry.{start_send, start_receive, exchange}
use Rattle.closing.specs.inner.Lists.{start_call}
use Rattle.closing.specs.inner.Views.{message_view}
use Rattle.closing.specs.inner.Walks.{starts_exchange_on, Spot, numbered, known_or_ends, exchanges_at, exchanges_on, receives_after, starts_at, starts_receive_on}
use Rattle.closing.specs.inner.Walked.{Takes, number_or, known_or}
use Rattle.closing.specs.declared.message.Message.{Message as MessageCode}
use Rattle.closing.specs.declared.list.List.{List as ListCode}
use Rattle.closing.specs.declared.list.Start.{Start}
use Rattle.closing.specs.declared.stop.Stop.{Stop}
use Rattle.closing.specs.declared.why.Why.TheVariants.{NeverReported}
use Rattle.closing.proofs.FollowLemmas.{Starting, starts_own, Doing, StartingUnnamed, both_left, both_right, could_be, goes, if_past, known_goes, peer_up, puts, starts_half, starts_whole, stops, unknown_stops, unless}
use Rattle.closing.proofs.StepsLemmas.{followed, cut_before, still_cut, ends_cut}
use Rattle.closing.proofs.GrownLemmas.{same_records}

-- ---- Exchanges ----

abbrev pub exchange_can_be : ℕ → Sent → Awaited → Option Said → Bool
exchange_can_be size sent awaited reported = sent_can_be size sent && awaited_can_be size (awaited, reported)

abbrev exchanges_with : Spot → Sent → Option Said → ℕ → Outcome
exchanges_with spot sent m comm = known_or_ends m (exchanges_at spot comm sent)

pub exchanges_unknown : {B : Type 0} (done : B) (spot : Spot) (sent : Sent) (awaited : Awaited) (comm : ℕ) (m : Option MessageCode) (stop : Stop) (it : ListCode)
    → Ok comm ≡ number_or (exchange_can_be spot.size sent awaited spot.got) spot.number → option_map message_view m ≡ message_of awaited spot.got
    → Err stop ≡ known_or m → Takes {A = B} spot (exchanges_on spot sent awaited) (Err stop) it it
exchanges_unknown {B} done spot sent awaited comm m stop it e em ek =
    goes spot (exchange_can_be spot.size sent awaited spot.got) spot.number (exchanges_with spot sent (message_of awaited spot.got)) comm (Err stop) it it e
    (subst (λ v. Takes {A = B} spot (exchanges_with spot sent v comm) (Err stop) it it) em
    (unknown_stops done spot m (exchanges_at spot comm sent) stop it ek))

pub exchanges_known : {B : Type 0} (spot : Spot) (sent : Sent) (awaited : Awaited) (comm : ℕ) (m : Option MessageCode) (message : MessageCode)
    (result : Result B Stop) (old new : ListCode)
    → Ok comm ≡ number_or (exchange_can_be spot.size sent awaited spot.got) spot.number → option_map message_view m ≡ message_of awaited spot.got
    → Ok message ≡ known_or m → Takes spot (GoesOn (exchanges_at spot comm sent (message_view message))) result old new
    → Takes spot (exchanges_on spot sent awaited) result old new
exchanges_known {B} spot sent awaited comm m message result old new e em ek t =
    goes spot (exchange_can_be spot.size sent awaited spot.got) spot.number (exchanges_with spot sent (message_of awaited spot.got)) comm result old new e
    (subst (λ v. Takes {A = B} spot (exchanges_with spot sent v comm) result old new) em
    (known_goes spot m (exchanges_at spot comm sent) message result old new ek t))

pub exchanges_now : {B : Type 0} (spot : Spot) (sent : Sent) (comm : ℕ) (it : Said) (call : Call) (result : Result B Stop) (old new : ListCode)
    → spot.is_past ≡ false → call ≡ exchange comm sent it → Doing call result old new
    → Takes spot (GoesOn (exchanges_at spot comm sent it)) result old new
exchanges_now spot sent comm it call result old new past e does =
    unless spot spot.is_past
    (Starts (Whole spot.line) (start_send Standard comm sent) ∷ Starts (ReceiveHalf spot.line) (start_receive comm it) ∷ [])
    (Does (exchange comm sent it) ∷ []) result old new past
    (puts spot call (exchange comm sent it) result old new e does)

pub exchanges_cut : (A B : Type 0) (spot : Spot) (sent : Sent) (comm : ℕ) (it : Said) (start : Start) (stop : Stop) (old new : ListCode)
    → spot.is_past ≡ true → start_call start ≡ start_send Standard comm sent → StartingUnnamed {B = A} start (Err stop) old new
    → Takes {A = B} spot (GoesOn (exchanges_at spot comm sent it)) (Err stop) old new
exchanges_cut A B spot sent comm it start stop old new past e starts =
    if_past {B = B} spot spot.is_past
    (Starts (Whole spot.line) (start_send Standard comm sent) ∷ Starts (ReceiveHalf spot.line) (start_receive comm it) ∷ [])
    (Does (exchange comm sent it) ∷ []) (Err stop) old new past
    (cut_before A B spot (Starts (Whole spot.line) (start_send Standard comm sent) ∷ [])
    (Starts (ReceiveHalf spot.line) (start_receive comm it) ∷ []) stop old new
    (starts_whole {B = A} spot start (start_send Standard comm sent) (Err stop) old new e starts))

pub exchanges_past : {A B : Type 0} (done : A) (spot : Spot) (sent : Sent) (comm : ℕ) (it : Said) (start other : Start) (result : Result B Stop) (old mid new : ListCode)
    → spot.is_past ≡ true → start_call start ≡ start_send Standard comm sent → StartingUnnamed {B = A} start (Ok done) old mid
    → start_call other ≡ start_receive comm it → StartingUnnamed other result mid new
    → Takes spot (GoesOn (exchanges_at spot comm sent it)) result old new
exchanges_past {A} {B} done spot sent comm it start other result old mid new past e starts e' starts' =
    if_past spot spot.is_past
    (Starts (Whole spot.line) (start_send Standard comm sent) ∷ Starts (ReceiveHalf spot.line) (start_receive comm it) ∷ [])
    (Does (exchange comm sent it) ∷ []) result old new past
    (followed {A = A} {B = B} done spot (Starts (Whole spot.line) (start_send Standard comm sent) ∷ [])
    (Starts (ReceiveHalf spot.line) (start_receive comm it) ∷ []) result old mid new
    (starts_whole {B = A} spot start (start_send Standard comm sent) (Ok done) old mid e starts)
    (starts_half {B = B} spot other (start_receive comm it) result mid new e' starts'))

-- ---- What can be ----

pub exchange_sent : (spot : Spot) (sent : Sent) (awaited : Awaited) (reported : Option Said) (comm : ℕ) → spot.size ≤ 1024
    → Ok comm ≡ number_or (exchange_can_be spot.size sent awaited reported) spot.number → IsTrue (peer_can_be 1024 sent.dest)
exchange_sent spot sent awaited reported comm small e =
    peer_up spot.size sent.dest small
    (both_left (peer_can_be spot.size sent.dest) (tag_can_be sent.tag)
    (both_left (sent_can_be spot.size sent) (awaited_can_be spot.size (awaited, reported))
    (could_be (exchange_can_be spot.size sent awaited reported) spot.number comm e)))

-- the source of a message that can be
pub source_can_be : (size : ℕ) (awaited : Awaited) (reported : Option Said) (m : Option MessageCode) → size ≤ 1024
    → option_map message_view m ≡ message_of awaited reported → awaited_can_be size (awaited, reported) ≡ true
    → IfSome m (λ it. IsTrue (peer_can_be 1024 it.source))
source_can_be size awaited reported None small e can = tt
source_can_be size awaited reported (Some it) small e can =
    let last : message_can_be size (message_of awaited reported) ≡ true =
    both_right (peer_can_be size awaited.source && tag_can_be awaited.tag) (message_can_be size (message_of awaited reported)) can in
    let known : message_can_be size (Some (message_view it)) ≡ true = subst (λ m. message_can_be size m ≡ true) (sym e) last in
    peer_up size it.source small (both_left (peer_can_be size it.source) (tag_can_be it.tag) known)

-- ---- Starts of receives ----

abbrev unreported : Bool → List Step → Outcome
unreported true steps = GoesOn steps
unreported false steps = Ends steps Open (Some NeverReported)

unreported_is : (gone : Bool) (steps : List Step) → (if gone then GoesOn steps else Ends steps Open (Some NeverReported)) ≡ unreported gone steps
unreported_is true steps = refl
unreported_is false steps = refl

unreported_then : {A B : Type 0} (done : A) (gone : Bool) (steps : List Step) (spot : Spot) (result : Result B Stop) (old mid new : ListCode)
    → Takes {A = A} spot (GoesOn steps) (Ok done) old mid → Takes spot (unreported gone []) result mid new
    → Takes spot (unreported gone steps) result old new
unreported_then done true steps spot result old mid new one two =
    λ handed p stands fits. two handed (after_steps p spot.line steps) (one handed p stands fits) tt
unreported_then done false steps spot result old mid new one two =
    λ handed p stands fits. two handed (after_steps p spot.line steps) (one handed p stands fits) tt

unreported_cut : (A B : Type 0) (gone : Bool) (steps : List Step) (spot : Spot) (stop : Stop) (old new : ListCode)
    → Takes {A = A} spot (GoesOn steps) (Err stop) old new → Takes {A = B} spot (unreported gone steps) (Err stop) old new
unreported_cut A B true steps spot stop old new one = λ handed p stands fits.
    still_cut A B stop handed (after_steps p spot.line steps) (after_steps p spot.line steps) spot.line new
    (same_records (after_steps p spot.line steps)) (one handed p stands fits)
unreported_cut A B false steps spot stop old new one = λ handed p stands fits.
    ends_cut A B stop handed (after_steps p spot.line steps) spot.line (Some NeverReported) new (one handed p stands fits)

-- after other steps
pub receives_then : {A B : Type 0} (done : A) (steps : List Step) (spot : Spot) (comm request : ℕ) (m : Option Said) (result : Result B Stop) (old mid new : ListCode)
    → Takes {A = A} spot (GoesOn steps) (Ok done) old mid → Takes spot (receives_after [] spot comm request m) result mid new
    → Takes spot (receives_after steps spot comm request m) result old new
receives_then {A} {B} done steps spot comm request None result old mid new one two =
    let gone = is_gone spot.lines request in
    subst (λ v. Takes {A = B} spot v result old new) (sym (unreported_is gone steps))
    (unreported_then {A = A} {B = B} done gone steps spot result old mid new one
    (subst (λ v. Takes {A = B} spot v result mid new) (unreported_is gone []) two))
receives_then {A} {B} done steps spot comm request (Some it) result old mid new one two =
    followed {A = A} {B = B} done spot steps (starts_at spot request (start_receive comm it)) result old mid new one two

pub receives_cut : (A B : Type 0) (steps : List Step) (spot : Spot) (comm request : ℕ) (m : Option Said) (stop : Stop) (old new : ListCode)
    → Takes {A = A} spot (GoesOn steps) (Err stop) old new → Takes {A = B} spot (receives_after steps spot comm request m) (Err stop) old new
receives_cut A B steps spot comm request None stop old new one =
    let gone = is_gone spot.lines request in
    subst (λ v. Takes {A = B} spot v (Err stop) old new) (sym (unreported_is gone steps))
    (unreported_cut A B gone steps spot stop old new one)
receives_cut A B steps spot comm request (Some it) stop old new one =
    cut_before A B spot steps (starts_at spot request (start_receive comm it)) stop old new one

-- a start of a receive whose communicator has a number
pub receive_started : {B : Type 0} (spot : Spot) (request : ℕ) (awaited : Awaited) (comm : ℕ) (done : Option Said) (m : Option MessageCode)
    (result : Result B Stop) (old new : ListCode) → done ≡ done_of spot.lines request
    → Ok comm ≡ number_or (awaited_can_be spot.size (awaited, done)) spot.number → option_map message_view m ≡ message_of awaited done
    → Takes spot (receives_after [] spot comm request (option_map message_view m)) result old new
    → Takes spot (starts_receive_on spot request awaited) result old new
receive_started {B} spot request awaited comm done m result old new ed e em t =
    subst (λ d. Takes {A = B} spot (numbered (awaited_can_be spot.size (awaited, d)) spot.number (λ comm. receives_after [] spot comm request (message_of awaited d))) result old new) ed
    (goes spot (awaited_can_be spot.size (awaited, done)) spot.number (λ comm. receives_after [] spot comm request (message_of awaited done)) comm result old new e
    (subst (λ v. Takes {A = B} spot (receives_after [] spot comm request v) result old new) em t))

-- ---- What the code asks ----

as_said : (a b c : Bool) → (a && (b && c)) ≡ (a && b && c)
as_said true b c = refl
as_said false b c = refl

pub can_be_as : (size : ℕ) (awaited : Awaited) (reported m : Option Said) → m ≡ message_of awaited reported
    → (peer_can_be size awaited.source && (tag_can_be awaited.tag && message_can_be size m)) ≡ awaited_can_be size (awaited, reported)
can_be_as size awaited reported m e =
    as_said (peer_can_be size awaited.source) (tag_can_be awaited.tag) (message_can_be size m)
    ∙ ap (λ v. peer_can_be size awaited.source && tag_can_be awaited.tag && message_can_be size v) e

pub exchange_as : (size : ℕ) (sent : Sent) (awaited : Awaited) (reported m : Option Said) → m ≡ message_of awaited reported
    → (sent_can_be size sent && (peer_can_be size awaited.source && (tag_can_be awaited.tag && message_can_be size m)))
    ≡ exchange_can_be size sent awaited reported
exchange_as size sent awaited reported m e = ap (λ v. sent_can_be size sent && v) (can_be_as size awaited reported m e)

known_source : (m : Option MessageCode) (message : MessageCode) → Ok message ≡ known_or m → IfSome m (λ it. IsTrue (peer_can_be 1024 it.source))
    → IsTrue (peer_can_be 1024 message.source)
known_source None message e h = cc
known_source (Some other) message e h =
    let same : message ≡ other = cc in subst (λ it. IsTrue (peer_can_be 1024 it.source)) (sym same) h

-- the source of the message of an exchange
pub exchange_source : (spot : Spot) (sent : Sent) (awaited : Awaited) (reported : Option Said) (comm : ℕ) (m : Option MessageCode) (message : MessageCode)
    → spot.size ≤ 1024 → option_map message_view m ≡ message_of awaited reported
    → Ok comm ≡ number_or (exchange_can_be spot.size sent awaited reported) spot.number → Ok message ≡ known_or m
    → IsTrue (peer_can_be 1024 message.source)
exchange_source spot sent awaited reported comm m message small em e ek =
    known_source m message ek (source_can_be spot.size awaited reported m small em
    (both_right (sent_can_be spot.size sent) (awaited_can_be spot.size (awaited, reported))
    (could_be (exchange_can_be spot.size sent awaited reported) spot.number comm e)))

-- ---- Starts ----

-- the start of a receive of a message that is known
pub receive_put : {B : Type 0} (spot : Spot) (comm request : ℕ) (m : Option MessageCode) (it : MessageCode) (start : Start) (result : Result B Stop) (old new : ListCode)
    → m ≡ Some it → is_gone spot.lines request ≡ false → IfSome m (λ it. IsTrue (peer_can_be 1024 it.source))
    → (IsTrue (peer_can_be 1024 it.source) → start_call start ≡ start_receive comm (message_view it))
    → Starting request start result old new → Takes spot (receives_after [] spot comm request (option_map message_view m)) result old new
receive_put {B} spot comm request m it start result old new e stands can same starts =
    subst (λ v. Takes {A = B} spot (receives_after [] spot comm request (option_map message_view v)) result old new) (sym e)
    (unless spot (is_gone spot.lines request) [] (Starts (Own request) (start_receive comm (message_view it)) ∷ []) result old new stands
    (starts_own spot request start (start_receive comm (message_view it)) result old new
    (same (subst (λ v. IfSome v (λ it. IsTrue (peer_can_be 1024 it.source))) e can)) starts))

-- the starts of both halves of an exchange whose communicator has a number
pub exchange_started : {B : Type 0} (spot : Spot) (request received : ℕ) (sent : Sent) (awaited : Awaited) (comm : ℕ) (done : Option Said) (m : Option MessageCode)
    (result : Result B Stop) (old new : ListCode) → done ≡ done_of spot.lines received
    → Ok comm ≡ number_or (exchange_can_be spot.size sent awaited done) spot.number → option_map message_view m ≡ message_of awaited done
    → Takes spot (receives_after (starts_at spot request (start_send Standard comm sent)) spot comm received (option_map message_view m)) result old new
    → Takes spot (starts_exchange_on spot request received sent awaited) result old new
exchange_started {B} spot request received sent awaited comm done m result old new ed e em t =
    subst (λ d. Takes {A = B} spot (numbered (exchange_can_be spot.size sent awaited d) spot.number
    (λ comm. receives_after (starts_at spot request (start_send Standard comm sent)) spot comm received (message_of awaited d))) result old new) ed
    (goes spot (exchange_can_be spot.size sent awaited done) spot.number
    (λ comm. receives_after (starts_at spot request (start_send Standard comm sent)) spot comm received (message_of awaited done)) comm result old new e
    (subst (λ v. Takes {A = B} spot (receives_after (starts_at spot request (start_send Standard comm sent)) spot comm received v) result old new) em t))

-- neither half starts where the list ends at the exchange
pub exchange_stops : {B : Type 0} (end : B) (spot : Spot) (request received : ℕ) (sent : Sent) (awaited : Awaited) (done : Option Said) (stop : Stop)
    (result : Result B Stop) (it : ListCode) → done ≡ done_of spot.lines received
    → Err stop ≡ number_or (exchange_can_be spot.size sent awaited done) spot.number → result ≡ Err stop
    → Takes spot (starts_exchange_on spot request received sent awaited) result it it
exchange_stops {B} end spot request received sent awaited done stop result it ed e er =
    subst (λ r. Takes {A = B} spot (starts_exchange_on spot request received sent awaited) r it it) (sym er)
    (subst (λ d. Takes {A = B} spot (numbered (exchange_can_be spot.size sent awaited d) spot.number
    (λ comm. receives_after (starts_at spot request (start_send Standard comm sent)) spot comm received (message_of awaited d))) (Err stop) it it) ed
    (stops {B = B} end spot (exchange_can_be spot.size sent awaited done) spot.number
    (λ comm. receives_after (starts_at spot request (start_send Standard comm sent)) spot comm received (message_of awaited done)) stop it e))

-- a start that is said
pub start_said : {B : Type 0} (spot : Spot) (request : ℕ) (start : Start) (said : ℕ → Call) (result : Result B Stop) (old new : ListCode)
    → start_call start ≡ said → Takes spot (GoesOn (starts_at spot request (start_call start))) result old new
    → Takes spot (GoesOn (starts_at spot request said)) result old new
start_said {B} spot request start said result old new e t =
    subst (λ v. Takes {A = B} spot (GoesOn (starts_at spot request v)) result old new) e t

-- ---- By what a first step returns ----

pub cut_by : {A B : Type 0} (spot : Spot) (xs ys : List Step) (stop : Stop) (r : Result A Stop) (result : Result B Stop) (old new : ListCode)
    → r ≡ Err stop → result ≡ Err stop → Takes spot (GoesOn xs) r old new → Takes spot (GoesOn (xs ++ ys)) result old new
cut_by {A} {B} spot xs ys stop r result old new e e' t =
    subst (λ v. Takes {A = B} spot (GoesOn (xs ++ ys)) v old new) (sym e')
    (cut_before A B spot xs ys stop old new (subst (λ v. Takes {A = A} spot (GoesOn xs) v old new) e t))

pub receives_cut_by : {A B : Type 0} (spot : Spot) (steps : List Step) (comm request : ℕ) (m : Option Said) (stop : Stop) (r : Result A Stop) (result : Result B Stop)
    (old new : ListCode) → r ≡ Err stop → result ≡ Err stop → Takes spot (GoesOn steps) r old new
    → Takes spot (receives_after steps spot comm request m) result old new
receives_cut_by {A} {B} spot steps comm request m stop r result old new e e' t =
    subst (λ v. Takes {A = B} spot (receives_after steps spot comm request m) v old new) (sym e')
    (receives_cut A B steps spot comm request m stop old new (subst (λ v. Takes {A = A} spot (GoesOn steps) v old new) e t))

pub exchanges_cut_by : {A B : Type 0} (spot : Spot) (sent : Sent) (comm : ℕ) (it : Said) (start : Start) (stop : Stop) (r : Result A Stop) (result : Result B Stop)
    (old new : ListCode) → r ≡ Err stop → result ≡ Err stop → spot.is_past ≡ true → start_call start ≡ start_send Standard comm sent
    → StartingUnnamed start r old new → Takes spot (GoesOn (exchanges_at spot comm sent it)) result old new
exchanges_cut_by {A} {B} spot sent comm it start stop r result old new e e' past same starts =
    subst (λ v. Takes {A = B} spot (GoesOn (exchanges_at spot comm sent it)) v old new) (sym e')
    (exchanges_cut A B spot sent comm it start stop old new past same (subst (λ v. StartingUnnamed {B = A} start v old new) e starts))
