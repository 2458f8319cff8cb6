-- The list of a rank as any entry is taken, by its call.
use Rattle.std.proofs.Common.{◌≡◌, refl, sym, ◌∙◌, ap, subst, ℕ, Bool, true, false, Option, Some, None, Result, Ok, List, [], ◌∷◌, ◌++◌, map}
use Rattle.std.specs.Prelude.{◌&&◌, if◌then◌else◌}
use Rattle.mpicall.specs.declared.call.Call.{Call}
use Rattle.mpicall.specs.declared.call.Call.TheVariants.{Coll, Open}
use Rattle.mpicall.specs.declared.call.Kind.TheVariants as kind
use Rattle.mpicall.specs.declared.call.Mode.TheVariants.{Standard}
use Rattle.std.proofs.lemmas.List.{append-nil}
use Rattle.journals.specs.Lines.{Line}
use Rattle.closing.specs.Called.{Called, Awaited, Sent, Sends, StartsSend, Receives, StartsReceive, Exchanges, StartsExchange, Probes, ProbesMatching, ReceivesMatched, StartsMatched, Waits, Tests, WaitsAny, WaitsSome, Cancels, Collects, StartsCollective, Duplicates, Splits, Makes, StartsDuplicate, MakesOfGroup}
use Rattle.closing.specs.Reported.{Message as Said, done_of, is_gone, is_settled, message_of, root_can_be, unless_moved}
use Rattle.closing.specs.Steps.{Id, Own, Whole, ReceiveHalf, Step, Does, Starts, WaitsForAll, WaitsForOne, PutsOff, WaitsForLate}
use Rattle.closing.specs.Endings.{awaited_can_be, sent_can_be}
use Rattle.closing.specs.Entry.{Choice, exchange, ids_of, kind_of, probe, receive, send, start_collective, start_receive, start_send, unless_past, wait_for_all, wait_for_one}
use Rattle.closing.specs.Sinks.{Outcome, GoesOn, Ends}
use Rattle.closing.specs.inner.Standings.{message_for}
use Rattle.closing.specs.inner.Views.{called_view}
use Rattle.closing.specs.inner.Walks.{Spot, chosen_or_ends, collects_at, does_at, ends, exchanges_at, known_or_ends, makes_on, numbered, outcome_on, probes_at, receives_after, starts_at, starts_exchange_on, starts_receive_on}
use Rattle.closing.specs.Fit.{steps_in}
use Rattle.closing.specs.inner.Walked.{LateCall, Meets, Takes, TakesCall, message_after, is_on_none, late_in}
use Rattle.closing.specs.declared.called.Called.{Called as CalledCode}
use Rattle.closing.specs.declared.called.Called.TheVariants as code
use Rattle.closing.specs.declared.standing.Standing.{Standing}
use Rattle.closing.specs.declared.walk.At.{At}
use Rattle.closing.specs.declared.list.List.{List as ListCode}
use Rattle.closing.specs.declared.stop.Stop.{Stop}
use Rattle.closing.specs.declared.why.Why.TheVariants.{NeverReported}
use Rattle.closing.proofs.FollowLemmas.{nothing_put}
use Rattle.closing.proofs.WaitingLemmas.{none_late}

-- ---- Nothing is put off ----

abbrev None_late : List Step → Type 0
None_late steps = late_in steps ≡ []

abbrev None_put_off : Outcome → Type 0
None_put_off outcome = late_in (steps_in outcome) ≡ []

both_late : (xs ys : List Step) → late_in xs ≡ [] → late_in ys ≡ [] → late_in (xs ++ ys) ≡ []
both_late [] ys ex ey = ey
both_late (Does call ∷ xs) ys ex ey = both_late xs ys ex ey
both_late (Starts id call ∷ xs) ys ex ey = both_late xs ys ex ey
both_late (WaitsForAll ids ∷ xs) ys ex ey = both_late xs ys ex ey
both_late (WaitsForOne id ids ∷ xs) ys ex ey = both_late xs ys ex ey
both_late (PutsOff [] ∷ xs) ys ex ey = both_late xs ys ex ey
both_late (PutsOff (id ∷ ids) ∷ xs) ys ex ey = cc
both_late (WaitsForLate ∷ xs) ys ex ey = both_late xs ys ex ey

if_late : (b : Bool) (xs ys : List Step) → None_late xs → None_late ys → None_late (if b then xs else ys)
if_late true xs ys ex ey = ex
if_late false xs ys ex ey = ey

if_out : (b : Bool) (x y : Outcome) → None_put_off x → None_put_off y → None_put_off (if b then x else y)
if_out true x y ex ey = ex
if_out false x y ex ey = ey

past_late : (past : Bool) (steps : List Step) → None_late steps → None_late (unless_past past steps)
past_late true steps e = refl
past_late false steps e = e

numbered_late : (b : Bool) (n : Option ℕ) (others : ℕ → Outcome) → ((comm : ℕ) → None_put_off (others comm)) → None_put_off (numbered b n others)
numbered_late false n others h = refl
numbered_late true None others h = refl
numbered_late true (Some comm) others h = h comm

known_late : (m : Option Said) (steps : Said → List Step) → ((it : Said) → None_late (steps it)) → None_put_off (known_or_ends m steps)
known_late None steps h = refl
known_late (Some it) steps h = h it

chosen_late : (m : Option (List ℕ)) (steps : List ℕ → List Step) → ((it : List ℕ) → None_late (steps it)) → None_put_off (chosen_or_ends m steps)
chosen_late None steps h = refl
chosen_late (Some it) steps h = h it

one_late : (chosen named : List Id) → None_late (wait_for_one chosen named)
one_late [] named = refl
one_late (wanted ∷ others) named = refl

does_late : (spot : Spot) (call : Call) (start : ℕ → Call) → None_late (does_at spot call start)
does_late spot call start = if_late spot.is_past (Starts (Whole spot.line) start ∷ []) (Does call ∷ []) refl refl

starts_late : (spot : Spot) (request : ℕ) (start : ℕ → Call) → None_late (starts_at spot request start)
starts_late spot request start = if_late (is_gone spot.lines request) [] (Starts (Own request) start ∷ []) refl refl

exchanges_late : (spot : Spot) (comm : ℕ) (sent : Sent) (it : Said) → None_late (exchanges_at spot comm sent it)
exchanges_late spot comm sent it =
    if_late spot.is_past (Starts (Whole spot.line) (start_send Standard comm sent) ∷ Starts (ReceiveHalf spot.line) (start_receive comm it) ∷ [])
    (Does (exchange comm sent it) ∷ []) refl refl

probes_late : (spot : Spot) (comm : ℕ) (it : Said) → None_late (probes_at spot comm it)
probes_late spot comm it = past_late spot.is_past (Does (probe comm it) ∷ []) refl

receives_late : (steps : List Step) (spot : Spot) (comm request : ℕ) (m : Option Said) → None_late steps → None_put_off (receives_after steps spot comm request m)
receives_late steps spot comm request None e = if_out (is_gone spot.lines request) (GoesOn steps) (Ends steps Open (Some NeverReported)) e e
receives_late steps spot comm request (Some it) e =
    both_late steps (starts_at spot request (start_receive comm it)) e (starts_late spot request (start_receive comm it))

makes_late : (spot : Spot) → None_put_off (makes_on spot)
makes_late spot = numbered_late true spot.number (λ comm. GoesOn (Does (spot.maker comm) ∷ [])) (λ comm. refl)

any_late : (spot : Spot) (requests : List ℕ)
    → None_put_off (chosen_or_ends spot.chose (λ wanted. unless_past spot.is_past (wait_for_one (ids_of spot.lines wanted) (ids_of spot.lines requests))))
any_late spot requests =
    chosen_late spot.chose (λ wanted. unless_past spot.is_past (wait_for_one (ids_of spot.lines wanted) (ids_of spot.lines requests)))
    (λ wanted. past_late spot.is_past (wait_for_one (ids_of spot.lines wanted) (ids_of spot.lines requests))
    (one_late (ids_of spot.lines wanted) (ids_of spot.lines requests)))

some_late : (spot : Spot) → None_put_off (chosen_or_ends spot.chose (λ wanted. unless_past spot.is_past (wait_for_all spot.lines wanted)))
some_late spot =
    chosen_late spot.chose (λ wanted. unless_past spot.is_past (wait_for_all spot.lines wanted)) (λ wanted. none_late spot.is_past spot.lines wanted)

abbrev pub is_test : Called → Bool
is_test (Tests requests) = true
is_test it = false

-- so it is of each call but a test
no_late : (choice : Choice) (spot : Spot) (it : Called) → is_test it ≡ false → None_put_off (outcome_on choice spot it)
no_late choice spot (Sends mode sent) h =
    numbered_late (sent_can_be spot.size sent) spot.number (λ comm. GoesOn (does_at spot (send mode comm sent) (start_send mode comm sent)))
    (λ comm. does_late spot (send mode comm sent) (start_send mode comm sent))
no_late choice spot (StartsSend request mode sent) h =
    numbered_late (sent_can_be spot.size sent) spot.number (λ comm. GoesOn (starts_at spot request (start_send mode comm sent)))
    (λ comm. starts_late spot request (start_send mode comm sent))
no_late choice spot (Receives awaited) h =
    numbered_late (awaited_can_be spot.size (awaited, spot.got)) spot.number (λ comm. known_or_ends (message_of awaited spot.got) (λ it. does_at spot (receive comm it) (start_receive comm it)))
    (λ comm. known_late (message_of awaited spot.got) (λ it. does_at spot (receive comm it) (start_receive comm it)) (λ it. does_late spot (receive comm it) (start_receive comm it)))
no_late choice spot (StartsReceive request awaited) h =
    numbered_late (awaited_can_be spot.size (unless_moved spot.lines request awaited, done_of spot.lines request)) spot.number (λ comm. receives_after [] spot comm request (message_of (unless_moved spot.lines request awaited) (done_of spot.lines request)))
    (λ comm. receives_late [] spot comm request (message_of (unless_moved spot.lines request awaited) (done_of spot.lines request)) refl)
no_late choice spot (Exchanges sent awaited) h =
    numbered_late (sent_can_be spot.size sent && awaited_can_be spot.size (awaited, spot.got)) spot.number (λ comm. known_or_ends (message_of awaited spot.got) (exchanges_at spot comm sent))
    (λ comm. known_late (message_of awaited spot.got) (exchanges_at spot comm sent) (exchanges_late spot comm sent))
no_late choice spot (StartsExchange request received sent awaited) h =
    numbered_late (sent_can_be spot.size sent && awaited_can_be spot.size (unless_moved spot.lines received awaited, done_of spot.lines received)) spot.number
    (λ comm. receives_after (starts_at spot request (start_send Standard comm sent)) spot comm received (message_of (unless_moved spot.lines received awaited) (done_of spot.lines received)))
    (λ comm. receives_late (starts_at spot request (start_send Standard comm sent)) spot comm received (message_of (unless_moved spot.lines received awaited) (done_of spot.lines received))
    (starts_late spot request (start_send Standard comm sent)))
no_late choice spot (Probes awaited) h =
    numbered_late (awaited_can_be spot.size (awaited, spot.got)) spot.number (λ comm. known_or_ends (message_of awaited spot.got) (probes_at spot comm))
    (λ comm. known_late (message_of awaited spot.got) (probes_at spot comm) (probes_late spot comm))
no_late choice spot (ProbesMatching message awaited) h =
    numbered_late (awaited_can_be spot.size (awaited, spot.got)) spot.number
    (λ comm. known_or_ends (message_of awaited spot.got) (λ it. probes_at spot comm it ++ Starts (Own message) (start_receive comm it) ∷ []))
    (λ comm. known_late (message_of awaited spot.got) (λ it. probes_at spot comm it ++ Starts (Own message) (start_receive comm it) ∷ [])
    (λ it. both_late (probes_at spot comm it) (Starts (Own message) (start_receive comm it) ∷ []) (probes_late spot comm it) refl))
no_late choice spot (ReceivesMatched message) h = none_late spot.is_past spot.lines (message ∷ [])
no_late choice spot (Waits requests) h = none_late spot.is_past spot.lines requests
no_late choice spot (Tests requests) h = cc
no_late choice spot (WaitsAny []) h = any_late spot []
no_late choice spot (WaitsAny (x ∷ [])) h = none_late spot.is_past spot.lines (x ∷ [])
no_late choice spot (WaitsAny (x ∷ y ∷ zs)) h = any_late spot (x ∷ y ∷ zs)
no_late choice spot (WaitsSome []) h = some_late spot
no_late choice spot (WaitsSome (x ∷ [])) h = none_late spot.is_past spot.lines (x ∷ [])
no_late choice spot (WaitsSome (x ∷ y ∷ zs)) h = some_late spot
no_late choice spot (Cancels request) h = if_out (is_settled spot.lines request) (GoesOn []) (ends NeverReported) refl refl
no_late choice spot (Collects collective comm root) h =
    numbered_late (root_can_be spot.size collective root) spot.number (λ comm. GoesOn (collects_at spot (kind_of collective root) comm))
    (λ comm. does_late spot (Coll comm (kind_of collective root)) (start_collective comm (kind_of collective root)))
no_late choice spot (StartsCollective request collective comm root) h =
    numbered_late (root_can_be spot.size collective root) spot.number (λ comm. GoesOn (starts_at spot request (start_collective comm (kind_of collective root))))
    (λ comm. starts_late spot request (start_collective comm (kind_of collective root)))
no_late choice spot (StartsDuplicate request comm) h =
    numbered_late true spot.number (λ comm. GoesOn (starts_at spot request (start_collective comm kind.Barrier)))
    (λ comm. starts_late spot request (start_collective comm kind.Barrier))
no_late choice spot (MakesOfGroup group) h =
    numbered_late true spot.number (λ comm. GoesOn (collects_at spot kind.Barrier comm))
    (λ comm. does_late spot (Coll comm kind.Barrier) (start_collective comm kind.Barrier))
no_late choice spot (Duplicates comm) h = makes_late spot
no_late choice spot (Splits comm colour key) h = makes_late spot
no_late choice spot (Makes comm) h = makes_late spot
no_late choice spot _ h = refl

-- ---- By the call ----

pub takes_as : {B : Type 0} (choice : Choice) (spot : Spot) (it call : CalledCode) (result : Result B Stop) (old new : ListCode) → it ≡ call
    → Takes spot (outcome_on choice spot (called_view call)) result old new → TakesCall choice spot (called_view it) result old new
takes_as {B} choice spot it call result old new e t =
    subst (λ v. TakesCall {A = B} choice spot (called_view v) result old new) (sym e) (λ handed p stands fits holds. t handed p stands fits)

pub late_as : (choice : Choice) (spot : Spot) (it call : CalledCode) (list : ListCode) (before after : List ℕ) → it ≡ call
    → is_test (called_view call) ≡ false → after ≡ before → LateCall choice spot (called_view it) list before after
late_as choice spot it call list before after e other same =
    subst (λ v. LateCall choice spot (called_view v) list before after) (sym e) (λ handed p stands holds.
    ap (map Own) same ∙ sym (append-nil (map Own before)) ∙ sym (ap (λ late. map Own before ++ late) (no_late choice spot (called_view call) other)))

pub meets_as : (spot : Spot) (journal : List Line) (standing : Standing) (at : At) (it call : CalledCode) → it ≡ call
    → Meets spot journal standing at it → Meets spot journal standing at call
meets_as spot journal standing at it call e meets = subst (Meets spot journal standing at) e meets

abbrev pub is_start_matched : Called → Bool
is_start_matched (StartsMatched request message) = true
is_start_matched it = false

messages_kept : (it : Called) (before : ℕ → Option ℕ) (request : ℕ) → is_start_matched it ≡ false → before request ≡ message_after it before request
messages_kept (StartsMatched started message) before request h = cc
messages_kept _ before request h = refl

-- the messages that requests take stay
pub messages_as : (it call : CalledCode) (old new : Standing) → it ≡ call → is_start_matched (called_view call) ≡ false → new ≡ old
    → (request : ℕ) → message_for new request ≡ message_after (called_view it) (message_for old) request
messages_as it call old new e other same request =
    subst (λ v. message_for new request ≡ message_after (called_view v) (message_for old) request) (sym e)
    (ap (λ (standing : Standing). message_for standing request) same ∙ messages_kept (called_view call) (message_for old) request other)

pub test_as : (choice : Choice) (spot : Spot) (it call : CalledCode) (list : ListCode) (before after : List ℕ) → it ≡ call
    → LateCall choice spot (called_view call) list before after → LateCall choice spot (called_view it) list before after
test_as choice spot it call list before after e late = subst (λ v. LateCall choice spot (called_view v) list before after) (sym e) late

pub tests_as : {B : Type 0} (choice : Choice) (spot : Spot) (it call : CalledCode) (result : Result B Stop) (old new : ListCode) → it ≡ call
    → TakesCall choice spot (called_view call) result old new → TakesCall choice spot (called_view it) result old new
tests_as {B} choice spot it call result old new e t = subst (λ v. TakesCall {A = B} choice spot (called_view v) result old new) (sym e) t

-- ---- The other calls ----

pub nothing_done : (choice : Choice) (spot : Spot) (it : CalledCode) → is_on_none (called_view it) ≡ true
    → ((message : _) → it ≡ code.ReceivesMatched message → ⊥) → ((request message : _) → it ≡ code.StartsMatched request message → ⊥)
    → ((fields : _) → it ≡ code.Waits fields → ⊥) → ((fields : _) → it ≡ code.Tests fields → ⊥)
    → ((fields : _) → it ≡ code.WaitsAny fields → ⊥) → ((fields : _) → it ≡ code.WaitsSome fields → ⊥)
    → ((request : _) → it ≡ code.Cancels request → ⊥) → outcome_on choice spot (called_view it) ≡ GoesOn []
nothing_done choice spot (code.ReceivesMatched message) h a b c d e f g = absurd (a message refl)
nothing_done choice spot (code.StartsMatched request message) h a b c d e f g = absurd (b request message refl)
nothing_done choice spot (code.Waits fields) h a b c d e f g = absurd (c fields refl)
nothing_done choice spot (code.Tests fields) h a b c d e f g = absurd (d fields refl)
nothing_done choice spot (code.WaitsAny fields) h a b c d e f g = absurd (e fields refl)
nothing_done choice spot (code.WaitsSome fields) h a b c d e f g = absurd (f fields refl)
nothing_done choice spot (code.Cancels request) h a b c d e f g = absurd (g request refl)
nothing_done choice spot (code.Sends mode it) h a b c d e f g = cc
nothing_done choice spot (code.StartsSend request mode it) h a b c d e f g = cc
nothing_done choice spot (code.Receives it) h a b c d e f g = cc
nothing_done choice spot (code.StartsReceive request it) h a b c d e f g = cc
nothing_done choice spot (code.Exchanges it other) h a b c d e f g = cc
nothing_done choice spot (code.StartsExchange request received it other) h a b c d e f g = cc
nothing_done choice spot (code.Probes it) h a b c d e f g = cc
nothing_done choice spot (code.ProbesMatching message it) h a b c d e f g = cc
nothing_done choice spot (code.Collects collective comm root) h a b c d e f g = cc
nothing_done choice spot (code.StartsCollective request collective comm root) h a b c d e f g = cc
nothing_done choice spot (code.Duplicates comm) h a b c d e f g = cc
nothing_done choice spot (code.StartsDuplicate request comm) h a b c d e f g = cc
nothing_done choice spot (code.Splits comm colour key) h a b c d e f g = cc
nothing_done choice spot (code.Makes comm) h a b c d e f g = cc
nothing_done choice spot (code.MakesOfGroup fields) h a b c d e f g = cc
nothing_done choice spot _ h a b c d e f g = refl

pub takes_nothing : {B : Type 0} (done : B) (choice : Choice) (spot : Spot) (it : CalledCode) (list : ListCode)
    → outcome_on choice spot (called_view it) ≡ GoesOn [] → TakesCall {A = B} choice spot (called_view it) (Ok done) list list
takes_nothing {B} done choice spot it list e =
    let taken : Takes {A = B} spot (outcome_on choice spot (called_view it)) (Ok done) list list =
    subst (λ v. Takes {A = B} spot v (Ok done) list list) (sym e) (nothing_put {B = B} done spot list) in
    λ handed p stands fits holds. taken handed p stands fits

pub late_nothing : (choice : Choice) (spot : Spot) (it : CalledCode) (list : ListCode) (late : List ℕ)
    → outcome_on choice spot (called_view it) ≡ GoesOn [] → LateCall choice spot (called_view it) list late late
late_nothing choice spot it list late e = λ handed p stands holds.
    sym (append-nil (map Own late)) ∙ sym (ap (λ v. map Own late ++ late_in (steps_in v)) e)

pub messages_nothing : (it : CalledCode) (old : Standing) → ((request message : _) → it ≡ code.StartsMatched request message → ⊥)
    → (request : ℕ) → message_for old request ≡ message_after (called_view it) (message_for old) request
messages_nothing (code.StartsMatched started message) old h request = absurd (h started message refl)
messages_nothing _ old h request = refl

pub others_on_none : (it : CalledCode)
    → ((mode sent : _) → it ≡ code.Sends mode sent → ⊥) → ((request mode sent : _) → it ≡ code.StartsSend request mode sent → ⊥)
    → ((awaited : _) → it ≡ code.Receives awaited → ⊥) → ((request awaited : _) → it ≡ code.StartsReceive request awaited → ⊥)
    → ((sent awaited : _) → it ≡ code.Exchanges sent awaited → ⊥) → ((request received sent awaited : _) → it ≡ code.StartsExchange request received sent awaited → ⊥)
    → ((awaited : _) → it ≡ code.Probes awaited → ⊥) → ((message awaited : _) → it ≡ code.ProbesMatching message awaited → ⊥)
    → ((collective comm root : _) → it ≡ code.Collects collective comm root → ⊥)
    → ((request collective comm root : _) → it ≡ code.StartsCollective request collective comm root → ⊥)
    → ((request comm : _) → it ≡ code.StartsDuplicate request comm → ⊥) → ((fields : _) → it ≡ code.MakesOfGroup fields → ⊥)
    → ((comm : _) → it ≡ code.Duplicates comm → ⊥) → ((comm colour key : _) → it ≡ code.Splits comm colour key → ⊥)
    → ((comm : _) → it ≡ code.Makes comm → ⊥) → is_on_none (called_view it) ≡ true
others_on_none (code.Sends m s) a b c d e f g h i j k l m' n o = absurd (a m s refl)
others_on_none (code.StartsSend r m s) a b c d e f g h i j k l m' n o = absurd (b r m s refl)
others_on_none (code.Receives w) a b c d e f g h i j k l m' n o = absurd (c w refl)
others_on_none (code.StartsReceive r w) a b c d e f g h i j k l m' n o = absurd (d r w refl)
others_on_none (code.Exchanges s w) a b c d e f g h i j k l m' n o = absurd (e s w refl)
others_on_none (code.StartsExchange r q s w) a b c d e f g h i j k l m' n o = absurd (f r q s w refl)
others_on_none (code.Probes w) a b c d e f g h i j k l m' n o = absurd (g w refl)
others_on_none (code.ProbesMatching q w) a b c d e f g h i j k l m' n o = absurd (h q w refl)
others_on_none (code.Collects q w r) a b c d e f g h i j k l m' n o = absurd (i q w r refl)
others_on_none (code.StartsCollective p q w r) a b c d e f g h i j k l m' n o = absurd (j p q w r refl)
others_on_none (code.StartsDuplicate r w) a b c d e f g h i j k l m' n o = absurd (k r w refl)
others_on_none (code.MakesOfGroup w) a b c d e f g h i j k l m' n o = absurd (l w refl)
others_on_none (code.Duplicates w) a b c d e f g h i j k l m' n o = absurd (m' w refl)
others_on_none (code.Splits w q r) a b c d e f g h i j k l m' n o = absurd (n w q r refl)
others_on_none (code.Makes w) a b c d e f g h i j k l m' n o = absurd (o w refl)
others_on_none _ a b c d e f g h i j k l m' n o = refl

-- ---- What is awaited instead ----

pub receives_as : {B : Type 0} (spot : Spot) (request : ℕ) (one other : Awaited) (result : Result B Stop) (old new : ListCode) → one ≡ other
    → Takes spot (starts_receive_on spot request one) result old new → Takes spot (starts_receive_on spot request other) result old new
receives_as {B} spot request one other result old new e t = subst (λ it. Takes {A = B} spot (starts_receive_on spot request it) result old new) e t

pub exchanges_as : {B : Type 0} (spot : Spot) (request received : ℕ) (sent : Sent) (one other : Awaited) (result : Result B Stop) (old new : ListCode) → one ≡ other
    → Takes spot (starts_exchange_on spot request received sent one) result old new → Takes spot (starts_exchange_on spot request received sent other) result old new
exchanges_as {B} spot request received sent one other result old new e t = subst (λ it. Takes {A = B} spot (starts_exchange_on spot request received sent it) result old new) e t
