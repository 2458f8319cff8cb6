-- Lists in which no call has a fault after those before it.
use Rattle.std.proofs.Common.{inl, inr, ◌≡◌, ℕ, zero, suc, ◌-◌, ◌<◌, ◌⊎◌, Bool, true, false, ltb, Some, None, List, [], ◌∷◌, ◌++◌, length, take, refl, sym, ap, ◌∙◌, ⊎_elim, arith}
use Rattle.std.specs.List.{slice_get, list_any}
use Rattle.std.specs.Option.{option_map_or}
use Rattle.std.proofs.lemmas.List.{take-append-le}
use Rattle.std.proofs.lemmas.Option.{none-some, same_Some}
use Rattle.std.proofs.lemmas.Bool.{false≢true, cases_Bool, ltb-true}
use Rattle.mpicall.specs.declared.call.Call.{Call}
use Rattle.mpicall.specs.Ending.{ends_list}
use Rattle.mpigroup.specs.Groups.{Groups}
use Rattle.std.specs.Prelude.{not}
use Rattle.callstore.specs.Limits.{most_calls}
use Rattle.callstore.specs.Recordings.{IsClosedList, has_end, is_ended}
use Rattle.pairing.specs.Faults.{AnEndedLawfulListIsClosed, first_failed, comm_exists, holds_comm, peers_exist, starts_afresh, are_distinct, waits_for_active, makes_afresh, fault_of, IsLawfulList}
use Rattle.callstore.specs.Requests.{waits_for}
use Rattle.pairing.specs.declared.fault.CallFault.TheVariants.{CallAfterFinalize, TooManyCalls, UnknownCommunicator, CommunicatorNotHeld, PeerOutOfGroup, RequestInUse, RequestRepeated, RequestNotActive, WrongNewCommunicator}

-- where no test has failed each one passes; six of them are used
all_pass : (a b c d e f g i j : Bool) → first_failed ((CallAfterFinalize, a) ∷ ((TooManyCalls, b) ∷ ((UnknownCommunicator, c) ∷ ((CommunicatorNotHeld, d) ∷ ((PeerOutOfGroup, e) ∷ ((RequestInUse, f) ∷ ((RequestRepeated, g) ∷ ((RequestNotActive, i) ∷ ((WrongNewCommunicator, j) ∷ []))))))))) ≡ None → (a ≡ true) × (b ≡ true) × (f ≡ true) × (i ≡ true) × (c ≡ true) × (d ≡ true)
all_pass false b c d e f g i j h = absurd (none-some CallAfterFinalize (sym h))
all_pass true false c d e f g i j h = absurd (none-some TooManyCalls (sym h))
all_pass true true false d e f g i j h = absurd (none-some UnknownCommunicator (sym h))
all_pass true true true false e f g i j h = absurd (none-some CommunicatorNotHeld (sym h))
all_pass true true true true false f g i j h = absurd (none-some PeerOutOfGroup (sym h))
all_pass true true true true true false g i j h = absurd (none-some RequestInUse (sym h))
all_pass true true true true true true false i j h = absurd (none-some RequestRepeated (sym h))
all_pass true true true true true true true false j h = absurd (none-some RequestNotActive (sym h))
all_pass true true true true true true true true false h = absurd (none-some WrongNewCommunicator (sym h))
all_pass true true true true true true true true true h = (refl, refl, refl, refl, refl, refl)

-- what it means that a call has no fault
pub record IsFaultless (groups : Groups) (rank : ℕ) (calls : List Call) (call : Call) : Type 0 where
  pub is_open : has_end calls ≡ false
  pub has_room : length calls < most_calls
  pub afresh : starts_afresh calls call ≡ true
  pub active : waits_for_active calls call ≡ true
  pub comm_is : comm_exists groups call ≡ true
  pub holds_it : holds_comm groups rank calls call ≡ true

pub not_true : (b : Bool) → not b ≡ true → b ≡ false
not_true true h = absurd (false≢true h)
not_true false h = refl

pub fault_none : (groups : Groups) (rank : ℕ) (calls : List Call) (call : Call) → fault_of groups rank calls call ≡ None → IsFaultless groups rank calls call
unfolding fault_of
fault_none groups rank calls call h =
    let passed = all_pass (not (has_end calls)) (ltb (length calls) most_calls) (comm_exists groups call)
    (holds_comm groups rank calls call) (peers_exist groups call) (starts_afresh calls call) (are_distinct (waits_for call))
    (waits_for_active calls call) (makes_afresh groups rank calls call) h in
    record {
      is_open = not_true (has_end calls) passed.0;
      has_room = ltb-true (length calls) most_calls passed.1;
      afresh = passed.2;
      active = passed.3;
      comm_is = passed.4;
      holds_it = passed.5;
    }

-- one element that passes settles it
slice_get-push : {A : Type 0} (xs : List A) (y : A) (i : ℕ) (x : A) → slice_get (xs ++ y ∷ []) i ≡ Some x → ((i < length xs) × (slice_get xs i ≡ Some x)) ⊎ ((i ≡ length xs) × (y ≡ x))
slice_get-push [] y zero x h = inr (refl, same_Some y x h)
slice_get-push [] y (suc i) x h = absurd (none-some x h)
slice_get-push (z ∷ zs) y zero x h = inl (omega arith, h)
slice_get-push (z ∷ zs) y (suc i) x h =
    ⊎_elim
    (λ before. inl (omega (arith, before.0), before.1))
    (λ last. inr (omega (arith, last.0), last.1))
    (slice_get-push zs y i x h)

take_whole : {A : Type 0} (xs ys : List A) → take (length xs) (xs ++ ys) ≡ xs
take_whole [] ys = refl
take_whole (x ∷ xs) ys = ap (λ zs. x ∷ zs) (take_whole xs ys)

-- a call without a fault goes on from a lawful list
pub lawful_push : (groups : Groups) (rank : ℕ) (calls : List Call) (call : Call) → IsLawfulList groups rank calls → fault_of groups rank calls call ≡ None → IsLawfulList groups rank (calls ++ call ∷ [])
lawful_push groups rank calls call lawful none place other h =
    ⊎_elim
    (λ before.
    let front : take place (calls ++ call ∷ []) ≡ take place calls = take-append-le place calls (call ∷ []) (omega (arith, before.0)) in
    rw front (lawful place other before.1))
    (λ last.
    let front : take place (calls ++ call ∷ []) ≡ calls = rw last.0 (take_whole calls (call ∷ [])) in
    rw (front, ← last.1) none)
    (slice_get-push calls call place other h)

any_one : (test : Call → Bool) (x : Call) → list_any test (x ∷ []) ≡ test x
any_one test x = ⊎_elim (λ (e : test x ≡ true). rw e refl) (λ (e : test x ≡ false). rw e refl) (cases_Bool (test x))

-- where no element but the last passes, the last decides whether one passes
last_tells : (test : Call → Bool) (calls : List Call) → ((place : ℕ) (call : Call) → slice_get calls place ≡ Some call → list_any test (take place calls) ≡ false) → list_any test calls ≡ option_map_or test (slice_get calls (length calls - 1)) false
last_tells test [] alone = refl
last_tells test (x ∷ []) alone = any_one test x
last_tells test (x ∷ y ∷ ys) alone =
    let fails : test x ≡ false = sym (any_one test x) ∙ alone 1 y refl in
    let rest = last_tells test (y ∷ ys) (λ place call h. rw fails at (alone (suc place) call h)) in
    let end : suc (suc (length ys)) - 1 ≡ suc (suc (length ys) - 1) = omega arith in
    rw (fails, end) rest

-- in a lawful list nothing follows Finalize, so the last call decides whether it has one
pub lawful_end : (groups : Groups) (rank : ℕ) (calls : List Call) → IsLawfulList groups rank calls → is_ended calls ≡ has_end calls
lawful_end groups rank calls lawful =
    sym (last_tells ends_list calls (λ place call h. (fault_none groups rank (take place calls) call (lawful place call h)).is_open))

closed_more : (x : Call) (calls : List Call) → ends_list x ≡ false → IsClosedList calls → IsClosedList (x ∷ calls)
closed_more x calls fails closed = record {
  before = x ∷ closed.before;
  last = closed.last;
  is_all = ap (λ (others : List Call). x ∷ others) closed.is_all;
  is_the_end = closed.is_the_end;
  has_no_other = rw fails closed.has_no_other;
}

closed_from : (calls : List Call) → ((place : ℕ) (call : Call) → slice_get calls place ≡ Some call → list_any ends_list (take place calls) ≡ false) → is_ended calls ≡ true → IsClosedList calls
closed_from [] alone ended = absurd (false≢true ended)
closed_from (x ∷ []) alone ended =
    record { before = []; last = x; is_all = refl; is_the_end = ended; has_no_other = refl }
closed_from (x ∷ y ∷ ys) alone ended =
    let fails : ends_list x ≡ false = sym (any_one ends_list x) ∙ alone 1 y refl in
    let end : suc (suc (length ys)) - 1 ≡ suc (suc (length ys) - 1) = omega arith in
    let rest = closed_from (y ∷ ys) (λ place call h. rw fails at (alone (suc place) call h)) (rw end at ended) in
    closed_more x (y ∷ ys) fails rest

pub an_ended_lawful_list_is_closed : AnEndedLawfulListIsClosed
an_ended_lawful_list_is_closed groups rank calls lawful ended =
    closed_from calls (λ place call h. (fault_none groups rank (take place calls) call (lawful place call h)).is_open) ended
