-- The requests of a list as it grows: those with a number are the active ones, a start takes a number that is free, and
-- waits name numbers that aren't, each once.
use Rattle.std.proofs.Common.{◌≡◌, ℕ, zero, suc, ◌≤◌, ◌==◌, ◌||◌, not, Bool, true, false, eqb, Option, Some, None, unwrap_or, if◌then◌else◌, List, [], ◌∷◌, ◌++◌, take, drop, refl, sym, subst, ◌∙◌, ⊎_elim, arith}
use Rattle.std.specs.Prelude.{⊤}
use Rattle.std.specs.List.{list_all, find, range_with_len}
use Rattle.std.proofs.lemmas.Bool.{false≢true, cases_Bool, eqb-true, eq-eqb}
use Rattle.std.proofs.lemmas.Option.{none-some, same_Some}
use Rattle.mpicall.specs.Ending.{ends_list}
use Rattle.mpicall.specs.declared.call.Call.{Call}
use Rattle.callstore.specs.Requests.{starts, waits_for as named_by, completes, is_among, is_active}
use Rattle.pairing.specs.Faults.{starts_afresh, are_distinct, waits_for_active}
use Rattle.pairing.proofs.ActiveLemmas.{started-push}
use Rattle.closing.specs.Steps.{Id, number_in, without, without_all, numbers_of, has_number, is_free, above, least_free, same_id}

-- the requests with a number are those that are active after the calls
abbrev pub AreActive : List Call → List (Id × ℕ) → Type 0
AreActive calls active = (number : ℕ) → is_active calls number ≡ has_number active number

-- the call ends no list, and neither starts nor names a request; or it starts this one; or it waits for these and
-- completes those
pub record IsPlain (call : Call) : Type 0 where
  pub starts_none : starts call ≡ None
  pub names_none : named_by call ≡ []
  pub completes_none : completes call ≡ []
  pub goes_on : ends_list call ≡ false

pub record IsStart (number : ℕ) (call : Call) : Type 0 where
  pub starts_it : starts call ≡ Some number
  pub names_none : named_by call ≡ []
  pub completes_none : completes call ≡ []
  pub goes_on : ends_list call ≡ false

pub record IsWait (numbers completed : List ℕ) (call : Call) : Type 0 where
  pub starts_none : starts call ≡ None
  pub names : named_by call ≡ numbers
  pub completes_them : completes call ≡ completed
  pub goes_on : ends_list call ≡ false

-- ---- One more call ----

pub plain_keeps : (calls : List Call) (active : List (Id × ℕ)) (call : Call) → IsPlain call → AreActive calls active → AreActive (calls ++ call ∷ []) active
plain_keeps calls active call plain same number =
    rw (started-push calls call number, plain.starts_none, plain.completes_none) (same number)

pub start_keeps : (calls : List Call) (active : List (Id × ℕ)) (call : Call) (id : Id) (start : ℕ) → IsStart start call → AreActive calls active → AreActive (calls ++ call ∷ []) ((id, start) ∷ active)
start_keeps calls active call id start is_start same number =
    rw (started-push calls call number, is_start.starts_it, is_start.completes_none) (
    ⊎_elim
    (λ (e : eqb start number ≡ true). rw e refl)
    (λ (e : eqb start number ≡ false). rw e (same number))
    (cases_Bool (eqb start number)))

-- ---- Numbers taken out ----

pub without_has : (one : ℕ) (active : List (Id × ℕ)) (number : ℕ) → has_number (without one active) number ≡ (if one == number then false else has_number active number)
without_has one [] number =
    ⊎_elim
    (λ (e : eqb one number ≡ true). rw e refl)
    (λ (e : eqb one number ≡ false). rw e refl)
    (cases_Bool (eqb one number))
without_has one (first ∷ others) number =
    ⊎_elim
    (λ (same : eqb first.1 one ≡ true).
    ⊎_elim
    (λ (e : eqb one number ≡ true). rw (same, without_has one others number, e) refl)
    (λ (e : eqb one number ≡ false). rw (same, without_has one others number, e, eqb-true first.1 one same, e) refl)
    (cases_Bool (eqb one number)))
    (λ (differs : eqb first.1 one ≡ false).
    ⊎_elim
    (λ (e : eqb one number ≡ true).
    let other : eqb first.1 number ≡ false = subst (λ (n : ℕ). eqb first.1 n ≡ false) (eqb-true one number e) differs in
    rw (differs, without_has one others number, e, other) refl)
    (λ (e : eqb one number ≡ false). rw (differs, without_has one others number, e) refl)
    (cases_Bool (eqb one number)))
    (cases_Bool (eqb first.1 one))

pub without_all_has : (numbers : List ℕ) (active : List (Id × ℕ)) (number : ℕ) → has_number (without_all numbers active) number ≡ (if is_among number numbers then false else has_number active number)
without_all_has [] active number = refl
without_all_has (one ∷ numbers) active number =
    ⊎_elim
    (λ (e : eqb one number ≡ true). rw (without_all_has numbers (without one active) number, without_has one active number, e) (both (is_among number numbers)))
    (λ (e : eqb one number ≡ false). rw (without_all_has numbers (without one active) number, without_has one active number, e) refl)
    (cases_Bool (eqb one number))
  where
    both : (b : Bool) → (if b then false else false) ≡ false
    both true = refl
    both false = refl

pub wait_keeps : (calls : List Call) (active : List (Id × ℕ)) (call : Call) (named completed : List ℕ) → IsWait named completed call → AreActive calls active → AreActive (calls ++ call ∷ []) (without_all completed active)
wait_keeps calls active call named completed is_wait same number =
    rw (started-push calls call number, is_wait.starts_none, is_wait.completes_them, without_all_has completed active number) (
    ⊎_elim
    (λ (e : is_among number completed ≡ true). rw e refl)
    (λ (e : is_among number completed ≡ false). rw e (same number))
    (cases_Bool (is_among number completed)))

-- ---- Numbers drawn from the active ones, each once ----

abbrev pub AreDrawn : List ℕ → List (Id × ℕ) → Type 0
AreDrawn [] active = ⊤
AreDrawn (number ∷ numbers) active = (has_number active number ≡ true) × AreDrawn numbers (without number active)

pub numbered : (active : List (Id × ℕ)) (id : Id) (number : ℕ) → number_in active id ≡ Some number → has_number active number ≡ true
numbered [] id number e = absurd (none-some number e)
numbered (first ∷ others) id number e =
    ⊎_elim
    (λ (here : same_id first.0 id ≡ true).
    let same : Some first.1 ≡ Some number = rw here at e in
    rw (same_Some first.1 number same, eq-eqb number number refl) refl)
    (λ (fails : same_id first.0 id ≡ false).
    let rest : has_number others number ≡ true = numbered others id number (rw fails at e) in
    rw rest (or_true (eqb first.1 number)))
    (cases_Bool (same_id first.0 id))
  where
    or_true : (b : Bool) → (b || true) ≡ true
    or_true true = refl
    or_true false = refl

pub drawn : (active : List (Id × ℕ)) (ids : List Id) → AreDrawn (numbers_of active ids) active
drawn active [] = tt
drawn active (id ∷ ids) = drawn_by active id ids (number_in active id) refl (λ others. drawn others ids)
  where
    drawn_by : (active : List (Id × ℕ)) (id : Id) (ids : List Id) (o : Option ℕ) → number_in active id ≡ o → ((others : List (Id × ℕ)) → AreDrawn (numbers_of others ids) others) → AreDrawn (numbers_of active (id ∷ ids)) active
    drawn_by active id ids None e rest = rw e (rest active)
    drawn_by active id ids (Some number) e rest = rw e (numbered active id number e, rest (without number active))

-- one that is left was there, and isn't the one that was taken out
left_has : (one number : ℕ) (active : List (Id × ℕ)) → has_number (without one active) number ≡ true → (eqb one number ≡ false) × (has_number active number ≡ true)
left_has one number active h =
    ⊎_elim
    (λ (e : eqb one number ≡ true). absurd (false≢true (rw (without_has one active number, e) at h)))
    (λ (e : eqb one number ≡ false). (e, rw (without_has one active number, e) at h))
    (cases_Bool (eqb one number))

other_way : (a b : ℕ) → eqb a b ≡ false → eqb b a ≡ false
other_way a b h =
    ⊎_elim
    (λ (e : eqb b a ≡ true). absurd (false≢true (sym h ∙ eq-eqb a b (sym (eqb-true b a e)))))
    (λ (e : eqb b a ≡ false). e)
    (cases_Bool (eqb b a))

all_left : (one : ℕ) (active : List (Id × ℕ)) (numbers : List ℕ) → list_all (has_number (without one active)) numbers ≡ true → (is_among one numbers ≡ false) × (list_all (has_number active) numbers ≡ true)
all_left one active [] h = (refl, refl)
all_left one active (number ∷ numbers) h =
    ⊎_elim
    (λ (e : has_number (without one active) number ≡ true).
    let here = left_has one number active e in
    let rest = all_left one active numbers (rw e at h) in
    (rw (other_way one number here.0, rest.0) refl, rw (here.1, rest.1) refl))
    (λ (e : has_number (without one active) number ≡ false). absurd (false≢true (rw e at h)))
    (cases_Bool (has_number (without one active) number))

-- they are active, and none stands twice
pub drawn_all : (numbers : List ℕ) (active : List (Id × ℕ)) → AreDrawn numbers active → list_all (has_number active) numbers ≡ true
drawn_all [] active all = refl
drawn_all (number ∷ numbers) active all =
    rw (all.0, (all_left number active numbers (drawn_all numbers (without number active) all.1)).1) refl

pub drawn_distinct : (numbers : List ℕ) (active : List (Id × ℕ)) → AreDrawn numbers active → are_distinct numbers ≡ true
drawn_distinct [] active all = refl
drawn_distinct (number ∷ numbers) active all =
    rw ((all_left number active numbers (drawn_all numbers (without number active) all.1)).0, drawn_distinct numbers (without number active) all.1) refl

-- so are the first of them, and the others once these are taken out
pub drawn_take : (n : ℕ) (numbers : List ℕ) (active : List (Id × ℕ)) → AreDrawn numbers active → AreDrawn (take n numbers) active
drawn_take zero numbers active all = tt
drawn_take (suc n) [] active all = tt
drawn_take (suc n) (number ∷ numbers) active all = (all.0, drawn_take n numbers (without number active) all.1)

pub drawn_drop : (n : ℕ) (numbers : List ℕ) (active : List (Id × ℕ)) → AreDrawn numbers active → AreDrawn (drop n numbers) (without_all (take n numbers) active)
drawn_drop zero numbers active all = all
drawn_drop (suc n) [] active all = tt
drawn_drop (suc n) (number ∷ numbers) active all = drawn_drop n numbers (without number active) all.1

-- ---- The least free number ----

below_above : (active : List (Id × ℕ)) (number : ℕ) → above active ≤ number → has_number active number ≡ false
below_above [] number h = refl
below_above (one ∷ others) number h =
    ⊎_elim
    (λ (e : eqb one.1 number ≡ true).
    let same : one.1 ≡ number = eqb-true one.1 number e in
    absurd (omega (arith, h, same)))
    (λ (e : eqb one.1 number ≡ false). rw (e, below_above others number (omega (arith, h))) refl)
    (cases_Bool (eqb one.1 number))

first_free : (active : List (Id × ℕ)) (numbers : List ℕ) → is_free active (unwrap_or (find (is_free active) numbers) (above active)) ≡ true
first_free active [] = rw (below_above active (above active) (omega arith)) refl
first_free active (number ∷ numbers) =
    ⊎_elim
    (λ (e : is_free active number ≡ true). rw e e)
    (λ (e : is_free active number ≡ false). rw e (first_free active numbers))
    (cases_Bool (is_free active number))

pub least_is_free : (active : List (Id × ℕ)) → has_number active (least_free active) ≡ false
least_is_free active = not_not (has_number active (least_free active)) (first_free active (range_with_len 0 (above active)))
  where
    not_not : (b : Bool) → not b ≡ true → b ≡ false
    not_not true h = absurd (false≢true h)
    not_not false h = refl

-- ---- Calls after calls ----

-- the call ends no list, and passes the tests that look at requests
pub record Fits (calls : List Call) (call : Call) : Type 0 where
  pub goes_on : ends_list call ≡ false
  pub afresh : starts_afresh calls call ≡ true
  pub distinct : are_distinct (named_by call) ≡ true
  pub active : waits_for_active calls call ≡ true

abbrev pub AllFit : List Call → List Call → Type 0
AllFit calls [] = ⊤
AllFit calls (call ∷ others) = Fits calls call × AllFit (calls ++ call ∷ []) others

pub plain_fits : (calls : List Call) (call : Call) → IsPlain call → Fits calls call
plain_fits calls call plain = record {
  goes_on = plain.goes_on;
  afresh = rw plain.starts_none refl;
  distinct = rw plain.names_none refl;
  active = rw plain.names_none refl;
}

pub start_fits : (calls : List Call) (active : List (Id × ℕ)) (call : Call) → IsStart (least_free active) call → AreActive calls active → Fits calls call
start_fits calls active call is_start same = record {
  goes_on = is_start.goes_on;
  afresh = rw (is_start.starts_it, same (least_free active), least_is_free active) refl;
  distinct = rw is_start.names_none refl;
  active = rw is_start.names_none refl;
}

all_active : (calls : List Call) (active : List (Id × ℕ)) (numbers : List ℕ) → AreActive calls active → list_all (has_number active) numbers ≡ true → list_all (is_active calls) numbers ≡ true
all_active calls active [] same h = refl
all_active calls active (number ∷ numbers) same h =
    ⊎_elim
    (λ (e : has_number active number ≡ true). rw (same number, e, all_active calls active numbers same (rw e at h)) refl)
    (λ (e : has_number active number ≡ false). absurd (false≢true (rw e at h)))
    (cases_Bool (has_number active number))

pub wait_fits : (calls : List Call) (active : List (Id × ℕ)) (call : Call) (numbers completed : List ℕ) → IsWait numbers completed call → AreActive calls active → AreDrawn numbers active → Fits calls call
wait_fits calls active call numbers completed is_wait same all = record {
  goes_on = is_wait.goes_on;
  afresh = rw is_wait.starts_none refl;
  distinct = rw is_wait.names (drawn_distinct numbers active all);
  active = rw is_wait.names (all_active calls active numbers same (drawn_all numbers active all));
}
