-- The table of places, as members are added one by one.
use Rattle.std.proofs.Common.{◌≡◌, ◌≢◌, ℕ, ◌+◌, ◌<◌, ◌≤◌, zero, suc, Bool, true, false, List, [], ◌∷◌, ◌++◌, length, set, eqb, sym, ap, ◌∙◌, refl, arith, Some, None, inl, inr, ◌⊎◌, Option}
use Rattle.std.specs.List.{position, position_from, list_any, slice_get}
use Rattle.std.proofs.lemmas.Iterator.Adapters.{position_from-zero}
use Rattle.std.proofs.lemmas.Option.{slice_get_within}
use Rattle.std.proofs.lemmas.Bool.{cases_Bool, eqb-true, eqb-false, eq-eqb, ne_eqb, or_left, or_right}
use Rattle.mpicall.specs.Number.{is_canonical, value_of}
use Rattle.mpigroup.proofs.ListLemmas.{slice_get-set_same, slice_get-set_other}
use Rattle.mpigroup.specs.inner.Places.{told_place, is_free, new_member}
use Rattle.mpigroup.specs.declared.group.TheConstants.{NO_PLACE}

-- the table has the places of these members
pub record AreTold (members places : List ℕ) : Type 0 where
  pub told : (rank : ℕ) → told_place (slice_get places rank) ≡ position (λ member. eqb member rank) members

-- one more element is found where no earlier one passes, and changes nothing else
from-push_found : (p : ℕ → Bool) (xs : List ℕ) (y i : ℕ) → p y ≡ true → position_from p i xs ≡ None → position_from p i (xs ++ y ∷ []) ≡ Some (i + length xs)
from-push_found p [] y i here none = rw here (let e : i ≡ i + 0 = omega arith in ap (λ (k : ℕ). Some k) e)
from-push_found p (x ∷ xs) y i here none = elim (cases_Bool (p x)) [
  | inl holds ↦ absurd (let e = rw holds at none in cc)
  | inr fails ↦
      let e : i + 1 + length xs ≡ i + length (x ∷ xs) = omega arith in
      rw fails (from-push_found p xs y (i + 1) here (rw fails at none) ∙ ap (λ (k : ℕ). Some k) e)
]

from-push_other : (p : ℕ → Bool) (xs : List ℕ) (y i : ℕ) → p y ≡ false → position_from p i (xs ++ y ∷ []) ≡ position_from p i xs
from-push_other p [] y i other = rw other refl
from-push_other p (x ∷ xs) y i other = elim (cases_Bool (p x)) [
  | inl holds ↦ rw holds refl
  | inr fails ↦ rw fails (from-push_other p xs y (i + 1) other)
]

-- an element that is found is there
from-any : (p : ℕ → Bool) (xs : List ℕ) (i k : ℕ) → position_from p i xs ≡ Some k → list_any p xs ≡ true
from-any p [] i k is = absurd cc
from-any p (x ∷ xs) i k is = elim (cases_Bool (p x)) [
  | inl holds ↦ or_left _ _ holds
  | inr fails ↦ or_right _ _ (from-any p xs (i + 1) k (rw fails at is))
]

from-none : (p : ℕ → Bool) (xs : List ℕ) (i : ℕ) → position_from p i xs ≡ None → list_any p xs ≡ false
from-none p [] i is = refl
from-none p (x ∷ xs) i is = elim (cases_Bool (p x)) [
  | inl holds ↦ absurd (let e = rw holds at is in cc)
  | inr fails ↦ rw fails (from-none p xs (i + 1) (rw fails at is))
]

-- what makes a field name a new member
pub record IsNew (places : List ℕ) (field : List ℕ) (m : ℕ) : Type 0 where
  pub canonical : is_canonical field ≡ true
  pub named : m ≡ value_of field
  pub free : slice_get places m ≡ Some NO_PLACE

free_entry : (entry : Option ℕ) → is_free entry ≡ true → entry ≡ Some NO_PLACE
free_entry None is = absurd cc
free_entry (Some entry) is = ap (λ (k : ℕ). Some k) (eqb-true entry NO_PLACE is)

pub is_new : (places field : List ℕ) (m : ℕ) → new_member places field ≡ Some m → IsNew places field m
is_new places field m is = elim (cases_Bool (is_canonical field)) [
  | inl holds ↦ elim (cases_Bool (is_free (slice_get places (value_of field)))) [
    | inl free ↦
        let named : value_of field ≡ m = let e = rw (holds, free) at is in cc in
        record { canonical = holds; named = sym named; free = rw (← named) (free_entry (slice_get places (value_of field)) free) }
    | inr taken ↦ absurd (let e = rw (holds, taken) at is in cc)
  ]
  | inr fails ↦ absurd (let e = rw fails at is in cc)
]

-- a new member is a rank of the run, and not among the members yet
pub new-within : (places field : List ℕ) (m : ℕ) → IsNew places field m → m < length places
new-within places field m new = slice_get_within places m NO_PLACE new.free

pub new-apart : (members places field : List ℕ) (m : ℕ) → AreTold members places → IsNew places field m → list_any (λ y. eqb y m) members ≡ false
new-apart members places field m t new =
    let none : None ≡ position (λ y. eqb y m) members = rw new.free at (t.told m) in
    from-none (λ y. eqb y m) members 0 (sym (none ∙ position_from-zero (λ y. eqb y m) members))

past : (places : List ℕ) (rank : ℕ) → slice_get places rank ≡ None → length places ≤ rank
past [] rank is = omega arith
past (x ∷ places) zero is = absurd cc
past (x ∷ places) (suc rank) is = let h : length places ≤ rank = past places rank is in omega arith

-- a number that names no new member names no rank of the run, or a member
told_entry : (entry : Option ℕ) → is_free entry ≡ false → (entry ≡ None) ⊎ ((k : ℕ) × (told_place entry ≡ Some k))
told_entry None is = inl refl
told_entry (Some entry) is = inr (entry, rw is refl)

pub not_new : (members places field : List ℕ) → AreTold members places → new_member places field ≡ None → is_canonical field ≡ true → (length places ≤ value_of field) ⊎ (list_any (λ y. eqb y (value_of field)) members ≡ true)
not_new members places field t is holds = elim (cases_Bool (is_free (slice_get places (value_of field)))) [
  | inl free ↦ absurd (let e = rw (holds, free) at is in cc)
  | inr taken ↦ elim (told_entry (slice_get places (value_of field)) taken) [
    | inl none ↦ inl (past places (value_of field) none)
    | inr some ↦
        let p : ℕ → Bool = λ y. eqb y (value_of field) in
        inr (from-any p members 0 some.0 (sym (position_from-zero p members) ∙ sym (t.told (value_of field)) ∙ some.1))
  ]
]

push_same : (members places field : List ℕ) (m : ℕ) → AreTold members places → IsNew places field m → length members < NO_PLACE → told_place (slice_get (set places m (length members)) m) ≡ position (λ y. eqb y m) (members ++ m ∷ [])
push_same members places field m t new few =
    let p : ℕ → Bool = λ y. eqb y m in
    let here : p m ≡ true = eq-eqb m m refl in
    let none : position_from p 0 members ≡ None = let e = rw new.free at (t.told m) in sym (e ∙ position_from-zero p members) in
    let at : position_from p 0 (members ++ m ∷ []) ≡ Some (length members) = let e : 0 + length members ≡ length members = omega arith in rw e at (from-push_found p members m 0 here none) in
    let found : position p (members ++ m ∷ []) ≡ Some (length members) = position_from-zero p (members ++ m ∷ []) ∙ at in
    let place : eqb (length members) NO_PLACE ≡ false = ne_eqb (length members) NO_PLACE (λ e. omega (arith, few, e)) in
    rw (slice_get-set_same places m (length members) (new-within places field m new), place) (sym found)

push_other : (members places : List ℕ) (m rank : ℕ) → AreTold members places → eqb m rank ≡ false → told_place (slice_get (set places m (length members)) rank) ≡ position (λ y. eqb y rank) (members ++ m ∷ [])
push_other members places m rank t other =
    let p : ℕ → Bool = λ y. eqb y rank in
    let apart : rank ≢ m = λ e. eqb-false m rank other (sym e) in
    let same : position p (members ++ m ∷ []) ≡ position p members = position_from-zero p (members ++ m ∷ []) ∙ from-push_other p members m 0 other ∙ sym (position_from-zero p members) in
    rw (slice_get-set_other places m rank (length members) apart) (t.told rank ∙ sym same)

-- one more member, with its place
pub AreTold-push : (members places field : List ℕ) (m at : ℕ) → AreTold members places → IsNew places field m → at ≡ length members → at < NO_PLACE → AreTold (members ++ m ∷ []) (set places m at)
AreTold-push members places field m at t new is few = rw is (record {
  told = λ rank. elim (cases_Bool (eqb m rank)) [
    | inl same ↦
        let e : m ≡ rank = eqb-true m rank same in
        rw (← e) (push_same members places field m t new (omega (arith, is, few)))
    | inr other ↦ push_other members places m rank t other
  ];
})
