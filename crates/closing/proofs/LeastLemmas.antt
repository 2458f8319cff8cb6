-- The number that is free and has none below it that is free is the least free one of the definitions.
use Rattle.std.proofs.Common.{◌≡◌, ◌∙◌, ◌<◌, ◌≤◌, ◌+◌, ◌||◌, ℕ, zero, suc, Bool, true, false, not, refl, sym, ap, arith, List, [], ◌∷◌, Option, Some, None, inl, inr, eqb, ltb, le-ltb}
use Rattle.std.specs.List.{find, range_with_len}
use Rattle.std.specs.Option.{unwrap_or}
use Rattle.std.proofs.lemmas.Bool.{both_ways, cases_lt, cases_eq, cond-true, cond-false, eq-eqb, ne_eqb, or_from, and_left}
use Rattle.closing.specs.Steps.{Id, above, has_number, is_free, least_free}
use Rattle.std.specs.BinaryHeap.{heap_items}
use Rattle.closing.specs.inner.Free.{is_in_use, kept_count, AreNumbered, TakesLeast}
use Rattle.closing.specs.inner.Lists.{TakesFree}
use Rattle.closing.specs.declared.list.List.{List as Listed}

first_in : (p : ℕ → Bool) (start len wanted : ℕ) → start ≤ wanted → wanted < start + len → p wanted ≡ true → ((n : ℕ) → n < wanted → p n ≡ false) → find p (range_with_len start len) ≡ Some wanted
first_in p start zero wanted from to here none = absurd (omega arith)
first_in p start (suc len) wanted from to here none =
    elim (cases_eq start wanted) [
      | inl e ↦ cond-true (p start) (Some start) (find p (range_with_len (start + 1) len)) (ap p e ∙ here) ∙ ap (λ n. Some n) e
      | inr apart ↦
          cond-false (p start) (Some start) (find p (range_with_len (start + 1) len)) (none start (omega arith))
          ∙ first_in p (start + 1) len wanted (omega arith) (omega arith) here none
    ]

none_in : (p : ℕ → Bool) (start len : ℕ) → ((n : ℕ) → n < start + len → p n ≡ false) → find p (range_with_len start len) ≡ None
none_in p start zero none = refl
none_in p start (suc len) none =
    cond-false (p start) (Some start) (find p (range_with_len (start + 1) len)) (none start (omega arith))
    ∙ none_in p (start + 1) len (λ n lt. none n (omega arith))

none_above : (active : List (Id × ℕ)) (n : ℕ) → above active ≤ n → has_number active n ≡ false
none_above [] n h = refl
none_above (one ∷ others) n h =
    or_from (eqb one.1 n) (has_number others n) (ne_eqb one.1 n (λ e. omega arith)) (none_above others n (omega arith))

least_is : (active : List (Id × ℕ)) (number : ℕ) → is_free active number ≡ true → ((n : ℕ) → n < number → is_free active n ≡ false) → least_free active ≡ number
least_is active number here none = elim (cases_lt number (above active)) [
  | inl inside ↦
      ap (λ (found : Option ℕ). unwrap_or found (above active))
      (first_in (is_free active) 0 (above active) number (omega arith) (omega arith) here none)
  | inr past ↦ elim (cases_lt (above active) number) [
    | inl less ↦
        absurd (both_ways (is_free active (above active)) (none (above active) less)
        (ap (λ b. not b) (none_above active (above active) (omega arith))))
    | inr same ↦
        ap (λ (found : Option ℕ). unwrap_or found (above active))
        (none_in (is_free active) 0 (above active) (λ n lt. none n (omega arith)))
        ∙ omega arith
  ]
]

pub least_taken : (active : List (Id × ℕ)) (old new : Listed) (number : ℕ) → AreNumbered active old → TakesLeast old new number → number ≡ least_free active
least_taken active old new number are it =
    sym (least_is active number (ap (λ b. not b) (are.same number ∙ it.free)) (λ n lt. ap (λ b. not b) (are.same n ∙ it.below n lt)))

eqb_back : (m n : ℕ) → eqb m n ≡ eqb n m
eqb_back m n = elim (cases_eq m n) [
  | inl e ↦ eq-eqb m n e ∙ sym (eq-eqb n m (sym e))
  | inr apart ↦ ne_eqb m n apart ∙ sym (ne_eqb n m (λ e. apart (sym e)))
]

pub numbered_with : (active : List (Id × ℕ)) (id : Id) (old new : Listed) (number : ℕ) → AreNumbered active old → TakesLeast old new number → AreNumbered ((id, number) ∷ active) new
numbered_with active id old new number are it = record {
  kept = it.kept;
  same = λ n. ap (λ b. b || has_number active n) (eqb_back number n) ∙ ap (λ b. eqb n number || b) (are.same n) ∙ sym (it.taken n);
}

pub takes_free : (active : List (Id × ℕ)) (old new : Listed) (number : ℕ) → AreNumbered active old → TakesLeast old new number → TakesFree active old new number
takes_free active old new number are it = record {
  least = least_taken active old new number are it;
  fresh = are.same number ∙ it.free;
  low = elim (cases_lt old.given number) [
    | inl above ↦
        absurd (both_ways (is_in_use old old.given)
        (and_left (ltb old.given old.given) (eqb (kept_count (heap_items old.free) old.given) 0) (le-ltb old.given old.given (omega arith)))
        (it.below old.given above))
    | inr low ↦ low
  ];
  given = it.given;
  numbered = λ id. numbered_with active id old new number are it;
}
