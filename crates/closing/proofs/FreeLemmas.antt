-- The least number that isn't in use, as one that is free again is taken, or a next one is given.
use Rattle.std.proofs.Common.{◌≡◌, ◌∙◌, ◌<◌, ◌≤◌, ◌+◌, ℕ, Bool, true, false, cond, refl, sym, arith, List, [], ◌∷◌, length, inl, inr, eqb, ltb, lt-ltb, le-ltb}
use Rattle.std.proofs.lemmas.Bool.{cases_lt, cases_eq, cases_order, cond-true, cond-false, eq-eqb, ne_eqb, ltb-false, and_from, and_left, and_right, or_left, or_right, or_from}
use Rattle.std.proofs.lemmas.List.Sums.{sum_by-cons}
use Rattle.std.proofs.lemmas.List.Sorted.{sum_by_popped}
use Rattle.std.specs.Ordering.{is_lt, nat_cmp}
use Rattle.std.specs.declared.cmp.Ordering.TheVariants.{Less, Equal, Greater}
use Rattle.std.specs.BinaryHeap.{heap_items, IsUpperBound, PopsGreatest}
use Rattle.std.specs.List.Sorted.{IsPermutation}
use Rattle.std.specs.declared.cmp.Reverse.{Reverse}
use Rattle.closing.specs.inner.Free.{backwards, one_if, kept_count, is_in_use, KeepsFree, TakesLeast}
use Rattle.closing.specs.declared.list.List.{List as Listed}

not_less : (less same : Bool) → is_lt (cond less Less (cond same Equal Greater)) ≡ false → less ≡ false
not_less true same h = h
not_less false true h = refl
not_less false false h = refl

at_least : (m n : ℕ) → is_lt (nat_cmp m n) ≡ false → n ≤ m
at_least m n h = ltb-false m n (not_less (ltb m n) (eqb m n) h)

pub one_here : (x : Reverse ℕ) (number : ℕ) → x.0 ≡ number → one_if number x ≡ 1
one_here x number e = cond-true (eqb x.0 number) 1 0 (eq-eqb x.0 number e)

pub none_here : (x : Reverse ℕ) (number : ℕ) → (x.0 ≡ number → ⊥) → one_if number x ≡ 0
none_here x number apart = cond-false (eqb x.0 number) 1 0 (ne_eqb x.0 number apart)

-- none that is kept is below the one that comes first
low : (x : Reverse ℕ) (xs : List (Reverse ℕ)) (number : ℕ) → IsUpperBound backwards x xs → 0 < kept_count xs number → x.0 ≤ number
low x [] number h some = absurd (omega arith)
low x (y ∷ ys) number h some =
    let step = sum_by-cons (one_if number) y ys in
    elim (cases_eq y.0 number) [
      | inl same ↦ omega (arith, at_least y.0 x.0 h.0)
      | inr apart ↦ low x ys number h.1 (omega (arith, none_here y number apart))
    ]

pub popped : (old new : Listed) (x : Reverse ℕ) → KeepsFree old → IsPermutation (heap_items old.free) (x ∷ heap_items new.free) → PopsGreatest backwards (heap_items old.free) x (heap_items new.free) → new.given ≡ old.given → TakesLeast old new x.0
popped old new x kept moves pops same =
    let before = heap_items old.free in
    let after = heap_items new.free in
    let bound = pops kept.heap in
    let count : (n : ℕ) → kept_count after n + one_if n x ≡ kept_count before n = λ n. sum_by_popped (one_if n) x before after moves in
    record {
      free = and_right (ltb x.0 old.given) (eqb (kept_count before x.0) 0) (ne_eqb (kept_count before x.0) 0 (λ e. omega (arith, count x.0, one_here x x.0 refl)));
      below = λ n lt. and_from (ltb n old.given) (eqb (kept_count before n) 0)
          (lt-ltb n old.given (omega (arith, kept.given x.0 (omega (arith, count x.0, one_here x x.0 refl)))))
          (eq-eqb (kept_count before n) 0 (elim (cases_lt 0 (kept_count before n)) [
            | inl some ↦ absurd (omega (arith, low x before n bound.1 some))
            | inr none ↦ omega arith
          ]));
      taken = λ n. elim (cases_eq x.0 n) [
        | inl e ↦
            and_from (ltb n new.given) (eqb (kept_count after n) 0)
            (lt-ltb n new.given (omega (arith, kept.given n (omega (arith, count n, one_here x n e)))))
            (eq-eqb (kept_count after n) 0 (omega (arith, kept.once n, count n, one_here x n e)))
            ∙ sym (or_left (eqb n x.0) (is_in_use old n) (eq-eqb n x.0 (sym e)))
        | inr apart ↦
            let counted : kept_count after n ≡ kept_count before n = omega (arith, count n, none_here x n apart) in
            let unequal : eqb n x.0 ≡ false = ne_eqb n x.0 (λ e. apart (sym e)) in
            rw (same, counted, unequal) refl
      ];
      kept = record {
        heap = bound.0;
        given = λ n some. omega (arith, kept.given n (omega (arith, count n)));
        once = λ n. omega (arith, kept.once n, count n);
      };
      given = omega arith;
    }

none_counted : (xs : List (Reverse ℕ)) (number : ℕ) → length xs ≡ 0 → kept_count xs number ≡ 0
none_counted [] number e = refl
none_counted (x ∷ xs) number e = absurd (omega arith)

pub given_next : (old new : Listed) → KeepsFree old → length (heap_items old.free) ≡ 0 → heap_items new.free ≡ heap_items old.free → new.given ≡ old.given + 1 → TakesLeast old new old.given
given_next old new kept empty stays next =
    let none : (n : ℕ) → kept_count (heap_items old.free) n ≡ 0 = λ n. none_counted (heap_items old.free) n empty in
    let still : (n : ℕ) → kept_count (heap_items new.free) n ≡ 0 = λ n. rw stays (none n) in
    record {
      free = and_left (ltb old.given old.given) (eqb (kept_count (heap_items old.free) old.given) 0) (le-ltb old.given old.given (omega arith));
      below = λ n lt. and_from (ltb n old.given) (eqb (kept_count (heap_items old.free) n) 0) (lt-ltb n old.given lt) (eq-eqb (kept_count (heap_items old.free) n) 0 (none n));
      taken = λ n. elim (cases_order n old.given) [
        | inl e ↦
            and_from (ltb n new.given) (eqb (kept_count (heap_items new.free) n) 0) (lt-ltb n new.given (omega arith)) (eq-eqb (kept_count (heap_items new.free) n) 0 (still n))
            ∙ sym (or_left (eqb n old.given) (is_in_use old n) (eq-eqb n old.given e))
        | inr (inl lt) ↦
            and_from (ltb n new.given) (eqb (kept_count (heap_items new.free) n) 0) (lt-ltb n new.given (omega arith)) (eq-eqb (kept_count (heap_items new.free) n) 0 (still n))
            ∙ sym (or_right (eqb n old.given) (is_in_use old n) (and_from (ltb n old.given) (eqb (kept_count (heap_items old.free) n) 0) (lt-ltb n old.given lt) (eq-eqb (kept_count (heap_items old.free) n) 0 (none n))))
        | inr (inr gt) ↦
            and_left (ltb n new.given) (eqb (kept_count (heap_items new.free) n) 0) (le-ltb n new.given (omega arith))
            ∙ sym (or_from (eqb n old.given) (is_in_use old n) (ne_eqb n old.given (λ e. omega arith)) (and_left (ltb n old.given) (eqb (kept_count (heap_items old.free) n) 0) (le-ltb n old.given (omega arith))))
      ];
      kept = record {
        heap = rw stays kept.heap;
        given = λ n some. absurd (omega (arith, still n));
        once = λ n. omega (arith, still n);
      };
      given = omega arith;
    }
