-- What is in use as the number of a request is free again.
use Rattle.std.proofs.Common.{◌≡◌, ◌∙◌, ◌<◌, ◌+◌, ◌&&◌, ◌||◌, ℕ, Bool, true, false, not, cond, refl, sym, ap, arith, [], ◌∷◌, inl, inr, eqb, ltb}
use Rattle.std.proofs.lemmas.Bool.{cases_eq, cond-false, eq-eqb, eqb-true, ltb-true, ne_eqb, and_parts}
use Rattle.std.proofs.lemmas.List.Sorted.{sum_by_pushed}
use Rattle.std.specs.BinaryHeap.{heap_items, KeepsHeap}
use Rattle.std.specs.List.Sorted.{IsPermutation}
use Rattle.std.specs.declared.cmp.Reverse.{Reverse}
use Rattle.closing.specs.Steps.{Id, has_number, without}
use Rattle.closing.specs.inner.Free.{backwards, one_if, kept_count, is_in_use, AreNumbered, Requests}
use Rattle.closing.specs.declared.list.List.{List as Listed}
use Rattle.closing.proofs.FreeLemmas.{one_here, none_here}

-- with the first of some requests: whether it is the one that goes, whether the number asked for is its own
put_first : (goes asked own rest : Bool) → (goes ≡ true → asked ≡ own) → (goes ≡ false → own ≡ true → asked ≡ false) → cond (not goes) (own || (not asked && rest)) (not asked && rest) ≡ (not asked && (own || rest))
put_first true true own rest one two = refl
put_first true false true rest one two = absurd (false_is_true (one refl))
  where
    false_is_true : false ≡ true → ⊥
    false_is_true e = cc
put_first true false false rest one two = refl
put_first false true true rest one two = absurd (true_is_false (two refl refl))
  where
    true_is_false : true ≡ false → ⊥
    true_is_false e = cc
put_first false true false rest one two = refl
put_first false false true rest one two = refl
put_first false false false rest one two = refl

has_cond : (keeps : Bool) (one : Id × ℕ) (others : Requests) (number : ℕ) → has_number (cond keeps (one ∷ others) others) number ≡ cond keeps (eqb one.1 number || has_number others number) (has_number others number)
has_cond true one others number = refl
has_cond false one others number = refl

eqb_of_same : (m n k : ℕ) → m ≡ n → eqb m k ≡ eqb n k
eqb_of_same m n k e = ap (λ it. eqb it k) e

pub has_without : (active : Requests) (gone number : ℕ) → has_number (without gone active) number ≡ (not (eqb gone number) && has_number active number)
has_without [] gone number = nothing (eqb gone number)
  where
    nothing : (b : Bool) → false ≡ (not b && false)
    nothing true = refl
    nothing false = refl
has_without (one ∷ others) gone number =
    has_cond (not (eqb one.1 gone)) one (without gone others) number
    ∙ ap (λ rest. cond (not (eqb one.1 gone)) (eqb one.1 number || rest) rest) (has_without others gone number)
    ∙ put_first (eqb one.1 gone) (eqb gone number) (eqb one.1 number) (has_number others number)
    (λ e. eqb_of_same gone one.1 number (sym (eqb-true one.1 gone e)))
    (λ apart own. ne_eqb gone number (λ e. differs (eqb one.1 gone) apart (eq-eqb one.1 gone (eqb-true one.1 number own ∙ sym e))))
  where
    differs : (b : Bool) → b ≡ false → b ≡ true → ⊥
    differs b p q = cc

in_use_pushed : (asked : Bool) (below : Bool) (before after : ℕ) → (asked ≡ true → after ≡ before + 1) → (asked ≡ false → after ≡ before) → (not asked && (below && eqb before 0)) ≡ (below && eqb after 0)
in_use_pushed true below before after more same = sym (at_false below (ne_eqb after 0 (λ e. omega (arith, more refl))))
  where
    at_false : (b : Bool) → eqb after 0 ≡ false → (b && eqb after 0) ≡ false
    at_false true e = e
    at_false false e = refl
in_use_pushed false below before after more same = ap (λ n. below && eqb n 0) (sym (same refl))

pub freed : (active : Requests) (old new : Listed) (x : Reverse ℕ) → AreNumbered active old → has_number active x.0 ≡ true → IsPermutation (x ∷ heap_items old.free) (heap_items new.free) → KeepsHeap backwards (heap_items old.free) (heap_items new.free) → new.given ≡ old.given → AreNumbered (without x.0 active) new
freed active old new x are has moves keeps same =
    let before = heap_items old.free in
    let after = heap_items new.free in
    let used : is_in_use old x.0 ≡ true = sym (are.same x.0) ∙ has in
    let parts = and_parts (ltb x.0 old.given) (eqb (kept_count before x.0) 0) used in
    let below : x.0 < old.given = ltb-true x.0 old.given parts.0 in
    let none : kept_count before x.0 ≡ 0 = eqb-true (kept_count before x.0) 0 parts.1 in
    let count : (n : ℕ) → kept_count after n ≡ one_if n x + kept_count before n = λ n. sum_by_pushed (one_if n) x before after moves in
    record {
      kept = record {
        heap = keeps are.kept.heap;
        given = λ n some. elim (cases_eq x.0 n) [
          | inl e ↦ omega arith
          | inr apart ↦ omega (arith, are.kept.given n (omega (arith, count n, none_here x n apart)))
        ];
        once = λ n. elim (cases_eq x.0 n) [
          | inl e ↦ omega (arith, count n, one_here x n e, ap (kept_count before) e)
          | inr apart ↦ omega (arith, are.kept.once n, count n, none_here x n apart)
        ];
      };
      same = λ n.
          has_without active x.0 n ∙ ap (λ b. not (eqb x.0 n) && b) (are.same n)
          ∙ in_use_pushed (eqb x.0 n) (ltb n old.given) (kept_count before n) (kept_count after n)
          (λ e. omega (arith, count n, one_here x n (eqb-true x.0 n e)))
          (λ e. omega (arith, count n, cond-false {A = ℕ} (eqb x.0 n) 1 0 e))
          ∙ ap (λ given. ltb n given && eqb (kept_count after n) 0) (sym same);
    }
