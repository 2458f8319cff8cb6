-- Digits at the front of some bytes, one by one, and the field that they are.
use Rattle.std.proofs.Common.{rules, ◌≡◌, ◌∙◌, ℕ, zero, suc, ◌+◌, ◌-◌, ◌*◌, ◌<◌, ◌≤◌, ◌==◌, true, false, Some, None, List, [], ◌∷◌, ◌++◌, length, take, drop, get_or, refl, ap, subst, arith, nat_lt, nat_le, length-take}
use Rattle.std.proofs.lemmas.List.{take_more, take_all, get_or-take}
use Rattle.std.proofs.lemmas.Bool.{and_parts, lt-ltb, le-ltb, le-leb}
use Rattle.std.proofs.lemmas.Bool.Decides.{nat_tests}
use Rattle.std.proofs.lemmas.List.Sums.{position_or_len_is}
use Rattle.std.specs.List.{position, position_or_len}
use Rattle.std.specs.Str.{all_ascii_digits}
use Rattle.std.specs.Char.{is_ascii_digit}
use Rattle.mpicall.specs.Number.{value_after, number_up_to, is_canonical, has_leading_zero}
use Rattle.mpicall.specs.inner.Front.{AreDigits, IsFront}
use Rattle.mpicall.specs.Lines.{split_fields}
use Rattle.mpicall.specs.Argument.{NumberUpTo, Number}
use Rattle.mpicall.specs.Parsing.{next_argument}
use Rattle.mpicall.proofs.FieldLemmas.{split_at_first_space, split_without_space}

-- a digit after others
pub value-snoc : (n : ℕ) (cs : List ℕ) (c : ℕ) → value_after n (cs ++ c ∷ []) ≡ value_after n cs * 10 + (c - 48)
value-snoc n [] c = refl
value-snoc n (d ∷ cs) c = value-snoc (n * 10 + (d - 48)) cs c

pub digits-snoc : (cs : List ℕ) (c : ℕ) → all_ascii_digits cs ≡ true → is_ascii_digit c ≡ true → all_ascii_digits (cs ++ c ∷ []) ≡ true
digits-snoc [] c are is = rw is refl
digits-snoc (d ∷ cs) c are is =
    let parts = and_parts (is_ascii_digit d) (all_ascii_digits cs) are in
    rw parts.0 (digits-snoc cs c parts.1 is)

-- one of them
pub digit-at : (cs : List ℕ) (k : ℕ) → all_ascii_digits cs ≡ true → k < length cs → is_ascii_digit (get_or cs k 0) ≡ true
digit-at [] k are less = absurd (omega (arith, less))
digit-at (d ∷ cs) zero are less = (and_parts (is_ascii_digit d) (all_ascii_digits cs) are).0
digit-at (d ∷ cs) (suc k) are less = digit-at cs k (and_parts (is_ascii_digit d) (all_ascii_digits cs) are).1 (omega (arith, less))

pub no_digit_yet : (limit : ℕ) (bytes : List ℕ) → AreDigits limit bytes 0 0
no_digit_yet limit bytes = record { few = omega arith; digits = refl; value = refl; within = omega arith }

pub digit_read : (limit : ℕ) (bytes : List ℕ) (at value : ℕ) → AreDigits limit bytes at value → at < length bytes → is_ascii_digit (get_or bytes at 0) ≡ true → value * 10 + (get_or bytes at 0 - 48) ≤ limit → AreDigits limit bytes (at + 1) (value * 10 + (get_or bytes at 0 - 48))
digit_read limit bytes at value are less is few =
    let more : take (at + 1) bytes ≡ take at bytes ++ get_or bytes at 0 ∷ [] = take_more bytes at 0 less in
    record {
      few = omega (arith, less);
      digits = rw more (digits-snoc (take at bytes) (get_or bytes at 0) are.digits is);
      value = rw more (value-snoc 0 (take at bytes) (get_or bytes at 0) ∙ ap (λ (n : ℕ). n * 10 + (get_or bytes at 0 - 48)) are.value);
      within = few;
    }

-- no digit is a space
digit_no_space : (c : ℕ) → is_ascii_digit c ≡ true → (c == 32) ≡ false
digit_no_space c is = search (rules, nat_tests)

first_space : (limit : ℕ) (bytes : List ℕ) (count number : ℕ) → IsFront limit bytes count number → position_or_len (λ byte. byte == 32) bytes ≡ count
first_space limit bytes count number front =
    position_or_len_is (λ byte. byte == 32) bytes count 0 front.are.few
    (λ k less. digit_no_space (get_or bytes k 0) (subst (λ (c : ℕ). is_ascii_digit c ≡ true) (get_or-take count bytes k 0 less) (digit-at (take count bytes) k front.are.digits (omega (arith, length-take count bytes, front.are.few, less)))))
    (λ less. rw (front.ends less) refl)

pub front_place : (limit : ℕ) (bytes : List ℕ) (count number : ℕ) → IsFront limit bytes count number → count < length bytes → position (λ byte. byte == 32) bytes ≡ Some count
front_place limit bytes count number front less =
    let first = first_space limit bytes count number front in
    rw first (rw (lt-ltb count (length bytes) less) refl)

pub front_none : (limit : ℕ) (bytes : List ℕ) (count number : ℕ) → IsFront limit bytes count number → length bytes ≤ count → position (λ byte. byte == 32) bytes ≡ None
front_none limit bytes count number front all =
    let first = first_space limit bytes count number front in
    rw first (rw (le-ltb count (length bytes) all) refl)

-- and they are a canonical number
some_digits : (count : ℕ) (bytes : List ℕ) → (count ≡ 0 → ⊥) → count ≤ length bytes → nat_lt 0 (length (take count bytes)) ≡ true
some_digits count bytes some few = lt-ltb 0 (length (take count bytes)) (omega (arith, length-take count bytes, few, some))

pub front_number : (limit : ℕ) (bytes : List ℕ) (count number : ℕ) → IsFront limit bytes count number → (count ≡ 0 → ⊥) → has_leading_zero (take count bytes) ≡ false → number_up_to limit (take count bytes) ≡ Some number
unfolding number_up_to is_canonical
front_number limit bytes count number front some first =
    let within : nat_le number limit ≡ true = le-leb number limit front.are.within in
    rw (some_digits count bytes some front.are.few, front.are.digits, first, front.are.value, within) refl

-- the number of the first field, and the fields after it
number_first : (limit number : ℕ) (field : List ℕ) (fields behind : List (List ℕ)) → fields ≡ field ∷ behind → number_up_to limit field ≡ Some number → next_argument (NumberUpTo limit) fields ≡ Some (Number limit number, behind)
number_first limit number field fields behind is reads = rw is (rw reads refl)

pub front_then : (limit : ℕ) (bytes : List ℕ) (count number : ℕ) → IsFront limit bytes count number → (count ≡ 0 → ⊥) → has_leading_zero (take count bytes) ≡ false → count < length bytes →
    next_argument (NumberUpTo limit) (split_fields bytes) ≡ Some (Number limit number, split_fields (take (length bytes - (count + 1)) (drop (count + 1) bytes)))
front_then limit bytes count number front some first less =
    number_first limit number (take count bytes) (split_fields bytes) _ (split_at_first_space (λ byte. byte == 32) bytes count (front_place limit bytes count number front less)) (front_number limit bytes count number front some first)

pub front_last : (limit : ℕ) (bytes : List ℕ) (count number : ℕ) → IsFront limit bytes count number → (count ≡ 0 → ⊥) → has_leading_zero (take count bytes) ≡ false → length bytes ≤ count →
    next_argument (NumberUpTo limit) (split_fields bytes) ≡ Some (Number limit number, [])
front_last limit bytes count number front some first all =
    let whole : take count bytes ≡ bytes = take_all count bytes all in
    number_first limit number bytes (split_fields bytes) [] (split_without_space (λ byte. byte == 32) bytes (front_none limit bytes count number front all)) (subst (λ (field : List ℕ). number_up_to limit field ≡ Some number) whole (front_number limit bytes count number front some first))
