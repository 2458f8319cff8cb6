-- What is read as a number is its decimal text, and the decimal text of a number is read as it.
use Rattle.std.proofs.Common.{◌≡◌, ℕ, ◌<◌, ◌≤◌, ◌^◌, Bool, true, false, List, length, get_or, sym, refl, arith, rules, Some, None, cond, nat_le, nat_lt, ◌&&◌, not, zero, suc}
use Rattle.std.specs.Fmt.{decimal}
use Rattle.std.specs.Str.{all_ascii_digits}
use Rattle.std.proofs.lemmas.Fmt.{decimal-digits_value, digits_value-decimal, digits_decimal, first_decimal, decimal_nonempty, decimal_digit}
use Rattle.std.proofs.lemmas.Str.Parse.{IsNumeralModel, numerals_by_fold, tells_all_ascii_digits}
use Rattle.std.proofs.lemmas.Bool.Decides.{nat_tests}
use Rattle.std.proofs.lemmas.Bool.{and_parts}
use Rattle.mpicall.specs.Number.{value_after, value_of, has_leading_zero, is_canonical, number_up_to}

own : IsNumeralModel (λ ds. all_ascii_digits ds ≡ true) value_of
own = numerals_by_fold _ tells_all_ascii_digits value_after (search rules)

three_true : (a b c : Bool) → (a && b && c) ≡ true → (a ≡ true) × (b ≡ true) × (c ≡ true)
three_true true true true e = (refl, refl, refl)
three_true true true false e = cc
three_true true false c e = cc
three_true false b c e = cc

one_digit : (field : List ℕ) → not (has_leading_zero field) ≡ true → 0 < length field → get_or field 0 0 ≡ 48 → length field ≡ 1
one_digit field is some zero_first = grind (arith, nat_tests)

-- a canonical number that is small enough is the decimal text of its value
pub canonical-decimal : (field : List ℕ) → is_canonical field ≡ true → value_of field < 2 ^ 64 → decimal (value_of field) ≡ field
unfolding is_canonical
canonical-decimal field is small =
    let parts = three_true (nat_lt 0 (length field)) (all_ascii_digits field) (not (has_leading_zero field)) is in
    let some : 0 < length field = grind (arith, nat_tests, parts.0) in
    decimal-digits_value own field parts.1 some (one_digit field parts.2 some) small

if_some : (b : Bool) (v n : ℕ) → cond b (Some v) None ≡ Some n → (b ≡ true) × (v ≡ n)
if_some true v n e = (refl, cc)
if_some false v n e = cc

-- what is read as a number is its decimal text
pub number-decimal : (limit n : ℕ) (field : List ℕ) → limit < 2 ^ 64 → number_up_to limit field ≡ Some n → (field ≡ decimal n) × (n ≤ limit)
unfolding number_up_to
number-decimal limit n field small is =
    let read = if_some (is_canonical field && nat_le (value_of field) limit) (value_of field) n is in
    let parts = and_parts (is_canonical field) (nat_le (value_of field) limit) read.0 in
    let within : value_of field ≤ limit = grind (arith, nat_tests, parts.1) in
    let e : value_of field ≡ n = read.1 in
    (sym (rw e at (canonical-decimal field parts.0 (omega arith))), omega arith)

no_zero_first : (field : List ℕ) → 48 < get_or field 0 0 → has_leading_zero field ≡ false
no_zero_first field first = grind (arith, nat_tests)

no_leading_zero : (n : ℕ) → n < 2 ^ 64 → has_leading_zero (decimal n) ≡ false
no_leading_zero zero h = rw (decimal_digit 0 (omega arith)) refl
no_leading_zero (suc m) h = no_zero_first (decimal (suc m)) (first_decimal (suc m) (omega arith) h)

-- the decimal text of a number is read as it
pub number-of-decimal : (limit n : ℕ) → limit < 2 ^ 64 → n ≤ limit → number_up_to limit (decimal n) ≡ Some n
unfolding number_up_to is_canonical
number-of-decimal limit n small within =
    let h : n < 2 ^ 64 = omega arith in
    let digits : all_ascii_digits (decimal n) ≡ true = digits_decimal own n h in
    let value : value_of (decimal n) ≡ n = digits_value-decimal own n h in
    let some : nat_lt 0 (length (decimal n)) ≡ true = grind (arith, nat_tests, decimal_nonempty n h) in
    let le : nat_le n limit ≡ true = grind (arith, nat_tests) in
    simp (digits, value, some, le, no_leading_zero n h) refl

-- the digits of a number write it
pub value_decimal : (n : ℕ) → n < 2 ^ 64 → value_of (decimal n) ≡ n
value_decimal n h = digits_value-decimal own n h
