-- The number that a word spells, by what a parse of it as a u32 gives.
use Rattle.std.proofs.Common.{◌≡◌, ◌<◌, ◌^◌, ℕ, ◌≤◌, Bool, true, false, if◌then◌else◌, Some, None, Result, Ok, List, ap, sym, ◌∙◌, refl, arith}
use Rattle.std.proofs.lemmas.Result.{Ok-from_Ok_iff}
use Rattle.std.specs.Str.Parse.{IsNumeral, ParsesUnsigned, digits_value, without_leading_plus}
use Rattle.clap.specs.ValueTests.{accepts}
use Rattle.clap.specs.declared.builder.value_parser.ValueParser.TheVariants.{Unsigned}
use Rattle.clap.proofs.ValueTestLemmas.{accepts-Accepts, Accepts-accepts}
use Rattle.cli.specs.Numbers.{number_within}

by_test : (least most : ℕ) (word : List ℕ) (taken : Bool) → accepts false (Unsigned least most) word ≡ taken → number_within least most word ≡ (if taken then Some (digits_value 10 (without_leading_plus word)) else None)
by_test least most word taken is = ap (λ (b : Bool). if b then Some (digits_value 10 (without_leading_plus word)) else None) is

pub number_in : (least most : ℕ) (word : List ℕ) (number : ℕ) → most < 2 ^ 32 → IsNumeral 10 (without_leading_plus word) → number ≡ digits_value 10 (without_leading_plus word) → least ≤ number → number ≤ most → Some number ≡ number_within least most word
number_in least most word number fits numeral is low high =
    let taken = Accepts-accepts false (Unsigned least most) word (numeral, omega (arith, is), omega (arith, is), omega (arith, is)) in
    ap Some is ∙ sym (by_test least most word true taken)

pub no_number_in : {E : Type 0} (least most : ℕ) (word : List ℕ) (parsed : Result ℕ E) → most < 2 ^ 32 → ParsesUnsigned 32 10 word parsed → ((number : ℕ) → parsed ≡ Ok number → least ≤ number → number ≤ most → ⊥) → None ≡ number_within least most word
no_number_in least most word parsed fits parses other = by_case (accepts false (Unsigned least most) word) refl
  where
    by_case : (taken : Bool) → accepts false (Unsigned least most) word ≡ taken → None ≡ number_within least most word
    by_case true is =
        let takes = accepts-Accepts false (Unsigned least most) word is in
        absurd (other _ (Ok-from_Ok_iff parsed _ _ parses (takes.0, omega (arith, takes.3))) takes.2 takes.3)
    by_case false is = sym (by_test least most word false is)
