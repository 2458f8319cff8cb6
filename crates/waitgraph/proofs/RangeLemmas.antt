-- What is taken of the ranks one by one.
use Rattle.std.proofs.Common.{◌≡◌, ℕ, ◌+◌, ◌≤◌, Option, Some, None, List, [], ◌∷◌, ◌++◌, refl, ap, ◌∙◌, arith, map, ◌<◌, append_assoc}
use Rattle.std.specs.List.{filter_map, cons_option, range_with_len, slice_get}
use Rattle.std.specs.Option.{option_to_list}
use Rattle.std.proofs.lemmas.List.Elements.{filter_map-append}
use Rattle.std.proofs.lemmas.Option.{slice_get-get_or, slice_get_past}
use Rattle.std.proofs.lemmas.List.FromFn.{length-map-range_with_len, get_or-map-range_with_len}
use Rattle.mpigroup.proofs.ListLemmas.{from_zero}

one_option : {X : Type 0} (o : Option X) → cons_option o [] ≡ option_to_list o
one_option None = refl
one_option (Some x) = refl

pub given_more : {X : Type 0} (h : ℕ → Option X) (n : ℕ) → filter_map h (range_with_len 0 (n + 1)) ≡ filter_map h (range_with_len 0 n) ++ option_to_list (h n)
given_more {X} h n =
    ap (λ (ns : List ℕ). filter_map h ns) (from_zero n)
    ∙ filter_map-append h (range_with_len 0 n) (n ∷ [])
    ∙ ap (λ (xs : List X). filter_map h (range_with_len 0 n) ++ xs) (one_option (h n))

pub one_given : {X : Type 0} (h : ℕ → Option X) (n : ℕ) (before so_far later : List X) → so_far ≡ before ++ filter_map h (range_with_len 0 n) → later ≡ so_far ++ option_to_list (h n) → later ≡ before ++ filter_map h (range_with_len 0 (n + 1))
one_given h n before so_far later are given = rw (given, are, given_more h n) (append_assoc before (filter_map h (range_with_len 0 n)) (option_to_list (h n)))

-- a table over the ranks, asked for one of them
pub in_table : {X : Type 0} (f : ℕ → X) (n rank : ℕ) (d : X) → rank < n → slice_get (map f (range_with_len 0 n)) rank ≡ Some (f rank)
in_table f n rank d within =
    slice_get-get_or (map f (range_with_len 0 n)) rank d (omega (arith, length-map-range_with_len f 0 n, within))
    ∙ ap (λ x. Some x) (get_or-map-range_with_len f 0 n rank rank d within (omega arith))

pub past_table : {X : Type 0} (f : ℕ → X) (n rank : ℕ) → n ≤ rank → slice_get (map f (range_with_len 0 n)) rank ≡ None
past_table f n rank past = slice_get_past (map f (range_with_len 0 n)) rank (omega (arith, length-map-range_with_len f 0 n, past))
