-- What is added in turn.
use Rattle.std.proofs.Common.{◌≡◌, ℕ, suc, ◌+◌, ◌<◌, Some, List, [], ◌∷◌, ◌++◌, length, map, flat_map, take, sym, ap, ◌∙◌, append_assoc, append-nil, arith}
use Rattle.std.specs.List.{slice_get, filter}
use Rattle.std.proofs.lemmas.List.{map-append}
use Rattle.std.proofs.lemmas.List.Elements.{filter-append}
use Rattle.std.proofs.lemmas.Grind.{flat_map-append}
use Rattle.std.proofs.lemmas.Option.{get_or_from_slice_get, slice_get_within}
use Rattle.std.proofs.Math.Seq.{take-suc}
use Rattle.moves.specs.declared.need.Need.{Need}
use Rattle.moves.specs.Runs.{State}
use Rattle.waitgraph.specs.inner.Stuck.{is_unmet}

-- the unmet ones of two lists, added one list after the other
add_both : (stands : State) (needs xs ys : List Need) → (needs ++ filter (is_unmet stands) xs) ++ filter (is_unmet stands) ys ≡ needs ++ filter (is_unmet stands) (xs ++ ys)
add_both stands needs xs ys =
    append_assoc needs (filter (is_unmet stands) xs) (filter (is_unmet stands) ys)
    ∙ ap (λ (zs : List Need). needs ++ zs) (sym (filter-append (is_unmet stands) xs ys))

one_more : {A : Type 0} (f : A → Need) (xs : List A) (i : ℕ) (x : A) → slice_get xs i ≡ Some x → map f (take (i + 1) xs) ≡ map f (take i xs) ++ f x ∷ []
one_more f xs i x h =
    let within : i < length xs = slice_get_within xs i x h in
    let next : i + 1 ≡ suc i = omega arith in
    rw (next, take-suc xs i x within, get_or_from_slice_get xs i x x h) (map-append f (take i xs) (x ∷ []))

one_list_more : {A : Type 0} (f : A → List Need) (xs : List A) (i : ℕ) (x : A) → slice_get xs i ≡ Some x → flat_map f (take (i + 1) xs) ≡ flat_map f (take i xs) ++ f x
one_list_more f xs i x h =
    let within : i < length xs = slice_get_within xs i x h in
    let next : i + 1 ≡ suc i = omega arith in
    rw (next, take-suc xs i x within, get_or_from_slice_get xs i x x h) (flat_map-append f (take i xs) (x ∷ []) ∙ ap (λ (zs : List Need). flat_map f (take i xs) ++ zs) (append-nil (f x)))

-- one element's need is added
pub add_one : {A : Type 0} (stands : State) (needs : List Need) (f : A → Need) (xs : List A) (i : ℕ) (x : A) → slice_get xs i ≡ Some x → (needs ++ filter (is_unmet stands) (map f (take i xs))) ++ filter (is_unmet stands) (f x ∷ []) ≡ needs ++ filter (is_unmet stands) (map f (take (i + 1) xs))
add_one stands needs f xs i x h =
    add_both stands needs (map f (take i xs)) (f x ∷ []) ∙ ap (λ (zs : List Need). needs ++ filter (is_unmet stands) zs) (sym (one_more f xs i x h))

-- one element's needs are added
pub add_one_list : {A : Type 0} (stands : State) (needs : List Need) (f : A → List Need) (xs : List A) (i : ℕ) (x : A) → slice_get xs i ≡ Some x → (needs ++ filter (is_unmet stands) (flat_map f (take i xs))) ++ filter (is_unmet stands) (f x) ≡ needs ++ filter (is_unmet stands) (flat_map f (take (i + 1) xs))
add_one_list stands needs f xs i x h =
    add_both stands needs (flat_map f (take i xs)) (f x) ∙ ap (λ (zs : List Need). needs ++ filter (is_unmet stands) zs) (sym (one_list_more f xs i x h))
