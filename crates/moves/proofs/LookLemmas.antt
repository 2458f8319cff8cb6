-- Whether each need is met, asked one by one.
use Rattle.std.proofs.Common.{◌≡◌, ℕ, ◌+◌, ◌-◌, ◌<◌, ◌≤◌, ◌&&◌, Bool, true, false, Some, List, [], ◌∷◌, flat_map, take, get_or, refl, ap, ◌∙◌, arith}
use Rattle.std.specs.List.{slice_get, list_all, range_with_len}
use Rattle.std.proofs.lemmas.List.FromFn.{length-range_with_len, get_or-range_with_len}
use Rattle.std.proofs.lemmas.List.Folds.{list_all-append, list_all_more, list_all_at}
use Rattle.std.proofs.lemmas.Option.{slice_get_within, get_or_from_slice_get}

-- one more element that passes
pub passes_more : (p : ℕ → Bool) (xs : List ℕ) (i x : ℕ) → slice_get xs i ≡ Some x → list_all p (take i xs) ≡ true → p x ≡ true → list_all p (take (i + 1) xs) ≡ true
passes_more p xs i x there so_far passes =
    let here : p (get_or xs i x) ≡ true = ap p (get_or_from_slice_get xs i x x there) ∙ passes in
    list_all_more p xs i x (slice_get_within xs i x there) ∙ rw (so_far, here) refl

-- one that fails
pub fails_at : (p : ℕ → Bool) (xs : List ℕ) (i x : ℕ) → slice_get xs i ≡ Some x → p x ≡ false → list_all p xs ≡ false
fails_at p xs i x there fails =
    list_all_at p xs i x (slice_get_within xs i x there) (ap p (get_or_from_slice_get xs i x x there) ∙ fails)

-- one number of a range that fails
pub fails_in_range : (p : ℕ → Bool) (a n r : ℕ) → a ≤ r → r < a + n → p r ≡ false → list_all p (range_with_len a n) ≡ false
fails_in_range p a n r from to fails =
    let there : get_or (range_with_len a n) (r - a) 0 ≡ r = get_or-range_with_len a n (r - a) 0 (omega arith) ∙ omega arith in
    list_all_at p (range_with_len a n) (r - a) 0 (omega (arith, length-range_with_len a n)) (ap p there ∙ fails)

-- the elements of many lists, list by list
pub list_all-flat_map : {A B : Type 0} (p : B → Bool) (f : A → List B) (xs : List A) → list_all p (flat_map f xs) ≡ list_all (λ x. list_all p (f x)) xs
list_all-flat_map p f [] = refl
list_all-flat_map p f (x ∷ xs) = list_all-append p (f x) (flat_map f xs) ∙ ap (λ (b : Bool). list_all p (f x) && b) (list_all-flat_map p f xs)
