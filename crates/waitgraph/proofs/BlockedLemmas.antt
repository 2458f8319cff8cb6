-- What is added in turn of what doesn't come.
use Rattle.std.proofs.Common.{◌≡◌, ℕ, suc, ◌+◌, ◌<◌, ◌≤◌, Bool, true, false, Option, Some, None, List, [], ◌∷◌, ◌++◌, length, map, flat_map, get_or, take, refl, sym, ap, ◌∙◌, append_assoc, append-nil, arith, Bor}
use Rattle.std.specs.Prelude.{if◌then◌else◌}
use Rattle.std.specs.List.{slice_get, filter, range_with_len}
use Rattle.std.proofs.lemmas.List.FromFn.{map-range_with_len_more}
use Rattle.std.specs.Option.{MatchOption, option_copied}
use Rattle.std.proofs.lemmas.List.{map-append, take_more}
use Rattle.std.proofs.lemmas.List.Elements.{filter-append}
use Rattle.std.proofs.lemmas.Grind.{flat_map-append}
use Rattle.std.proofs.lemmas.Option.{get_or_from_slice_get, slice_get_within, slice_get_past}
use Rattle.waitgraph.proofs.SinkTableLemmas.{got}
use Rattle.std.proofs.Math.Seq.{take-suc}

-- the first elements and the next one
take_next : {A : Type 0} (xs : List A) (i : ℕ) (x : A) → slice_get xs i ≡ Some x → take (i + 1) xs ≡ take i xs ++ x ∷ []
take_next {A} xs i x h =
    let within : i < length xs = slice_get_within xs i x h in
    let next : i + 1 ≡ suc i = omega arith in
    ap (λ (n : ℕ). take n xs) next ∙ take-suc xs i x within ∙ ap (λ (y : A). take i xs ++ y ∷ []) (get_or_from_slice_get xs i x x h)

-- what one element stands for is added, if it passes
pub adds_kept : {A B : Type 0} (p : B → Bool) (before : List B) (f : A → B) (xs : List A) (i : ℕ) (x : A) → slice_get xs i ≡ Some x → (before ++ filter p (map f (take i xs))) ++ filter p (f x ∷ []) ≡ before ++ filter p (map f (take (i + 1) xs))
adds_kept {A} {B} p before f xs i x h =
    append_assoc before (filter p (map f (take i xs))) (filter p (f x ∷ []))
    ∙ ap (λ (ys : List B). before ++ ys)
    (sym (filter-append p (map f (take i xs)) (f x ∷ []))
    ∙ ap (filter p) (sym (map-append f (take i xs) (x ∷ [])) ∙ ap (map f) (sym (take_next xs i x h))))

-- what one element gives is added
pub adds_list : {A B : Type 0} (before : List B) (f : A → List B) (xs : List A) (i : ℕ) (x : A) → slice_get xs i ≡ Some x → (before ++ flat_map f (take i xs)) ++ f x ≡ before ++ flat_map f (take (i + 1) xs)
adds_list {A} {B} before f xs i x h =
    append_assoc before (flat_map f (take i xs)) (f x)
    ∙ ap (λ (ys : List B). before ++ ys) (gives xs i x h)
  where
    gives : (xs : List A) (i : ℕ) (x : A) → slice_get xs i ≡ Some x → flat_map f (take i xs) ++ f x ≡ flat_map f (take (i + 1) xs)
    gives xs i x h =
        ap (λ (ys : List B). flat_map f (take i xs) ++ ys) (sym (append-nil (f x)))
        ∙ sym (flat_map-append f (take i xs) (x ∷ []))
        ∙ ap (flat_map f) (sym (take_next xs i x h))

-- one more of a table over the ranks
pub one_row_more : {A : Type 0} (f : ℕ → A) (rank : ℕ) (rows later : List A) (row : A) → rows ≡ map f (range_with_len 0 rank) → row ≡ f rank → later ≡ rows ++ row ∷ [] → later ≡ map f (range_with_len 0 (rank + 1))
one_row_more f rank rows later row so_far here pushed =
    rw (pushed, so_far, here) (sym (map-range_with_len_more f 0 rank rank (omega arith)))

-- one list more of a list of lists
pub one_list_more : {A B : Type 0} (f : A → List B) (xs : List A) (i : ℕ) (d : A) (so_far more later : List B) → i < length xs → so_far ≡ flat_map f (take i xs) → more ≡ f (get_or xs i d) → later ≡ so_far ++ more → later ≡ flat_map f (take (i + 1) xs)
one_list_more {A} {B} f xs i d so_far more later within before is added =
    added
    ∙ ap (λ (ys : List B). ys ++ more) before
    ∙ ap (λ (ys : List B). flat_map f (take i xs) ++ ys) (is ∙ sym (append-nil (f (get_or xs i d))))
    ∙ sym (ap (flat_map f) (take_more xs i d within) ∙ flat_map-append f (take i xs) (get_or xs i d ∷ []))

-- one element more after others
pub one_more_behind : {A B : Type 0} (f : A → B) (xs : List A) (i : ℕ) (d : A) (old so_far later : List B) → i < length xs → so_far ≡ old ++ map f (take i xs) → later ≡ so_far ++ f (get_or xs i d) ∷ [] → later ≡ old ++ map f (take (i + 1) xs)
one_more_behind {A} {B} f xs i d old so_far later within before added =
    added
    ∙ ap (λ (ys : List B). ys ++ f (get_or xs i d) ∷ []) before
    ∙ append_assoc old (map f (take i xs)) (f (get_or xs i d) ∷ [])
    ∙ ap (λ (ys : List B). old ++ ys) (sym (ap (map f) (take_more xs i d within) ∙ map-append f (take i xs) (get_or xs i d ∷ [])))

-- what was read of a list, copied
pub got_copied : {A : Type 0} (o : Option (Bor A)) (items xs : List A) (i : ℕ) → items ≡ xs → MatchOption o (length items ≤ i) (λ x. (i < length items) × ((d : A) → x.now ≡ get_or items i d)) → option_copied o ≡ slice_get xs i
got_copied {A} None items xs i same past = sym (ap (λ (ys : List A). slice_get ys i) (sym same) ∙ slice_get_past items i past)
got_copied (Some x) items xs i same is = sym (got items xs i i x.now same refl is)

-- two lists are added where a test fails, and nothing where it passes
pub two_added : {A : Type 0} (b : Bool) (old mid new some more : List A) → b ≡ false → mid ≡ old ++ some → new ≡ mid ++ more → new ≡ old ++ (if b then [] else some ++ more)
two_added {A} b old mid new some more fails first next =
    next ∙ ap (λ (xs : List A). xs ++ more) first ∙ append_assoc old some more ∙ ap (λ (b : Bool). old ++ (if b then [] else some ++ more)) (sym fails)

pub none_added : {A : Type 0} (b : Bool) (old some : List A) → b ≡ true → old ≡ old ++ (if b then [] else some)
none_added {A} b old some passes = sym (append-nil old) ∙ ap (λ (b : Bool). old ++ (if b then [] else some)) (sym passes)
