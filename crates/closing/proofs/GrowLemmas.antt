-- Lists that grow by what each element of another gives, in turn.
use Rattle.std.proofs.Common.{◌≡◌, ◌∙◌, sym, ap, ℕ, ◌+◌, ◌<◌, List, [], ◌∷◌, ◌++◌, length, get_or, drop, append_assoc, add-one}
use Rattle.std.proofs.Math.Seq.{drop-cons}

-- what one more gives and what the others give are still all
pub grown : {A B : Type 0} (f : List A → List B) → ((x : A) (xs : List A) → f (x ∷ xs) ≡ f (x ∷ []) ++ f xs) → (xs : List A) (n : ℕ) (x : A) (old new all : List B)
    → x ≡ get_or xs n x → n < length xs → new ≡ old ++ f (x ∷ []) → old ++ f (drop n xs) ≡ all → new ++ f (drop (n + 1) xs) ≡ all
grown f step xs n x old new all is lt pushed so_far =
    ap (λ it. it ++ f (drop (n + 1) xs)) pushed
    ∙ append_assoc old (f (x ∷ [])) (f (drop (n + 1) xs))
    ∙ ap (λ it. old ++ it) (sym (step x (drop (n + 1) xs)))
    ∙ ap (λ it. old ++ f (it ∷ drop (n + 1) xs)) is
    ∙ ap (λ it. old ++ f it) (sym (drop-cons xs n x lt ∙ ap (λ m. get_or xs n x ∷ drop m xs) (sym (add-one n))))
    ∙ so_far
