-- From which ranks a message may come.
use Rattle.std.proofs.Common.{◌≡◌, ℕ, suc, ◌+◌, Bool, true, false, Some, None, is_some, position, cond, nat_lt, List, [], ◌∷◌, length, refl, ◌∙◌, ⊎_elim, arith}
use Rattle.std.specs.List.{list_any, position_or_len}
use Rattle.std.proofs.lemmas.Bool.{cases_Bool, lt-ltb}
use Rattle.std.proofs.lemmas.Bool.Decides.{nat_tests}

some_if : (b : Bool) (place : ℕ) → is_some (cond b (Some place) None) ≡ b
some_if true place = refl
some_if false place = refl

next_less : (a b : ℕ) → nat_lt (1 + a) (suc b) ≡ nat_lt a b
next_less a b = grind (arith, nat_tests)

any_if : {A : Type 0} (p : A → Bool) (xs : List A) → nat_lt (position_or_len p xs) (length xs) ≡ list_any p xs
any_if p [] = refl
any_if p (x ∷ xs) =
    ⊎_elim
    (λ (is : p x ≡ true). rw is (lt-ltb 0 (suc (length xs)) (omega arith)))
    (λ (no : p x ≡ false). rw no (next_less (position_or_len p xs) (length xs) ∙ any_if p xs))
    (cases_Bool (p x))

-- a place is found where some element passes
pub found_if_any : {A : Type 0} (p : A → Bool) (xs : List A) → is_some (position p xs) ≡ list_any p xs
found_if_any p xs = some_if (nat_lt (position_or_len p xs) (length xs)) (position_or_len p xs) ∙ any_if p xs
