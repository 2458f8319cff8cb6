-- What may be there, and lists of it.
use Rattle.std.proofs.Common.{◌≡◌, ℕ, true, false, eqb, Option, Some, None, List, [], ◌∷◌, map, refl, ap}
use Rattle.std.specs.Option.{option_map, option_map_or, option_and_then}
use Rattle.std.proofs.lemmas.Option.{none-some, same_Some}
use Rattle.std.proofs.lemmas.Bool.{false≢true, eqb-true}

pub and_then_parts : {A B : Type 0} (f : A → Option B) (o : Option A) (y : B) → option_and_then f o ≡ Some y → (x : A) × (o ≡ Some x) × (f x ≡ Some y)
and_then_parts f None y h = absurd (none-some y h)
and_then_parts f (Some x) y h = (x, refl, h)

pub map_parts : {A B : Type 0} (f : A → B) (o : Option A) (y : B) → option_map f o ≡ Some y → (x : A) × (o ≡ Some x) × (f x ≡ y)
map_parts f None y h = absurd (none-some y h)
map_parts f (Some x) y h = (x, refl, same_Some (f x) y h)

pub is_it : (req : ℕ) (o : Option ℕ) → option_map_or (λ started. eqb started req) o false ≡ true → o ≡ Some req
is_it req None h = absurd (false≢true h)
is_it req (Some started) h = ap (λ (m : ℕ). Some m) (eqb-true started req h)

-- two functions that agree make the same list
pub same_map : (f g : ℕ → Option ℕ) (ys : List ℕ) → ((y : ℕ) → f y ≡ g y) → map f ys ≡ map g ys
same_map f g [] agree = refl
same_map f g (y ∷ ys) agree = rw (agree y) (ap (λ (os : List (Option ℕ)). g y ∷ os) (same_map f g ys agree))
