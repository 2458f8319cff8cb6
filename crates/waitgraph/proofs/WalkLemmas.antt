-- The walk back to where it began, step by step.
use Rattle.std.proofs.Common.{◌≡◌, ℕ, suc, ◌+◌, ◌-◌, ◌<◌, ◌≢◌, true, false, ◌==◌, Option, Some, None, List, [], ◌∷◌, ◌++◌, refl, sym, ap, append_assoc, arith}
use Rattle.std.specs.Prelude.{option_map}
use Rattle.std.proofs.lemmas.Bool.Decides.{nat_tests}
use Rattle.waitgraph.specs.inner.Causes.{Walks, next_in, way_round}

joined : (ranks : List ℕ) (rank : ℕ) (rest : Option (List ℕ)) → option_map (λ more. ranks ++ more) (option_map (λ more. rank ∷ more) rest) ≡ option_map (λ more. (ranks ++ rank ∷ []) ++ more) rest
joined ranks rank None = refl
joined ranks rank (Some more) = ap (λ (all : List ℕ). Some all) (sym (append_assoc ranks (rank ∷ []) more))

-- where the rank waits for none, there is no way home
pub no_way : (walks : Walks) (n step home rank : ℕ) (ranks : List ℕ) → step < n → next_in walks rank ≡ None → option_map (λ more. ranks ++ more) (way_round walks (n - step) home rank) ≡ None
no_way walks n step home rank ranks within none =
    let left : n - step ≡ suc (n - (step + 1)) = omega arith in
    rw (left, none) refl

-- where it waits for home, the way ends there
pub way_ends : (walks : Walks) (n step home rank next : ℕ) (ranks : List ℕ) → step < n → next_in walks rank ≡ Some next → next ≡ home → option_map (λ more. ranks ++ more) (way_round walks (n - step) home rank) ≡ Some (ranks ++ rank ∷ [])
way_ends walks n step home rank next ranks within is same =
    let left : n - step ≡ suc (n - (step + 1)) = omega arith in
    let test : (next == home) ≡ true = grind (arith, nat_tests) in
    rw (left, is, test) refl

-- else the way goes on from the next
pub way_on : (walks : Walks) (n step home rank next : ℕ) (ranks : List ℕ) → step < n → next_in walks rank ≡ Some next → next ≢ home → option_map (λ more. ranks ++ more) (way_round walks (n - step) home rank) ≡ option_map (λ more. (ranks ++ rank ∷ []) ++ more) (way_round walks (n - (step + 1)) home next)
way_on walks n step home rank next ranks within is other =
    let left : n - step ≡ suc (n - (step + 1)) = omega arith in
    let test : (next == home) ≡ false = grind (arith, nat_tests) in
    rw (left, is, test) (joined ranks rank (way_round walks (n - (step + 1)) home next))
