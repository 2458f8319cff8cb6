-- The arguments of the requests from one place on.
use Rattle.std.proofs.Common.{◌≡◌, ℕ, ◌+◌, ◌<◌, List, ◌∷◌, length, get_or, drop, drop-cons, add-one, map, refl}
use Rattle.mpicall.specs.Argument.{request_argument}

pub requests_from : (reqs : List ℕ) (i : ℕ) → i < length reqs → map request_argument (drop i reqs) ≡ request_argument (get_or reqs i 0) ∷ map request_argument (drop (i + 1) reqs)
requests_from reqs i h = rw (add-one, drop-cons reqs i 0) refl

pub ruleset request_steps = requests_from
