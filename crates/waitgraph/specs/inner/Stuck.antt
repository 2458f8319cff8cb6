-- What proofs and private contracts cite, in addition to the definitions of `specs/Stuck.antt`.
use Rattle.std.specs.Prelude.{ℕ, Bool, not, List, length}
use Rattle.std.specs.List.{filter, fold, range_with_len}
use Rattle.callstore.specs.Recordings.{Lists}
use Rattle.moves.specs.Runs.{State}
use Rattle.moves.specs.Needs.{is_met}
use Rattle.moves.specs.Stands.{is_at_end}
use Rattle.moves.specs.declared.need.Need.{Need}
use Rattle.waitgraph.specs.Stuck.{with_need}

-- a rank is stuck in a state if its present call is not the one that ends its list
abbrev pub is_stuck_at : Lists → State → ℕ → Bool
is_stuck_at recording stands rank = not (is_at_end recording stands rank)

-- the stuck ranks in a state, the lowest first
abbrev pub stuck_at : Lists → State → List ℕ
stuck_at recording stands = filter (is_stuck_at recording stands) (range_with_len 0 (length recording))

-- needs put among others one by one
abbrev pub with_needs : List Need → List Need → List Need
with_needs needs more = fold with_need needs more

abbrev pub is_unmet : State → Need → Bool
is_unmet stands need = not (is_met stands need)
