use Rattle.std.proofs.Common.{◌≡◌, ◌++◌, ◌-◌, length}
use Rattle.std.specs.Prelude.{option_map}
use Rattle.waitgraph.specs.inner.Causes.{way_round}
use Rattle.waitgraph.proofs.walk.way_round.Given as goal

-- the whole way is the ranks so far and the way from here
abbrev pub invariant-loop-step : goal.invariant-loop-step
invariant-loop-step l =
    way_round l.walks (length l.walks) l.home l.home
    ≡ option_map (λ more. l.ranks.items ++ more) (way_round l.walks (length l.walks - l._step) l.home l.rank)
