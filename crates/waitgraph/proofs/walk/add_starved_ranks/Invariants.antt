use Rattle.std.proofs.Common.{◌≡◌, ◌++◌, map}
use Rattle.std.specs.List.{filter_map, range_with_len}
use Rattle.waitgraph.specs.Causes.{view_of}
use Rattle.waitgraph.specs.inner.Causes.{starved_at}
use Rattle.waitgraph.proofs.walk.add_starved_ranks.Given as goal

-- the ranks so far that wait for a message which nobody may send
abbrev pub invariant-loop-rank : goal.invariant-loop-rank
invariant-loop-rank l = map view_of l.causes.items ≡ map view_of l.fn.causes.items ++ filter_map (starved_at l.walks) (range_with_len 0 l.rank)
