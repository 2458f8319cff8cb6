use Rattle.std.proofs.Common.{◌≡◌, map}
use Rattle.std.specs.List.{range_with_len}
use Rattle.waitgraph.specs.Stuck.{unmet_at}
use Rattle.waitgraph.proofs.graph.waits_at.Given as goal

-- the unmet needs of the ranks so far
abbrev pub invariant-loop-rank : goal.invariant-loop-rank
invariant-loop-rank l = l.waits ≡ map (unmet_at l.world.reading l.world.pairs.groups l.world.pairs.recording l.stands) (range_with_len 0 l.rank)
