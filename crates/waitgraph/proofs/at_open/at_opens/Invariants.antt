use Rattle.std.proofs.Common.{◌≡◌, map}
use Rattle.std.specs.List.{range_with_len}
use Rattle.waitgraph.specs.inner.Scenes.{awaited_by}
use Rattle.waitgraph.proofs.at_open.at_opens.Given as goal

-- of the ranks so far
abbrev pub invariant-loop-rank : goal.invariant-loop-rank
invariant-loop-rank l = map (λ one. one.items) l.awaits.items ≡ map (awaited_by l.scene l.marks) (range_with_len 0 l.rank)
