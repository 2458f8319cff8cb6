use Rattle.std.proofs.Common.{◌≡◌, ◌++◌, map, take}
use Rattle.waitgraph.specs.declared.awaited.Awaited.TheVariants as awaited
use Rattle.waitgraph.proofs.senders.add_ranks.Given as goal

-- the ranks so far
abbrev pub invariant-loop-rank : goal.invariant-loop-rank
invariant-loop-rank l = l.awaits.items ≡ l.fn.awaits.items ++ map awaited.Rank (take l.rank-index l.ranks)
