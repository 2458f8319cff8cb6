-- As many ranks are listed as the loop has come.
use Rattle.std.proofs.Common.{◌≡◌, ◌++◌}
use Rattle.std.specs.List.{range_with_len}
use Rattle.closing.proofs.keys.push_ranks.Given as goal

abbrev pub invariant-loop-rank : goal.invariant-loop-rank
invariant-loop-rank l = l.into.items ≡ l.fn.into.items ++ range_with_len 0 l.rank
