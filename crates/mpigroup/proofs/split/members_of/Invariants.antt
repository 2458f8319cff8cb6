use Rattle.std.proofs.Common.{◌≡◌, ◌++◌, drop}
use Rattle.mpigroup.specs.Splits.{members_from}
use Rattle.mpigroup.proofs.split.members_of.Given as goal

abbrev pub invariant-loop-rank : goal.invariant-loop-rank
invariant-loop-rank l = l.members.items ++ members_from l.rank (drop l.rank l.choices) ≡ members_from 0 l.choices
