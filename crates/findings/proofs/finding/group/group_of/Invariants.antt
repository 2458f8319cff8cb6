use Rattle.std.proofs.Common.{◌≡◌, take}
use Rattle.mpigroup.specs.Groups.{group_of}
use Rattle.findings.proofs.finding.group.group_of.Given as goal

abbrev pub invariant-loop-g : goal.invariant-loop-g
invariant-loop-g l = l.group.items ≡ take l.g (group_of l.pairs.groups l.comm)
