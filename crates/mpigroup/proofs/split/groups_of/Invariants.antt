use Rattle.std.proofs.Common.{map, length}
use Rattle.mpigroup.proofs.RunLemmas.{AreCut, groups_by_colour}
use Rattle.mpigroup.proofs.split.groups_of.Given as goal

abbrev pub invariant-loop-first : goal.invariant-loop-first
invariant-loop-first l = AreCut (groups_by_colour l.members) (map (λ group. group.items) l.groups.items) l.rest

abbrev pub decreases-loop-first : goal.decreases-loop-first
decreases-loop-first l = length l.rest
