use Rattle.std.specs.Vec.{vec_capacity}
use Rattle.arenalist.proofs.ArenaLemmas.{Filling}
use Rattle.arenalist.proofs.lists.Lists.reserve.Given as goal

abbrev pub invariant-loop-cell : goal.invariant-loop-cell
invariant-loop-cell g l = Filling l.initial.self-inside.links l.self-inside.links l.initial.self-inside.values.items l.self-inside.values.items l.initial.self-inside.free.items l.self-inside.free.items (vec_capacity l.self-inside.values) (vec_capacity l.self-inside.free) l.first l.cell l.cell-end l.initial.self-inside.work l.self-inside.work
