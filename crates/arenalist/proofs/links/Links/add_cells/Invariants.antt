use Rattle.arenalist.proofs.LinkLemmas.{Growing}
use Rattle.std.specs.Vec.{vec_capacity}
use Rattle.arenalist.proofs.links.Links.add_cells.Given as goal

abbrev pub invariant-loop : goal.invariant-loop
invariant-loop l = Growing l.initial.self-inside.heads.items l.initial.self-inside.nexts.items l.self-inside.heads.items l.self-inside.nexts.items l.self-inside.prevs.items l.self-inside.owners.items (vec_capacity l.self-inside.nexts) (vec_capacity l.self-inside.prevs) (vec_capacity l.self-inside.owners) l.counter l.more
