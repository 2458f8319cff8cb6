use Rattle.std.proofs.Common.{refl}
use Rattle.std.proofs.lemmas.List.{map-set}
use Rattle.arenaqueue.specs.declared.cells.Ends.{Ends}
use Rattle.arenaqueue.proofs.CellLemmas.{kept_at}
use Rattle.arenaqueue.proofs.cells.set_last.Goals as goal

pub returns-clause-firsts : goal.returns-clause-firsts
returns-clause-firsts c = kept_at (λ (e : Ends). e.first) c.args.ends.now.items c.args.list c.index_mut.result.now _ c.requires c.index_mut.ensures.value refl

pub returns-clause-lasts : goal.returns-clause-lasts
returns-clause-lasts c = map-set (λ (e : Ends). e.last) c.args.ends.now.items c.args.list _
