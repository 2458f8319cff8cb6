use Rattle.std.proofs.Common.{Some, refl}
use Rattle.std.proofs.lemmas.List.{map-set}
use Rattle.arenaqueue.specs.declared.cells.Cell.{Cell}
use Rattle.arenaqueue.proofs.CellLemmas.{kept_at}
use Rattle.arenaqueue.proofs.cells.set_next.Goals as goal

pub returns-clause-nexts : goal.returns-clause-nexts
returns-clause-nexts g c = map-set (λ (cell : Cell g.row.T.Denot). cell.next) c.args.cells.now.items c.args.cell _

pub returns-clause-values : goal.returns-clause-values
returns-clause-values g c = kept_at (λ (cell : Cell g.row.T.Denot). Some cell.value) c.args.cells.now.items c.args.cell c.index_mut.result.now _ c.requires c.index_mut.ensures.value refl
