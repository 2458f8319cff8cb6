use Rattle.arenaqueue.specs.declared.cells.Cell.{Cell}
use Rattle.arenaqueue.proofs.CellLemmas.{read_at}
use Rattle.arenaqueue.proofs.cells.next.Goals as goal

pub returns : goal.returns
returns g c = read_at (λ (cell : Cell g.row.T.Denot). cell.next) c.args.cells.now.items c.args.cell c.index.result.now 0 c.requires c.index.ensures
