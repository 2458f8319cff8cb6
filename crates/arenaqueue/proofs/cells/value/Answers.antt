use Rattle.std.proofs.Common.{Some, None, sym}
use Rattle.arenaqueue.specs.declared.cells.Cell.{Cell}
use Rattle.arenaqueue.proofs.CellLemmas.{read_at}
use Rattle.arenaqueue.proofs.cells.value.Goals as goal

pub returns : goal.returns
returns g c = sym (read_at (λ (cell : Cell g.row.T.Denot). Some cell.value) c.args.cells.now.items c.args.cell c.index.result.now None c.requires c.index.ensures)
