use Rattle.arenaqueue.specs.declared.cells.Ends.{Ends}
use Rattle.arenaqueue.proofs.CellLemmas.{read_at}
use Rattle.arenaqueue.proofs.cells.last.Goals as goal

pub returns : goal.returns
returns c = read_at (λ (e : Ends). e.last) c.args.ends.now.items c.args.list c.index.result.now 0 c.requires c.index.ensures
