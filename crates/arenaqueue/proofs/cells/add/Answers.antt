use Rattle.std.proofs.Common.{◌∙◌, Some, [], ◌∷◌, ap}
use Rattle.std.proofs.lemmas.List.{map-append}
use Rattle.arenaqueue.specs.inner.Cells.{nexts_of, values_of}
use Rattle.arenaqueue.specs.declared.cells.Cell.{Cell}
use Rattle.arenaqueue.proofs.cells.add.Goals as goal

pub returns-clause-nexts : goal.returns-clause-nexts
returns-clause-nexts g c = ap nexts_of c.push_reserved.ensures.items ∙ map-append (λ (cell : Cell g.row.T.Denot). cell.next) c.args.cells.now.items (_ ∷ [])

pub returns-clause-values : goal.returns-clause-values
returns-clause-values g c = ap values_of c.push_reserved.ensures.items ∙ map-append (λ (cell : Cell g.row.T.Denot). Some cell.value) c.args.cells.now.items (_ ∷ [])
