use Rattle.windows.proofs.RowLemmas.{rows_are_right}
use Rattle.windows.proofs.laws.rows_are_right.Goals as goal

pub returns : goal.returns
returns c = rows_are_right
