-- A line that is found is read as its record.
use Rattle.mpicall.proofs.LineLemmas.{spells_read}
use Rattle.mpicall.proofs.remembered.Remembered.read.Goals as goal

pub returns-then-find-clause-reading : goal.returns-then-find-clause-reading
returns-then-find-clause-reading c = spells_read _ _ c.if-find.ensures
