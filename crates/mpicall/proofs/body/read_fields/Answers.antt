-- A word and what follows it.
use Rattle.mpicall.proofs.WordLemmas.{word_found}
use Rattle.mpicall.proofs.BodyLemmas.{line_reads}
use Rattle.mpicall.proofs.body.read_fields.Goals as goal

pub returns-in-Some : goal.returns-in-Some
returns-in-Some c = line_reads _ _ _ _ _ _ _ c.in-Some.ensures (word_found c.in-Some.word) c.read_behind.ensures
