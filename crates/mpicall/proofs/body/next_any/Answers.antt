-- The first field is a word, or no line begins with it.
use Rattle.mpicall.proofs.BodyLemmas.{word_fits}
use Rattle.mpicall.proofs.body.next_any.Goals as goal

pub returns : goal.returns
returns c = word_fits _ _ _ c.word_of.result c.in_ok-field.ensures c.word_of.ensures
