-- The first text spells a word, or none.
use Rattle.journals.proofs.PushLemmas.{no_text}
use Rattle.journals.proofs.WordLemmas.{no_first, word_read}
use Rattle.journals.proofs.line.next_any.Goals as goal

pub returns-in_default : goal.returns-in_default
returns-in_default c = no_first c.args.texts.now (no_text c.next_text.result c.args.texts.now c.next_text.new.self c.in_default.is c.next_text.ensures)

pub returns : goal.returns
returns c = word_read c.word_of.result c.in-Some.text.now c.args.texts.now c.next_text.new.self c.word_of.ensures c.in-Some.ensures
