-- The fields without the first one.
use Rattle.journals.proofs.LineLemmas.{after_word_short, after_word_is}
use Rattle.journals.proofs.line.after_word.Goals as goal

pub returns-clause-short : goal.returns-clause-short
returns-clause-short c = after_word_short c.args.line.now c.next_field.result c.of-fields.result c.next_field.new.self c.requires c.of-fields.ensures c.next_field.ensures

pub returns-clause-value : goal.returns-clause-value
returns-clause-value c = after_word_is c.args.line.now c.next_field.result c.of-fields.result c.next_field.new.self c.of-fields.ensures c.next_field.ensures
