-- The word that was read is one that comes often, or any.
use Rattle.journals.specs.Words.{row_of}
use Rattle.journals.proofs.WordLemmas.{read_of_same, spelled}
use Rattle.journals.proofs.line.next_word.Goals as goal

pub returns-in-Some : goal.returns-in-Some
returns-in-Some c = record { text = (row_of c.in-Some.word).text; first = c.in-Some.ensures; spells = spelled c.in-Some.word }

pub returns : goal.returns
returns c = read_of_same c.next_often.result c.next_any.result c.args.texts.now c.next_often.new.texts c.next_any.new.texts c.in_default.is c.next_often.ensures c.next_any.ensures
