-- A word, and what follows it.
use Rattle.std.proofs.Common.{drop, ap, sym, ◌∙◌}
use Rattle.journals.proofs.LineLemmas.{after_short}
use Rattle.journals.proofs.PushLemmas.{stays, unknown, stopped_line, other_line}
use Rattle.journals.proofs.WordLemmas.{no_word_read}
use Rattle.journals.proofs.line.read_line.Goals as goal

pub returns-in_default : goal.returns-in_default
returns-in_default c =
    (unknown c.args.ranks c.args.line.now c.of-fields.result (sym c.of-fields.ensures) (no_word_read c.next_word.result c.of-fields.result c.next_word.new.texts c.in_default.is c.next_word.ensures), stays _)

pub returns-then-is_stopped : goal.returns-then-is_stopped
returns-then-is_stopped c =
    let has = c.in-Some.ensures in
    stopped_line c.args.ranks c.args.line.now has.text c.next_word.new.texts c.in-Some.word _ (sym c.of-fields.ensures ∙ has.first) has.spells (sym c.is_stopped.ensures ∙ c.if-is_stopped.true)

pub returns : goal.returns
returns c =
    let has = c.in-Some.ensures in
    rw (other_line c.args.ranks c.args.line.now has.text c.next_word.new.texts c.in-Some.word (sym c.of-fields.ensures ∙ has.first) has.spells (sym c.is_stopped.ensures ∙ c.if-is_stopped.false)) c.push_by_word.ensures

pub push_by_word-requires-clause-few : goal.push_by_word-requires-clause-few
push_by_word-requires-clause-few c =
    let has = c.in-Some.ensures in
    after_short c.args.line.now has.text c.next_word.new.texts c.requires.short (sym c.of-fields.ensures ∙ has.first)

pub push_by_word-requires-clause-after : goal.push_by_word-requires-clause-after
push_by_word-requires-clause-after c =
    let has = c.in-Some.ensures in
    ap (drop 1) (sym has.first ∙ c.of-fields.ensures)
