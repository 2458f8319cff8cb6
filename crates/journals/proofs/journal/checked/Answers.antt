-- One line more reports no moved receive that the lines can't have, or the first that does.
use Rattle.std.proofs.Common.{◌∙◌, ◌<◌, arith, ap, length, sym}
use Rattle.journals.specs.Journal.{unless_place}
use Rattle.journals.proofs.MovedLemmas.{first_here, first_later, none_moved}
use Rattle.journals.proofs.journal.checked.Goals as goal

pub returns-then-is_moved_wrongly-clause-lines : goal.returns-then-is_moved_wrongly-clause-lines
returns-then-is_moved_wrongly-clause-lines c =
    ap (unless_place c.args.lines)
    (sym c.loop-place.invariant ∙ first_here c.args.lines c.loop-place.place c.loop-place.place c.args.lines (sym c.is_moved_wrongly.ensures ∙ c.if-is_moved_wrongly.true))

pub returns-then-not-have_moved-clause-lines : goal.returns-then-not-have_moved-clause-lines
returns-then-not-have_moved-clause-lines c =
    ap (unless_place c.args.lines) (none_moved c.args.lines 0 c.args.lines (sym c.have_moved.ensures ∙ c.if-not-have_moved.true))

pub loop-place-preserved : goal.loop-place-preserved
loop-place-preserved c =
    let below : c.loop-place.place < length c.args.lines = omega (arith, c.loop-place-test.true, c.count-count.ensures) in
    sym (first_later c.args.lines c.loop-place.place c.loop-place.place c.args.lines below (sym c.is_moved_wrongly.ensures ∙ c.if-is_moved_wrongly.false)) ∙ c.loop-place.invariant
