-- The end of the line, or a number before it.
use Rattle.std.proofs.Common.{◌∙◌}
use Rattle.mpicall.proofs.OftenLemmas.{last_plain, last_said}
use Rattle.mpicall.proofs.often.take_last.Goals as goal

pub returns-then-next-eq10 : goal.returns-then-next-eq10
returns-then-next-eq10 c = last_plain _ _ c.requires.room (c.requires.next ∙ c.if-next-eq10.true)

pub returns : goal.returns
returns c = last_said _ _ _ _ c.requires.room (c.requires.next ∙ c.if-next-ne32.false) c.in_ok-said.ensures
