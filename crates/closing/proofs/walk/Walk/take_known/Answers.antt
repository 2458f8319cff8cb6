-- Where there is no call, the entry is taken as any.
use Rattle.closing.proofs.walk.Walk.take_known.Goals as goal

pub returns-then-matches-clause-entered : goal.returns-then-matches-clause-entered
returns-then-matches-clause-entered c = λ said heading handed progress is before ready.
    c.take_any.ensures.entered said heading handed progress before ready
