-- A plain call is what it is without sinks.
use Rattle.closing.proofs.walk.Walk.takes_sink_by.Goals as goal

pub returns-then-is_plain-clause-takes : goal.returns-then-is_plain-clause-takes
returns-then-is_plain-clause-takes c = λ spot meets line back. c.is_plain.ensures c.if-is_plain.true spot meets
