-- The waits of the turns so far stand at the end of the list.
use Rattle.std.proofs.Common.{◌<◌}
use Rattle.closing.specs.Steps.{waits_for}
use Rattle.closing.specs.inner.Lists.{AreSmall, Puts}
use Rattle.closing.specs.declared.list.TheConstants.{MOST_RECORDS}
use Rattle.closing.proofs.list.List.waits_for_taken.Given as goal

abbrev pub invariant-loop-turn : goal.invariant-loop-turn
invariant-loop-turn l =
    AreSmall l.fn.self.numbers.items → l.fn.self.count < MOST_RECORDS → Puts l.fn.self l.self (waits_for l.turn l.fn.self.numbers.items) × (l.self.count < MOST_RECORDS)
