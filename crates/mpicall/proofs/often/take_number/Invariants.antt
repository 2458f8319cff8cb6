-- The digits that were read write the number so far.
use Rattle.mpicall.specs.inner.Often.{HasDigits}
use Rattle.mpicall.proofs.often.take_number.Given as goal

abbrev pub invariant-loop-count : goal.invariant-loop-count
invariant-loop-count l = HasDigits l.bytes l.from l.count l.number l.next
