-- What was read are digits, and the number so far is what they write.
use Rattle.mpicall.specs.inner.Front.{AreDigits}
use Rattle.mpicall.proofs.number.read_front.Given as goal

abbrev pub invariant-loop-at : goal.invariant-loop-at
invariant-loop-at l = AreDigits l.limit l.bytes l.at l.number
