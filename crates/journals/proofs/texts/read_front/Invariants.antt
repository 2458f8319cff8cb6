-- What was read are digits, and the number so far is what they write.
use Rattle.mpicall.specs.inner.Front.{AreDigits}
use Rattle.journals.specs.declared.limits.TheConstants.{GREATEST}
use Rattle.journals.proofs.texts.read_front.Given as goal

abbrev pub invariant-loop-at : goal.invariant-loop-at
invariant-loop-at l = AreDigits GREATEST l.bytes l.at l.number
