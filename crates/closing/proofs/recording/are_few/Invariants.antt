-- No journal so far has too many lines.
use Rattle.std.proofs.Common.{take}
use Rattle.closing.specs.inner.Rankwise.{AreFew}
use Rattle.closing.proofs.recording.are_few.Given as goal

abbrev pub invariant-loop-rank : goal.invariant-loop-rank
invariant-loop-rank l = AreFew (take l.rank l.journals)
