use Rattle.progress.specs.Lines.{IsEarliest}
use Rattle.progress.proofs.line.Earliest.of.Given as goal

abbrev pub invariant-loop-rank : goal.invariant-loop-rank
invariant-loop-rank l = IsEarliest l.rank l.stands.places l.earliest.rank l.earliest.place
