-- The numbers so far are free again.
use Rattle.closing.specs.inner.Free.{Requests, AreNumbered}
use Rattle.closing.specs.inner.Lists.{AreHeld, FreesOnly}
use Rattle.closing.proofs.WaitLemmas.{FreesSoFar}
use Rattle.closing.proofs.list.List.free_numbers.Given as goal

abbrev pub invariant-loop-place : goal.invariant-loop-place
invariant-loop-place l = record {
  same : FreesOnly l.fn.self l.self;
  frees : (active : Requests) → AreNumbered active l.fn.self → AreHeld active l.fn.self.numbers.items → FreesSoFar active l.fn.self.numbers.items l.place l.self;
}
