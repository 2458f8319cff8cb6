-- Those of the requests so far are taken, and those of the others are as they would be after them.
use Rattle.std.proofs.Common.{map, drop}
use Rattle.closing.specs.Steps.{Own}
use Rattle.closing.specs.inner.Free.{Requests}
use Rattle.closing.specs.inner.Lists.{AreApart, KeepsLines, Owns}
use Rattle.closing.proofs.WaitLemmas.{TakesSoFar}
use Rattle.closing.proofs.list.List.take_numbers.Given as goal

abbrev pub invariant-loop-id : goal.invariant-loop-id
invariant-loop-id l = record {
  same : KeepsLines l.fn.self l.self;
  takes : (active : Requests) → AreApart active → Owns active l.fn.self → TakesSoFar active (map Own l.ids) (map Own (drop l.id-index l.ids)) l.self;
}
