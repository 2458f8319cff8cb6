-- Those of the requests so far are found, and those of the others are as they would be after them.
use Rattle.std.proofs.Common.{◌≡◌, ◌≤◌, ◌++◌, length, map, drop}
use Rattle.mpicall.specs.declared.limits.TheConstants.{MOST_REQUESTS}
use Rattle.closing.specs.Steps.{Own, numbers_of, without_all}
use Rattle.closing.specs.inner.Free.{Requests}
use Rattle.closing.specs.inner.Lists.{AreApart, FindsOnly, Owns}
use Rattle.closing.proofs.list.List.find_numbers.Given as goal

abbrev pub invariant-loop-id : goal.invariant-loop-id
invariant-loop-id l = record {
  same : FindsOnly l.fn.self l.self;
  few : length l.self.numbers.items ≤ MOST_REQUESTS;
  finds : (left : Requests) → AreApart left → Owns left l.fn.self
      → l.self.numbers.items ++ numbers_of (without_all l.self.numbers.items left) (map Own (drop l.id-index l.ids)) ≡ numbers_of left (map Own l.ids);
}
