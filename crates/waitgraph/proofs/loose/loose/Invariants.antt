use Rattle.std.proofs.Common.{◌≡◌, ◌-◌, length}
use Rattle.waitgraph.specs.inner.Least.{IsWithin}
use Rattle.waitgraph.specs.inner.Loose.{set_of, are_loose, size}
use Rattle.waitgraph.proofs.loose.loose.Given as goal

abbrev pub invariant-loop : goal.invariant-loop
invariant-loop l = record {
  len : length l.marks.items ≡ length l.standings;
  within : IsWithin (set_of l.marks.items) (are_loose (set_of l.opened) l.standings l.waits);
}

-- the ranks without a mark
abbrev pub decreases-loop : goal.decreases-loop
decreases-loop l = length l.standings - size (set_of l.marks.items) (length l.standings)
