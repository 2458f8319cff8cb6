use Rattle.std.proofs.Common.{◌≡◌, ◌-◌, length}
use Rattle.waitgraph.specs.inner.Among.{free_among}
use Rattle.waitgraph.specs.inner.Least.{IsWithin}
use Rattle.waitgraph.specs.inner.Loose.{set_of, size}
use Rattle.waitgraph.proofs.held.free.Given as goal

abbrev pub invariant-loop : goal.invariant-loop
invariant-loop l = record {
  len : length l.marks.items ≡ length l.scene.world.now.pairs.recording;
  within : IsWithin (set_of l.marks.items) (free_among l.scene l.asked);
}

-- the ranks without a mark
abbrev pub decreases-loop : goal.decreases-loop
decreases-loop l = length l.scene.world.now.pairs.recording - size (set_of l.marks.items) (length l.scene.world.now.pairs.recording)
