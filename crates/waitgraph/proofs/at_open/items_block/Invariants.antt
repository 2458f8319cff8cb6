use Rattle.std.proofs.Common.{◌≡◌, flat_map, take}
use Rattle.waitgraph.specs.PendingNeeds.{item_blocks}
use Rattle.waitgraph.specs.inner.Scenes.{comes, staying}
use Rattle.waitgraph.proofs.at_open.items_block.Given as goal

-- of the items so far
abbrev pub invariant-loop-item : goal.invariant-loop-item
invariant-loop-item l = l.blocks.items ≡ flat_map (item_blocks (comes l.scene l.marks) l.scene.world.now.reading l.scene.world.now.pairs.groups l.scene.world.now.pairs.recording l.scene.sinks.now (staying l.marks) l.rank) (take l.item-index l.items)
