use Rattle.std.proofs.Common.{◌≡◌, map}
use Rattle.std.specs.Prelude.{option_map}
use Rattle.std.specs.List.{range_with_len}
use Rattle.waitgraph.specs.inner.Scenes.{held_up_in, hop_from_awaited}
use Rattle.waitgraph.proofs.at_open.walks.Given as goal

-- from the ranks so far
abbrev pub invariant-loop-rank : goal.invariant-loop-rank
invariant-loop-rank l = l.walks.items ≡ map (λ rank. option_map (hop_from_awaited l.scene.world.now.pairs.recording) (held_up_in l.scene l.marks rank)) (range_with_len 0 l.rank)
