use Rattle.std.proofs.Common.{length, ap, ◌∙◌, arith}
use Rattle.std.specs.Prelude.{option_map}
use Rattle.std.proofs.lemmas.List.FromFn.{length-map-range_with_len}
use Rattle.waitgraph.specs.inner.Causes.{Walks}
use Rattle.waitgraph.specs.inner.Scenes.{held_up_in, hop_from_awaited}
use Rattle.waitgraph.proofs.graph.pending.causes_by.Goals as goal

pub causes_in-requires : goal.causes_in-requires
causes_in-requires c =
    omega (
      arith,
      c.ranks_are_few.ensures,
      ap (λ (walks : Walks). length walks) (c.deref.ensures.value ∙ c.in_ok-walks.ensures)
          ∙ length-map-range_with_len (λ rank. option_map (hop_from_awaited c.args.scene.now.world.now.pairs.recording) (held_up_in c.args.scene.now c.args.marks.now rank)) 0 (length c.args.scene.now.world.now.pairs.recording),
    )
