use Rattle.std.proofs.Common.{◌∙◌, List, sym, ap}
use Rattle.std.specs.List.{list_any}
use Rattle.moves.specs.declared.need.Need.TheVariants.{At}
use Rattle.waitgraph.specs.Pending.{is_wanted}
use Rattle.waitgraph.specs.inner.Scenes.{comes, passes_spare, spares_in}
use Rattle.waitgraph.specs.declared.pending.Spare.{Spare}
use Rattle.waitgraph.proofs.ScenesLemmas.{any_kept}
use Rattle.waitgraph.proofs.may_move.spare_comes.Goals as goal

pub returns : goal.returns
returns c =
    c.are_ways.ensures
    ∙ ap (λ (spares : List Spare). list_any (passes_spare c.args.scene.now c.args.marks.now c.args.wanted.now) spares) c.spares_of.ensures
    ∙ sym (any_kept (comes c.args.scene.now c.args.marks.now) (λ (spare : Spare). At spare.sender spare.place) (is_wanted c.args.wanted.now) (spares_in c.args.scene.now c.args.rank))
