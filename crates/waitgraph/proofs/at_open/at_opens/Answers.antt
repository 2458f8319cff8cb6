use Rattle.std.proofs.Common.{map, ap, ◌∙◌}
use Rattle.std.proofs.lemmas.List.{map-append}
use Rattle.waitgraph.specs.inner.Scenes.{awaited_by}
use Rattle.waitgraph.proofs.BlockedLemmas.{one_row_more}
use Rattle.waitgraph.proofs.at_open.at_opens.Goals as goal

pub loop-rank-preserved : goal.loop-rank-preserved
loop-rank-preserved c =
    one_row_more (awaited_by c.args.scene.now c.args.marks.now) c.loop-rank.rank (map (λ one. one.items) c.loop-rank.awaits.items) _ _
    c.loop-rank.invariant c.in_ok-awaited_by.ensures
    (ap (map (λ one. one.items)) c.in_ok-push.ensures.items ∙ map-append (λ one. one.items) c.loop-rank.awaits.items _)
