use Rattle.std.proofs.Common.{ℕ, List, ◌++◌, ap, ◌∙◌}
use Rattle.std.specs.List.{filter}
use Rattle.moves.specs.declared.need.Need.{Need}
use Rattle.moves.specs.Needs.{needs_of}
use Rattle.waitgraph.specs.Stuck.{needs_in_order, unmet_at}
use Rattle.waitgraph.specs.inner.Stuck.{is_unmet}
use Rattle.waitgraph.proofs.unmet.unmet_at.Goals as goal

pub returns : goal.returns
unfolding unmet_at
returns c =
    let w = c.args.world.now in
    c.put_in_order.ensures
    ∙ ap needs_in_order
    (c.in_ok-add_needs.ensures
    ∙ ap (λ (needs : List Need). needs ++ filter (is_unmet c.args.stands.now) (needs_of w.reading w.pairs.groups w.pairs.recording c.args.rank c.stand_of.result)) c.new-unmet.ensures.items
    ∙ ap (λ (stand : ℕ). filter (is_unmet c.args.stands.now) (needs_of w.reading w.pairs.groups w.pairs.recording c.args.rank stand)) c.stand_of.ensures)
