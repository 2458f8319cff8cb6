use Rattle.std.proofs.Common.{List, ◌∙◌, ◌==◌, ◌++◌, length, ap}
use Rattle.std.specs.List.{filter}
use Rattle.waitgraph.specs.inner.Stuck.{is_unmet}
use Rattle.moves.specs.Needs.{needs_of}
use Rattle.moves.specs.declared.need.Need.{Need}
use Rattle.waitgraph.proofs.AgreedLemmas.{none_unmet}
use Rattle.waitgraph.proofs.disagreement.is_met.Goals as goal

pub returns : goal.returns
returns c =
    let world = c.args.world.now in
    c.is_empty.ensures
    ∙ ap (λ (needs : List Need). length needs == 0) (c.as_slice.ensures.value ∙ c.in_ok-add_needs.ensures ∙ ap (λ (needs : List Need). needs ++ filter (is_unmet c.args.stands.now) (needs_of world.reading world.pairs.groups world.pairs.recording c.args.at.0 c.args.at.1)) c.new-unmet.ensures.items)
    ∙ none_unmet c.args.stands.now (needs_of world.reading world.pairs.groups world.pairs.recording c.args.at.0 c.args.at.1)
