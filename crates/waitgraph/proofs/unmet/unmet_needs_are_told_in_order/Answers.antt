use Rattle.waitgraph.proofs.UnmetLemmas.{unmet_needs_are_told_in_order}
use Rattle.waitgraph.proofs.unmet.unmet_needs_are_told_in_order.Goals as goal

pub returns : goal.returns
returns c = unmet_needs_are_told_in_order
