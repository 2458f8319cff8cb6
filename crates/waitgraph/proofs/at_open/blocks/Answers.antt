use Rattle.std.proofs.Common.{◌∙◌, ap, length}
use Rattle.waitgraph.proofs.AskedLemmas.{items_asked}
use Rattle.waitgraph.proofs.at_open.blocks.Goals as goal

pub items_block-requires-clause-spares : goal.items_block-requires-clause-spares
items_block-requires-clause-spares c some = c.requires.spares (items_asked c.args.scene.now c.args.rank (λ none. some (ap length c.items_of.ensures ∙ none)))
