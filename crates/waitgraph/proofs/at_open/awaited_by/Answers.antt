use Rattle.std.proofs.Common.{◌∙◌, ap, length}
use Rattle.waitgraph.proofs.AskedLemmas.{items_asked}
use Rattle.waitgraph.proofs.at_open.awaited_by.Goals as goal

pub items_await-requires-clause-spares : goal.items_await-requires-clause-spares
items_await-requires-clause-spares c some = c.requires.spares (items_asked c.args.scene.now c.args.rank (λ none. some (ap length c.items_of.ensures ∙ none)))
