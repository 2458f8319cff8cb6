-- A known key is what is kept at its place.
use Rattle.std.proofs.Common.{◌∙◌}
use Rattle.closing.proofs.RunLemmas.{known_named}
use Rattle.closing.proofs.numbers.Communicators.named.Goals as goal

pub returns-clause-known : goal.returns-clause-known
returns-clause-known c = λ run it h has known. c.named_at.ensures ∙ known_named run c.args.self.now c.args.key it h has known
