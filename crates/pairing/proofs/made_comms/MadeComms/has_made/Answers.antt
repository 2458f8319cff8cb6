use Rattle.std.proofs.Common.{arith}
use Rattle.std.proofs.lemmas.Grind.{common_steps}
use Rattle.pairing.proofs.HoldingLemmas.{none_made, some_made}
use Rattle.pairing.proofs.made_comms.MadeComms.has_made.Goals as goal

pub returns-clause-none : goal.returns-clause-none
returns-clause-none c recording is_held says_no = none_made recording c.args.self.now (grind (arith, common_steps, c.is_empty.ensures)) is_held

pub returns-clause-some : goal.returns-clause-some
returns-clause-some c recording is_held says_yes = some_made recording c.args.self.now (grind (arith, common_steps, c.is_empty.ensures)) is_held
