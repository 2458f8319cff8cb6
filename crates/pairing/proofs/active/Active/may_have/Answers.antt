use Rattle.std.proofs.Common.{refl, arith}
use Rattle.std.proofs.lemmas.Grind.{common_steps}
use Rattle.pairing.proofs.ActiveLemmas.{other_active}
use Rattle.pairing.proofs.active.Active.may_have.Goals as goal

pub returns-then-not-is_empty-clause-some : goal.returns-then-not-is_empty-clause-some
returns-then-not-is_empty-clause-some c recording is_table says_yes =
    other_active recording c.args.self.now c.args.self.now.others.entries refl (grind (arith, common_steps, c.is_empty.ensures, c.if-not-is_empty.true)) is_table
