-- The header says whether the rank is outside its last call.
use Rattle.std.proofs.Common.{Bool, subst}
use Rattle.closing.specs.inner.Noted.{IsLastCall}
use Rattle.closing.proofs.last.last_call_of.Goals as goal

pub returns : goal.returns
returns c places =
    subst (λ (b : Bool). IsLastCall c.args.journal.now.lines b c.last_call.result) c.is_outside.ensures (c.last_call.ensures places)
