use Rattle.std.proofs.Common.{refl, sym}
use Rattle.moves.proofs.look.look_at_start.Goals as goal

pub look_at_started-requires-clause-call : goal.look_at_started-requires-clause-call
look_at_started-requires-clause-call c = sym (rw c.in-Some.is at c.at.ensures.call)

pub look_at_started-requires-clause-seen : goal.look_at_started-requires-clause-seen
look_at_started-requires-clause-seen c = rw c.in-Some.is at c.at.ensures.seen

pub returns-in-None : goal.returns-in-None
returns-in-None c = rw (sym (rw c.in-None.is at c.at.ensures.call)) refl
