-- The request is moved where what is kept of it says so.
use Rattle.closing.specs.inner.Views.{awaited_view}
use Rattle.closing.proofs.MovedLemmas.{awaits_nobody, awaits_same}
use Rattle.closing.proofs.standing.Standing.unless_moved.Goals as goal

pub returns-then-is_moved : goal.returns-then-is_moved
returns-then-is_moved c = λ lines told. rw c.signed.ensures (awaits_nobody lines c.args.self.now.outcomes told c.args.request c.is_moved.result c.is_moved.ensures (awaited_view c.args.awaited.now) c.if-is_moved.true)

pub returns : goal.returns
returns c = λ lines told. awaits_same lines c.args.self.now.outcomes told c.args.request c.is_moved.result c.is_moved.ensures (awaited_view c.args.awaited.now) c.if-is_moved.false
