-- The request is moved where what is kept of it says so.
use Rattle.closing.proofs.MovedLemmas.{asks, asks_nothing}
use Rattle.closing.proofs.moved.if_moved.Goals as goal

pub returns-then-is_moved : goal.returns-then-is_moved
returns-then-is_moved c = λ lines told. asks lines c.args.outcomes.now told c.args.request c.is_moved.result c.is_moved.ensures c.args.awaited.now.source c.args.awaited.now.tag c.if-is_moved.true

pub returns-else-is_moved : goal.returns-else-is_moved
returns-else-is_moved c = λ lines told. asks_nothing lines c.args.outcomes.now told c.args.request c.is_moved.result c.is_moved.ensures c.args.awaited.now.source c.args.awaited.now.tag c.if-is_moved.false
