-- What the requests give is added.
use Rattle.std.proofs.Common.{ap, List}
use Rattle.closing.specs.declared.pending.Item.{Item}
use Rattle.closing.proofs.walk.Walk.pends_for_requests.Goals as goal

pub returns-clause-pending : goal.returns-clause-pending
returns-clause-pending c = ap (λ (items : List Item). record { is_for_all = c.args.self.now.pending.is_for_all; items = items }) c.in_ok-push_items.ensures
