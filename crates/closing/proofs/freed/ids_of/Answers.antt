use Rattle.std.proofs.Common.{nat_eq}
use Rattle.closing.proofs.FreedIds.{ids_more}
use Rattle.closing.proofs.freed.ids_of.Goals as goal

pub loop-request-preserved : goal.loop-request-preserved
loop-request-preserved c = λ id.
    ids_more c.args.matched.now c.args.requests.now c.loop-request.request-index id _ _ c.loop-request-test.true (c.loop-request.invariant id)
    (rw c.id_of.ensures at (c.in_ok-insert.ensures.updates.0 id))
