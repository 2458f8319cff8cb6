use Rattle.std.proofs.Common.{◌≡◌}
use Rattle.callstore.specs.Requests.{completes}
use Rattle.pairing.proofs.ActiveLemmas.{active_more, room_still}
use Rattle.pairing.proofs.active.Active.put.Goals as goal

pub returns : goal.returns
returns c recording is_active is_rank is_next =
    let completed : c.completes.result.now ≡ completes c.args.call.now = cc in
    active_more recording c.args.self.now c.complete.new.self c.start.new.self c.args.rank c.args.call.now
    (λ r req. rw completed at (c.complete.ensures.taken r req))
    (λ r req. rw is_next at (c.start.ensures r req))
    is_rank is_active

pub start-requires : goal.start-requires
start-requires c = room_still c.args.self.now c.complete.new.self c.args.rank c.args.call.now c.complete.ensures.free c.complete.ensures.room c.requires
