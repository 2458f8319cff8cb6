-- One request more is parted, and all are.
use Rattle.std.proofs.Common.{◌<◌, ◌≤◌, ◌++◌, ap, arith, length, not}
use Rattle.std.specs.List.{filter}
use Rattle.closing.specs.inner.Lists.{is_send_in}
use Rattle.closing.proofs.WaitingLemmas.{parts_all, parts_more}
use Rattle.closing.proofs.walk.wait.part.Goals as goal

pub loop-id-preserved : goal.loop-id-preserved
loop-id-preserved c =
    let within : c.loop-id.id-index < length c.args.ids.now = omega (arith, c.loop-id-test.true) in
    record {
      sends = parts_more (is_send_in c.args.list.now) c.args.ids.now c.loop-id.id-index c.is_send.result c.loop-id.sends.items c.part_one.new.sends.items
          (c.args.sends.now.items ++ filter (is_send_in c.args.list.now) c.args.ids.now) within c.is_send.ensures c.in_ok-part_one.ensures.sends c.loop-id.invariant.sends;
      others = parts_more (λ id. not (is_send_in c.args.list.now id)) c.args.ids.now c.loop-id.id-index (not c.is_send.result) c.loop-id.others.items c.part_one.new.others.items
          (filter (λ id. not (is_send_in c.args.list.now id)) c.args.ids.now) within (ap not c.is_send.ensures) c.in_ok-part_one.ensures.others c.loop-id.invariant.others;
    }

pub returns-clause-sends : goal.returns-clause-sends
returns-clause-sends c =
    let past : length c.args.ids.now ≤ c.loop-id.id-index = omega (arith, c.loop-id-test.false) in
    parts_all (is_send_in c.args.list.now) c.args.ids.now c.loop-id.id-index c.loop-id.sends.items (c.args.sends.now.items ++ filter (is_send_in c.args.list.now) c.args.ids.now) past c.loop-id.invariant.sends

pub returns-clause-others : goal.returns-clause-others
returns-clause-others c =
    let past : length c.args.ids.now ≤ c.loop-id.id-index = omega (arith, c.loop-id-test.false) in
    parts_all (λ id. not (is_send_in c.args.list.now id)) c.args.ids.now c.loop-id.id-index c.loop-id.others.items
    (filter (λ id. not (is_send_in c.args.list.now id)) c.args.ids.now) past c.loop-id.invariant.others
