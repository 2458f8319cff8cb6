use Rattle.closing.specs.inner.Views.{message_view, sent_view}
use Rattle.closing.proofs.FollowLemmas.{residual}
use Rattle.closing.proofs.EntryLemmas.{exchanges_past, exchanges_cut_by}
use Rattle.closing.proofs.walk.Walk.starts_halves.Goals as goal

pub returns-in_err-starts_unnamed-clause-takes : goal.returns-in_err-starts_unnamed-clause-takes
returns-in_err-starts_unnamed-clause-takes c = λ spot past sent can.
    exchanges_cut_by spot (sent_view c.args.sent.now) c.args.comm (message_view c.args.message.now) c.start_of_send.result
    c.in_err-starts_unnamed.field-0.0 c.starts_unnamed.result c.from_residual.result c.args.self.now.list c.starts_unnamed.new.self
    c.in_err-starts_unnamed.was (residual c.from_residual.result c.in_err-starts_unnamed.field-0.0 c.from_residual.ensures.1)
    past (c.start_of_send.ensures sent) c.starts_unnamed.ensures

pub returns-clause-takes : goal.returns-clause-takes
returns-clause-takes c = λ spot past sent can.
    exchanges_past c.in_ok-starts_unnamed.field-0 spot (sent_view c.args.sent.now) c.args.comm (message_view c.args.message.now)
    c.start_of_send.result c.start_of_receive.result c.starts_unnamed-2.result c.args.self.now.list c.starts_unnamed.new.self c.starts_unnamed-2.new.self
    past (c.start_of_send.ensures sent) c.in_ok-starts_unnamed.ensures (c.start_of_receive.ensures can) c.starts_unnamed-2.ensures
