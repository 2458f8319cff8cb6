-- It is started where the entry stands for what it started alone.
use Rattle.std.proofs.Common.{◌∙◌}
use Rattle.closing.specs.Entry.{receive, start_receive}
use Rattle.closing.specs.inner.Views.{message_view}
use Rattle.closing.proofs.FollowLemmas.{does_now, does_past}
use Rattle.closing.proofs.walk.Walk.receives_message.Goals as goal

pub returns-then-is_past-clause-takes : goal.returns-then-is_past-clause-takes
returns-then-is_past-clause-takes c = λ spot is can.
    does_past spot (receive c.args.comm (message_view c.args.message.now)) (start_receive c.args.comm (message_view c.args.message.now))
    c.start_of_receive.result c.starts_unnamed.result c.args.self.now.list c.starts_unnamed.new.self (is ∙ c.if-is_past.true) (c.start_of_receive.ensures can) c.starts_unnamed.ensures

pub returns-clause-takes : goal.returns-clause-takes
returns-clause-takes c = λ spot is can.
    does_now spot (receive c.args.comm (message_view c.args.message.now)) (start_receive c.args.comm (message_view c.args.message.now))
    c.receive_line.result c.does.result c.args.self.now.list c.does.new.self (is ∙ c.if-is_past.false) (c.receive_line.ensures can) c.does.ensures
