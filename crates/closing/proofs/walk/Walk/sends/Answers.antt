use Rattle.std.proofs.Common.{◌≡◌, sym, ◌∙◌, Ok}
use Rattle.closing.specs.inner.Views.{sent_view}
use Rattle.closing.specs.inner.Walked.{number_or}
use Rattle.closing.specs.Endings.{sent_can_be}
use Rattle.closing.proofs.FollowLemmas.{same_number, sends_past, sends_now, sent_peer}
use Rattle.closing.proofs.walk.Walk.sends.Goals as goal

pub returns-then-at-clause-takes : goal.returns-then-at-clause-takes
returns-then-at-clause-takes c = λ spot is.
    let e : Ok c.in_ok-comm.comm ≡ number_or (sent_can_be spot.size (sent_view c.args.sent.now)) spot.number =
    same_number spot c.args.at.now c.size.result (λ size. sent_can_be size (sent_view c.args.sent.now)) c.sent_can_be.result
    (Ok c.in_ok-comm.comm) is c.size.ensures c.sent_can_be.ensures (sym c.in_ok-comm.was ∙ c.number_if.ensures) in
    sends_past spot c.args.mode (sent_view c.args.sent.now) c.in_ok-comm.comm c.start_of_send.result c.starts_unnamed.result
    c.args.self.now.list c.starts_unnamed.new.self e (sym is.is_past ∙ c.if-at.true)
    (c.start_of_send.ensures (sent_peer spot (sent_view c.args.sent.now) c.in_ok-comm.comm is.small e)) c.starts_unnamed.ensures

pub returns-clause-takes : goal.returns-clause-takes
returns-clause-takes c = λ spot is.
    let e : Ok c.in_ok-comm.comm ≡ number_or (sent_can_be spot.size (sent_view c.args.sent.now)) spot.number =
    same_number spot c.args.at.now c.size.result (λ size. sent_can_be size (sent_view c.args.sent.now)) c.sent_can_be.result
    (Ok c.in_ok-comm.comm) is c.size.ensures c.sent_can_be.ensures (sym c.in_ok-comm.was ∙ c.number_if.ensures) in
    sends_now spot c.args.mode (sent_view c.args.sent.now) c.in_ok-comm.comm c.send_line.result c.does.result
    c.args.self.now.list c.does.new.self e (sym is.is_past ∙ c.if-at.false)
    (c.send_line.ensures (sent_peer spot (sent_view c.args.sent.now) c.in_ok-comm.comm is.small e)) c.does.ensures
