use Rattle.std.proofs.Common.{◌≡◌, sym, ◌∙◌, ap, subst, Ok, Err}
use Rattle.std.specs.Prelude.{option_map}
use Rattle.mpicall.specs.declared.call.Mode.TheVariants.{Standard}
use Rattle.closing.specs.inner.Views.{awaited_view, message_view, sent_view}
use Rattle.closing.specs.inner.Walked.{number_or}
use Rattle.closing.specs.Endings.{sent_can_be, awaited_can_be}
use Rattle.closing.specs.Entry.{start_send}
use Rattle.closing.specs.inner.Outcomes.{message_by, outcome_at}
use Rattle.closing.specs.Reported.{message_of}
use Rattle.closing.specs.inner.RequestReports.{Tells}
use Rattle.closing.specs.inner.Walks.{starts_at}
use Rattle.closing.proofs.FollowLemmas.{residual, same_number, could_be, both_right}
use Rattle.closing.proofs.EntryLemmas.{exchange_can_be, exchange_sent, source_can_be, receives_then, exchange_as, exchange_started, exchange_stops, start_said, receives_cut_by}
use Rattle.closing.proofs.walk.Walk.starts_exchange.Goals as goal

pub returns-in_err-comm-clause-takes : goal.returns-in_err-comm-clause-takes
returns-in_err-comm-clause-takes c = λ spot is same tells.
    let em : option_map message_view c.message_of-message.result ≡ message_of (awaited_view c.args.it.now.awaited) (option_map message_view c.message.result) =
    c.message_of-message.ensures in
    let e : Err c.in_err-comm.field-0.0 ≡ number_or (exchange_can_be spot.size (sent_view c.args.it.now.sent) (awaited_view c.args.it.now.awaited) (option_map message_view c.message.result)) spot.number =
    same_number spot c.args.at.now c.size.result (λ size. exchange_can_be size (sent_view c.args.it.now.sent) (awaited_view c.args.it.now.awaited) (option_map message_view c.message.result)) c.exchange_can_be-can_be.result
    (Err c.in_err-comm.field-0.0) is c.size.ensures
    (c.exchange_can_be-can_be.ensures ∙ exchange_as c.size.result (sent_view c.args.it.now.sent) (awaited_view c.args.it.now.awaited) (option_map message_view c.message.result) (option_map message_view c.message_of-message.result) em)
    (sym c.in_err-comm.was ∙ c.number_if.ensures) in
    let ed = c.message.ensures ∙ ap (λ lines. message_by lines (outcome_at c.args.self.now.requests.outcomes c.args.it.now.other)) (sym same) ∙ tells.done c.args.it.now.other in
    exchange_stops (tt {0}) spot c.args.it.now.own c.args.it.now.other (sent_view c.args.it.now.sent) (awaited_view c.args.it.now.awaited) (option_map message_view c.message.result)
    c.in_err-comm.field-0.0 c.from_residual.result c.args.self.now.list ed e (residual c.from_residual.result c.in_err-comm.field-0.0 c.from_residual.ensures.1)

pub returns-in_err-starts_unless_gone-clause-takes : goal.returns-in_err-starts_unless_gone-clause-takes
returns-in_err-starts_unless_gone-clause-takes c = λ spot is same tells.
    let em : option_map message_view c.message_of-message.result ≡ message_of (awaited_view c.args.it.now.awaited) (option_map message_view c.message.result) =
    c.message_of-message.ensures in
    let e : Ok c.in_ok-comm.comm ≡ number_or (exchange_can_be spot.size (sent_view c.args.it.now.sent) (awaited_view c.args.it.now.awaited) (option_map message_view c.message.result)) spot.number =
    same_number spot c.args.at.now c.size.result (λ size. exchange_can_be size (sent_view c.args.it.now.sent) (awaited_view c.args.it.now.awaited) (option_map message_view c.message.result)) c.exchange_can_be-can_be.result
    (Ok c.in_ok-comm.comm) is c.size.ensures
    (c.exchange_can_be-can_be.ensures ∙ exchange_as c.size.result (sent_view c.args.it.now.sent) (awaited_view c.args.it.now.awaited) (option_map message_view c.message.result) (option_map message_view c.message_of-message.result) em)
    (sym c.in_ok-comm.was ∙ c.number_if.ensures) in
    let peer = exchange_sent spot (sent_view c.args.it.now.sent) (awaited_view c.args.it.now.awaited) (option_map message_view c.message.result) c.in_ok-comm.comm is.small e in
    let ed = c.message.ensures ∙ ap (λ lines. message_by lines (outcome_at c.args.self.now.requests.outcomes c.args.it.now.other)) (sym same) ∙ tells.done c.args.it.now.other in
    exchange_started spot c.args.it.now.own c.args.it.now.other (sent_view c.args.it.now.sent) (awaited_view c.args.it.now.awaited) c.in_ok-comm.comm
    (option_map message_view c.message.result) c.message_of-message.result c.from_residual-in_err-starts_unless_gone.result c.args.self.now.list c.starts_unless_gone.new.self.list ed e em
    (receives_cut_by spot (starts_at spot c.args.it.now.own (start_send Standard c.in_ok-comm.comm (sent_view c.args.it.now.sent))) c.in_ok-comm.comm c.args.it.now.other (option_map message_view c.message_of-message.result)
    c.in_err-starts_unless_gone.field-0.0 c.starts_unless_gone.result c.from_residual-in_err-starts_unless_gone.result c.args.self.now.list c.starts_unless_gone.new.self.list
    c.in_err-starts_unless_gone.was (residual c.from_residual-in_err-starts_unless_gone.result c.in_err-starts_unless_gone.field-0.0 c.from_residual-in_err-starts_unless_gone.ensures.1)
    (start_said spot c.args.it.now.own c.start_of_send.result (start_send Standard c.in_ok-comm.comm (sent_view c.args.it.now.sent)) c.starts_unless_gone.result c.args.self.now.list c.starts_unless_gone.new.self.list
    (c.start_of_send.ensures peer) (c.starts_unless_gone.ensures.takes spot tells)))

pub returns-clause-takes : goal.returns-clause-takes
returns-clause-takes c = λ spot is same tells.
    let em : option_map message_view c.message_of-message.result ≡ message_of (awaited_view c.args.it.now.awaited) (option_map message_view c.message.result) =
    c.message_of-message.ensures in
    let e : Ok c.in_ok-comm.comm ≡ number_or (exchange_can_be spot.size (sent_view c.args.it.now.sent) (awaited_view c.args.it.now.awaited) (option_map message_view c.message.result)) spot.number =
    same_number spot c.args.at.now c.size.result (λ size. exchange_can_be size (sent_view c.args.it.now.sent) (awaited_view c.args.it.now.awaited) (option_map message_view c.message.result)) c.exchange_can_be-can_be.result
    (Ok c.in_ok-comm.comm) is c.size.ensures
    (c.exchange_can_be-can_be.ensures ∙ exchange_as c.size.result (sent_view c.args.it.now.sent) (awaited_view c.args.it.now.awaited) (option_map message_view c.message.result) (option_map message_view c.message_of-message.result) em)
    (sym c.in_ok-comm.was ∙ c.number_if.ensures) in
    let peer = exchange_sent spot (sent_view c.args.it.now.sent) (awaited_view c.args.it.now.awaited) (option_map message_view c.message.result) c.in_ok-comm.comm is.small e in
    let ed = c.message.ensures ∙ ap (λ lines. message_by lines (outcome_at c.args.self.now.requests.outcomes c.args.it.now.other)) (sym same) ∙ tells.done c.args.it.now.other in
    let tells' : Tells spot.lines c.starts_unless_gone.new.self.requests.outcomes =
    subst (λ walk. Tells spot.lines walk.requests.outcomes) (sym c.starts_unless_gone.ensures.same) tells in
    exchange_started spot c.args.it.now.own c.args.it.now.other (sent_view c.args.it.now.sent) (awaited_view c.args.it.now.awaited) c.in_ok-comm.comm
    (option_map message_view c.message.result) c.message_of-message.result c.starts_receive_of.result c.args.self.now.list c.starts_receive_of.new.self.list ed e em
    (receives_then c.in_ok-starts_unless_gone.field-0 (starts_at spot c.args.it.now.own (start_send Standard c.in_ok-comm.comm (sent_view c.args.it.now.sent))) spot c.in_ok-comm.comm c.args.it.now.other (option_map message_view c.message_of-message.result)
    c.starts_receive_of.result c.args.self.now.list c.starts_unless_gone.new.self.list c.starts_receive_of.new.self.list
    (start_said spot c.args.it.now.own c.start_of_send.result (start_send Standard c.in_ok-comm.comm (sent_view c.args.it.now.sent)) (Ok c.in_ok-starts_unless_gone.field-0) c.args.self.now.list c.starts_unless_gone.new.self.list
    (c.start_of_send.ensures peer) (c.in_ok-starts_unless_gone.ensures.takes spot tells))
    (c.starts_receive_of.ensures.takes spot tells'
    (source_can_be spot.size (awaited_view c.args.it.now.awaited) (option_map message_view c.message.result) c.message_of-message.result is.small em
    (both_right (sent_can_be spot.size (sent_view c.args.it.now.sent)) (awaited_can_be spot.size (awaited_view c.args.it.now.awaited, option_map message_view c.message.result))
    (could_be (exchange_can_be spot.size (sent_view c.args.it.now.sent) (awaited_view c.args.it.now.awaited) (option_map message_view c.message.result)) spot.number c.in_ok-comm.comm e)))))
