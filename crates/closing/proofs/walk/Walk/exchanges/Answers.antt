use Rattle.std.proofs.Common.{◌≡◌, sym, ◌∙◌, ap, Ok}
use Rattle.std.specs.Prelude.{option_map}
use Rattle.closing.specs.inner.Views.{awaited_view, message_view, sent_view}
use Rattle.closing.specs.inner.Walked.{number_or}
use Rattle.closing.specs.Reported.{message_of}
use Rattle.closing.proofs.FollowLemmas.{same_number}
use Rattle.closing.proofs.EntryLemmas.{exchange_can_be, exchange_source, exchanges_known, exchanges_now, exchange_sent, exchange_as}
use Rattle.closing.proofs.walk.Walk.exchanges.Goals as goal

pub returns-then-at-clause-takes : goal.returns-then-at-clause-takes
returns-then-at-clause-takes c = λ spot is.
    let em : option_map message_view c.message_of-found.result ≡ message_of (awaited_view c.args.awaited.now) spot.got =
    c.message_of-found.ensures ∙ ap (message_of (awaited_view c.args.awaited.now)) is.got in
    let e : Ok c.in_ok-comm.comm ≡ number_or (exchange_can_be spot.size (sent_view c.args.sent.now) (awaited_view c.args.awaited.now) spot.got) spot.number =
    same_number spot c.args.at.now c.size.result (λ size. exchange_can_be size (sent_view c.args.sent.now) (awaited_view c.args.awaited.now) spot.got) c.exchange_can_be.result
    (Ok c.in_ok-comm.comm) is c.size.ensures
    (c.exchange_can_be.ensures ∙ exchange_as c.size.result (sent_view c.args.sent.now) (awaited_view c.args.awaited.now) spot.got (option_map message_view c.message_of-found.result) em)
    (sym c.in_ok-comm.was ∙ c.number_if.ensures) in
    exchanges_known spot (sent_view c.args.sent.now) (awaited_view c.args.awaited.now) c.in_ok-comm.comm c.message_of-found.result c.in-Ok.message
    c.starts_halves.result c.args.self.now.list c.starts_halves.new.self.list e em (sym c.in-Ok.is ∙ c.known.ensures)
    (c.starts_halves.ensures.takes spot (sym is.is_past ∙ c.if-at.true)
    (exchange_sent spot (sent_view c.args.sent.now) (awaited_view c.args.awaited.now) spot.got c.in_ok-comm.comm is.small e)
    (exchange_source spot (sent_view c.args.sent.now) (awaited_view c.args.awaited.now) spot.got c.in_ok-comm.comm c.message_of-found.result c.in-Ok.message is.small em e (sym c.in-Ok.is ∙ c.known.ensures)))

pub returns-else-at-clause-takes : goal.returns-else-at-clause-takes
returns-else-at-clause-takes c = λ spot is.
    let em : option_map message_view c.message_of-found.result ≡ message_of (awaited_view c.args.awaited.now) spot.got =
    c.message_of-found.ensures ∙ ap (message_of (awaited_view c.args.awaited.now)) is.got in
    let e : Ok c.in_ok-comm.comm ≡ number_or (exchange_can_be spot.size (sent_view c.args.sent.now) (awaited_view c.args.awaited.now) spot.got) spot.number =
    same_number spot c.args.at.now c.size.result (λ size. exchange_can_be size (sent_view c.args.sent.now) (awaited_view c.args.awaited.now) spot.got) c.exchange_can_be.result
    (Ok c.in_ok-comm.comm) is c.size.ensures
    (c.exchange_can_be.ensures ∙ exchange_as c.size.result (sent_view c.args.sent.now) (awaited_view c.args.awaited.now) spot.got (option_map message_view c.message_of-found.result) em)
    (sym c.in_ok-comm.was ∙ c.number_if.ensures) in
    exchanges_known spot (sent_view c.args.sent.now) (awaited_view c.args.awaited.now) c.in_ok-comm.comm c.message_of-found.result c.in-Ok.message
    c.does.result c.args.self.now.list c.does.new.self e em (sym c.in-Ok.is ∙ c.known.ensures)
    (exchanges_now spot (sent_view c.args.sent.now) c.in_ok-comm.comm (message_view c.in-Ok.message) c.exchange_line.result c.does.result
    c.args.self.now.list c.does.new.self (sym is.is_past ∙ c.if-at.false) (c.exchange_line.ensures
    (exchange_sent spot (sent_view c.args.sent.now) (awaited_view c.args.awaited.now) spot.got c.in_ok-comm.comm is.small e) (exchange_source spot (sent_view c.args.sent.now) (awaited_view c.args.awaited.now) spot.got c.in_ok-comm.comm c.message_of-found.result c.in-Ok.message is.small em e (sym c.in-Ok.is ∙ c.known.ensures))) c.does.ensures)
