use Rattle.std.proofs.Common.{◌≡◌, sym, ◌∙◌, ap, subst, ℕ, [], Option, Result, Ok, Err}
use Rattle.std.specs.Prelude.{option_map}
use Rattle.closing.specs.Called.{Awaited}
use Rattle.closing.specs.inner.Views.{awaited_view, message_view}
use Rattle.closing.specs.inner.Walked.{Takes, number_or}
use Rattle.closing.specs.inner.Walks.{Spot, numbered, receives_after, starts_receive_on}
use Rattle.closing.specs.Endings.{awaited_can_be}
use Rattle.closing.specs.inner.Outcomes.{message_by, outcome_at}
use Rattle.closing.specs.Reported.{Message as Said, done_of, message_of}
use Rattle.closing.specs.declared.list.List.{List as ListCode}
use Rattle.closing.specs.declared.stop.Stop.{Stop}
use Rattle.closing.proofs.FollowLemmas.{residual, same_number, could_be, stops}
use Rattle.closing.proofs.EntryLemmas.{source_can_be, receive_started, can_be_as}
use Rattle.closing.proofs.walk.Walk.starts_receive.Goals as goal

-- it doesn't start where the list ends at it
receive_stops : {B : Type 0} (end : B) (spot : Spot) (request : ℕ) (awaited : Awaited) (done : Option Said) (stop : Stop)
    (result : Result B Stop) (it : ListCode) → done ≡ done_of spot.lines request
    → Err stop ≡ number_or (awaited_can_be spot.size (awaited, done)) spot.number → result ≡ Err stop
    → Takes spot (starts_receive_on spot request awaited) result it it
receive_stops {B} end spot request awaited done stop result it ed e er =
    subst (λ r. Takes {A = B} spot (starts_receive_on spot request awaited) r it it) (sym er)
    (subst (λ d. Takes {A = B} spot (numbered (awaited_can_be spot.size (awaited, d)) spot.number
    (λ comm. receives_after [] spot comm request (message_of awaited d))) (Err stop) it it) ed
    (stops {B = B} end spot (awaited_can_be spot.size (awaited, done)) spot.number
    (λ comm. receives_after [] spot comm request (message_of awaited done)) stop it e))

pub returns-in_err-comm-clause-takes : goal.returns-in_err-comm-clause-takes
returns-in_err-comm-clause-takes c = λ spot is same tells.
    let em : option_map message_view c.message_of-message.result ≡ message_of (awaited_view c.args.awaited.now) (option_map message_view c.message.result) =
    c.message_of-message.ensures in
    let e : Err c.in_err-comm.field-0.0 ≡ number_or (awaited_can_be spot.size (awaited_view c.args.awaited.now, option_map message_view c.message.result)) spot.number =
    same_number spot c.args.at.now c.size.result (λ size. awaited_can_be size (awaited_view c.args.awaited.now, option_map message_view c.message.result)) c.awaited_can_be.result
    (Err c.in_err-comm.field-0.0) is c.size.ensures
    (c.awaited_can_be.ensures ∙ can_be_as c.size.result (awaited_view c.args.awaited.now) (option_map message_view c.message.result) (option_map message_view c.message_of-message.result) em)
    (sym c.in_err-comm.was ∙ c.number_if.ensures) in
    receive_stops (tt {0}) spot c.args.own (awaited_view c.args.awaited.now) (option_map message_view c.message.result)
    c.in_err-comm.field-0.0 c.from_residual.result c.args.self.now.list
    (c.message.ensures ∙ ap (λ lines. message_by lines (outcome_at c.args.self.now.requests.outcomes c.args.own)) (sym same) ∙ tells.done c.args.own)
    e (residual c.from_residual.result c.in_err-comm.field-0.0 c.from_residual.ensures.1)

pub returns-clause-takes : goal.returns-clause-takes
returns-clause-takes c = λ spot is same tells.
    let awaited = awaited_view c.args.awaited.now in
    let em : option_map message_view c.message_of-message.result ≡ message_of (awaited_view c.args.awaited.now) (option_map message_view c.message.result) =
    c.message_of-message.ensures in
    let e : Ok c.in_ok-comm.comm ≡ number_or (awaited_can_be spot.size (awaited_view c.args.awaited.now, option_map message_view c.message.result)) spot.number =
    same_number spot c.args.at.now c.size.result (λ size. awaited_can_be size (awaited_view c.args.awaited.now, option_map message_view c.message.result)) c.awaited_can_be.result
    (Ok c.in_ok-comm.comm) is c.size.ensures
    (c.awaited_can_be.ensures ∙ can_be_as c.size.result (awaited_view c.args.awaited.now) (option_map message_view c.message.result) (option_map message_view c.message_of-message.result) em)
    (sym c.in_ok-comm.was ∙ c.number_if.ensures) in
    receive_started spot c.args.own (awaited_view c.args.awaited.now) c.in_ok-comm.comm (option_map message_view c.message.result) c.message_of-message.result
    c.starts_receive_of.result c.args.self.now.list c.starts_receive_of.new.self.list
    (c.message.ensures ∙ ap (λ lines. message_by lines (outcome_at c.args.self.now.requests.outcomes c.args.own)) (sym same) ∙ tells.done c.args.own)
    e em
    (c.starts_receive_of.ensures.takes spot tells
    (source_can_be spot.size (awaited_view c.args.awaited.now) (option_map message_view c.message.result) c.message_of-message.result is.small em
    (could_be (awaited_can_be spot.size (awaited_view c.args.awaited.now, option_map message_view c.message.result)) spot.number c.in_ok-comm.comm e)))
