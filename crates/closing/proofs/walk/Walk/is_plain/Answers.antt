-- By which call it is.
use Rattle.std.proofs.Common.{◌≡◌, refl, sym, ◌∙◌, ap, Ok, false, List, None}
use Rattle.std.specs.Prelude.{is_some, option_map}
use Rattle.journals.specs.Lines.{Line}
use Rattle.closing.specs.Called.{naturals_in}
use Rattle.closing.specs.Reported.{done_of, message_of}
use Rattle.closing.specs.inner.Outcomes.{message_by, outcome_at}
use Rattle.closing.specs.inner.Views.{awaited_view, message_view}
use Rattle.closing.specs.declared.walk.sinks.Leaves.TheVariants as leaves
use Rattle.closing.proofs.SunkCalls.{called_as, sunk_receive_as}
use Rattle.closing.proofs.SunkPlain.{other_as, receives_plain, some_mapped, starts_receive_plain, waits_plain}
use Rattle.closing.proofs.walk.Walk.is_plain.Goals as goal

pub returns-in-Sends : goal.returns-in-Sends
returns-in-Sends c = λ known spot meets.
    other_as spot c.args.at.now.came_back c.args.it.now _ c.args.self.now c.in-Sends.is (record { none = λ records. refl; idle = λ progress. refl })

pub returns-in-StartsSend : goal.returns-in-StartsSend
returns-in-StartsSend c = λ known spot meets.
    other_as spot c.args.at.now.came_back c.args.it.now _ c.args.self.now c.in-StartsSend.is (record { none = λ records. refl; idle = λ progress. refl })

pub returns-in-Receives : goal.returns-in-Receives
returns-in-Receives c = λ known spot meets.
    let awaited = awaited_view c.in-Receives.awaited in
    let em : option_map message_view c.message_of.result ≡ message_of awaited spot.got = c.message_of.ensures ∙ ap (message_of awaited) meets.at.got in
    called_as spot c.args.at.now.came_back c.args.it.now _ (Ok false) c.args.self.now c.args.self.now c.in-Receives.is
    (receives_plain spot c.args.at.now.came_back (leaves.Sink None) awaited c.args.self.now (c.are_none.ensures c.if-not-are_none.false)
    (sym (ap is_some em) ∙ some_mapped message_view c.message_of.result (sym c.is_some.ensures ∙ known)))

pub returns-in-StartsReceive : goal.returns-in-StartsReceive
returns-in-StartsReceive c = λ known spot meets.
    let own = c.in-StartsReceive.own in
    let awaited = awaited_view c.unless_moved-awaited.result in
    let done = done_of spot.lines own in
    let ed : option_map message_view c.message.result ≡ done =
    c.message.ensures ∙ ap (λ (lines : List Line). message_by lines (outcome_at c.args.self.now.requests.outcomes own)) (sym meets.lines) ∙ meets.tells.done own in
    let em : option_map message_view c.message_of-in-StartsReceive.result ≡ message_of awaited done = c.message_of-in-StartsReceive.ensures ∙ ap (message_of awaited) ed in
    called_as spot c.args.at.now.came_back c.args.it.now _ (Ok false) c.args.self.now c.args.self.now c.in-StartsReceive.is
    (sunk_receive_as spot c.args.at.now.came_back own _ _ (Ok false) c.args.self.now c.args.self.now (c.unless_moved-awaited.ensures spot.lines meets.tells)
    (starts_receive_plain spot c.args.at.now.came_back own awaited c.args.self.now (c.are_none.ensures c.if-not-are_none.false)
    (sym (ap is_some em) ∙ some_mapped message_view c.message_of-in-StartsReceive.result (sym c.is_some-in-StartsReceive.ensures ∙ known))))

pub returns-in-Waits : goal.returns-in-Waits
returns-in-Waits c = λ known spot meets.
    called_as spot c.args.at.now.came_back c.args.it.now _ (Ok false) c.args.self.now c.args.self.now c.in-Waits.is
    (waits_plain spot c.args.at.now.came_back (naturals_in c.in-Waits.field-0.now) c.args.self.now (c.are_none.ensures c.if-not-are_none.false))

pub returns-in-Collects : goal.returns-in-Collects
returns-in-Collects c = λ known spot meets.
    other_as spot c.args.at.now.came_back c.args.it.now _ c.args.self.now c.in-Collects.is (record { none = λ records. refl; idle = λ progress. refl })
