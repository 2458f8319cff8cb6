-- By whether it is a sink.
use Rattle.std.proofs.Common.{◌≡◌, refl, sym, ◌∙◌, ap, [], ◌∷◌, List, Some, None}
use Rattle.std.specs.Prelude.{is_some, option_map}
use Rattle.journals.specs.Lines.{Line}
use Rattle.closing.specs.Pending.{unknown}
use Rattle.closing.specs.Reported.{done_of, is_gone, message_of}
use Rattle.closing.specs.Sinks.{GoesOn}
use Rattle.closing.specs.inner.Outcomes.{message_by, outcome_at}
use Rattle.closing.specs.inner.Sunk.{sink_step, starts_receive_sunk, wants_in}
use Rattle.closing.specs.inner.Views.{awaited_view, message_view}
use Rattle.closing.proofs.SunkBlocks.{and_then_none, goes_by, if_not, if_so, none_if, sink_said, small_at, starts_is, wants_none, wants_some, wants_spot}
use Rattle.closing.proofs.SunkWaits.{left_alone}
use Rattle.closing.proofs.walk.Walk.starts_receive_sink.Goals as goal

pub returns-in_default-clause-takes : goal.returns-in_default-clause-takes
returns-in_default-clause-takes c = λ spot is line same tells handed progress stands kept fits.
    let at = c.args.at.now in
    let awaited = awaited_view c.args.awaited.now in
    let done = done_of spot.lines c.args.own in
    let message = message_of awaited done in
    let ed : option_map message_view c.message.result ≡ done =
    c.message.ensures ∙ ap (λ (lines : List Line). message_by lines (outcome_at c.args.self.now.requests.outcomes c.args.own)) (sym same) ∙ tells.done c.args.own in
    let em : option_map message_view c.message_of-found.result ≡ message = c.message_of-found.ensures ∙ ap (message_of awaited) ed in
    let e = wants_spot spot at c.wants_of.result awaited done (option_map message_view c.message_of-found.result) is em (c.wants_of.ensures (small_at spot at is)) in
    left_alone spot.line at.came_back (starts_receive_sunk spot c.args.own awaited message progress.records) unknown unknown handed progress c.args.self.now
    (and_then_none _ (wants_in spot.size spot.number awaited message)
    (wants_none (is_some message) (wants_in spot.size spot.number awaited message) (none_if c.wants_of.result c.in_default.not-Some ∙ e))) refl stands kept

pub returns-then-not-is_sink-clause-takes : goal.returns-then-not-is_sink-clause-takes
returns-then-not-is_sink-clause-takes c = λ spot is line same tells handed progress stands kept fits.
    let at = c.args.at.now in
    let awaited = awaited_view c.args.awaited.now in
    let done = done_of spot.lines c.args.own in
    let message = message_of awaited done in
    let ed : option_map message_view c.message.result ≡ done =
    c.message.ensures ∙ ap (λ (lines : List Line). message_by lines (outcome_at c.args.self.now.requests.outcomes c.args.own)) (sym same) ∙ tells.done c.args.own in
    let em : option_map message_view c.message_of-found.result ≡ message = c.message_of-found.ensures ∙ ap (message_of awaited) ed in
    let wants = c.in-Some.wants in
    let are = wants_some (is_some message) wants (wants_in spot.size spot.number awaited message)
    (wants_spot spot at (Some wants) awaited done (option_map message_view c.message_of-found.result) is em (c.in-Some.ensures (small_at spot at is))) in
    let ef = sink_said progress.records c.args.self.now.sinks wants _ (is_gone spot.lines c.args.own) c.is_sink.result kept.sinks (tells.gone c.args.own) c.is_sink.ensures in
    let by = starts_is spot c.args.own awaited message progress.records wants c.is_sink.result are ef in
    let sunk = starts_receive_sunk spot c.args.own awaited message progress.records in
    left_alone spot.line at.came_back sunk unknown unknown handed progress c.args.self.now
    (by ∙ if_not c.is_sink.result (Some (GoesOn (sink_step (Some c.args.own) wants.wanted wants.is_known ∷ []))) None c.if-not-is_sink.true) refl stands kept

pub returns-clause-takes : goal.returns-clause-takes
returns-clause-takes c = λ spot is line same tells handed progress stands kept fits.
    let at = c.args.at.now in
    let awaited = awaited_view c.args.awaited.now in
    let done = done_of spot.lines c.args.own in
    let message = message_of awaited done in
    let ed : option_map message_view c.message.result ≡ done =
    c.message.ensures ∙ ap (λ (lines : List Line). message_by lines (outcome_at c.args.self.now.requests.outcomes c.args.own)) (sym same) ∙ tells.done c.args.own in
    let em : option_map message_view c.message_of-found.result ≡ message = c.message_of-found.ensures ∙ ap (message_of awaited) ed in
    let wants = c.in-Some.wants in
    let are = wants_some (is_some message) wants (wants_in spot.size spot.number awaited message)
    (wants_spot spot at (Some wants) awaited done (option_map message_view c.message_of-found.result) is em (c.in-Some.ensures (small_at spot at is))) in
    let ef = sink_said progress.records c.args.self.now.sinks wants _ (is_gone spot.lines c.args.own) c.is_sink.result kept.sinks (tells.gone c.args.own) c.is_sink.ensures in
    let by = starts_is spot c.args.own awaited message progress.records wants c.is_sink.result are ef in
    let sunk = starts_receive_sunk spot c.args.own awaited message progress.records in
    goes_by spot.line c.args.self.now.line at.came_back sunk unknown unknown (sink_step (Some c.args.own) wants.wanted wants.is_known ∷ []) c.starts_sink.result handed progress c.args.self.now c.starts_sink.new.self line
    (by ∙ if_so c.is_sink.result (Some (GoesOn (sink_step (Some c.args.own) wants.wanted wants.is_known ∷ []))) None c.if-not-is_sink.false) c.starts_sink.ensures.takes stands kept fits
