-- By whether its receive is a sink: its send is started, and then the sink.
use Rattle.std.proofs.Common.{◌≡◌, refl, sym, ◌∙◌, ap, subst, ℕ, [], ◌∷◌, ◌++◌, List, Option, Some, None, Ok}
use Rattle.std.specs.Prelude.{is_some, option_map}
use Rattle.mpicall.specs.declared.call.Call.{Call}
use Rattle.mpicall.specs.declared.call.Mode.TheVariants.{Standard}
use Rattle.journals.specs.Lines.{Line}
use Rattle.closing.specs.Entry.{start_send}
use Rattle.closing.specs.Fit.{AllFit}
use Rattle.closing.specs.Pending.{unknown}
use Rattle.closing.specs.Reported.{done_of, is_gone, message_of}
use Rattle.closing.specs.Sinks.{Outcome, GoesOn}
use Rattle.closing.specs.inner.Lists.{start_call}
use Rattle.closing.specs.inner.Outcomes.{message_by, outcome_at}
use Rattle.closing.specs.inner.Sunk.{TakesSteps, sink_step, starts_exchange_sunk, steps_if, wants_both}
use Rattle.closing.specs.inner.Views.{awaited_view, message_view, sent_view}
use Rattle.closing.specs.inner.Walks.{starts_at}
use Rattle.closing.specs.declared.walk.Walk.{Walk}
use Rattle.closing.proofs.EntryLemmas.{start_said}
use Rattle.closing.proofs.FollowLemmas.{residual}
use Rattle.closing.proofs.StepsLemmas.{fit_first}
use Rattle.closing.proofs.SunkBlocks.{and_then_none, halves_put, halves_stop_by, if_not, if_so, none_if, puts_sunk, sent_peer_of, sink_said, small_at, starts_both_is, wants_both_spot, wants_none, wants_some}
use Rattle.closing.proofs.SunkWaits.{left_alone}
use Rattle.closing.proofs.walk.Walk.starts_exchange_sink.Goals as goal

pub returns-in_default-clause-takes : goal.returns-in_default-clause-takes
returns-in_default-clause-takes c = λ spot is line same tells handed progress stands kept fits.
    let at = c.args.at.now in
    let own = c.args.it.now.own in
    let other = c.args.it.now.other in
    let sent = sent_view c.args.it.now.sent in
    let awaited = awaited_view c.args.it.now.awaited in
    let done = done_of spot.lines other in
    let message = message_of awaited done in
    let ed : option_map message_view c.message.result ≡ done =
    c.message.ensures ∙ ap (λ (lines : List Line). message_by lines (outcome_at c.args.self.now.requests.outcomes other)) (sym same) ∙ tells.done other in
    let em : option_map message_view c.message_of-found.result ≡ message = c.message_of-found.ensures ∙ ap (message_of awaited) ed in
    let e = wants_both_spot spot at c.wants_of_exchange.result sent awaited done (option_map message_view c.message_of-found.result) is em (c.wants_of_exchange.ensures (small_at spot at is)) in
    left_alone spot.line at.came_back (starts_exchange_sunk spot own other sent awaited message progress.records) unknown unknown handed progress c.args.self.now
    (and_then_none _ (wants_both spot.size spot.number sent awaited message)
    (wants_none (is_some message) (wants_both spot.size spot.number sent awaited message) (none_if c.wants_of_exchange.result c.in_default.not-Some ∙ e))) refl stands kept

pub returns-then-not-is_sink-clause-takes : goal.returns-then-not-is_sink-clause-takes
returns-then-not-is_sink-clause-takes c = λ spot is line same tells handed progress stands kept fits.
    let at = c.args.at.now in
    let own = c.args.it.now.own in
    let other = c.args.it.now.other in
    let sent = sent_view c.args.it.now.sent in
    let awaited = awaited_view c.args.it.now.awaited in
    let done = done_of spot.lines other in
    let message = message_of awaited done in
    let ed : option_map message_view c.message.result ≡ done =
    c.message.ensures ∙ ap (λ (lines : List Line). message_by lines (outcome_at c.args.self.now.requests.outcomes other)) (sym same) ∙ tells.done other in
    let em : option_map message_view c.message_of-found.result ≡ message = c.message_of-found.ensures ∙ ap (message_of awaited) ed in
    let wants = c.in-Some.wants in
    let are = wants_some (is_some message) wants (wants_both spot.size spot.number sent awaited message)
    (wants_both_spot spot at (Some wants) sent awaited done (option_map message_view c.message_of-found.result) is em (c.in-Some.ensures (small_at spot at is))) in
    let ef = sink_said progress.records c.args.self.now.sinks wants _ (is_gone spot.lines other) c.is_sink.result kept.sinks (tells.gone other) c.is_sink.ensures in
    let by = starts_both_is spot own other sent awaited message progress.records wants c.is_sink.result are ef in
    let sunk = starts_exchange_sunk spot own other sent awaited message progress.records in
    let said : (ℕ → Call) = start_send Standard wants.wanted.comm sent in
    let half = starts_at spot own said in
    let sink = sink_step (Some other) wants.wanted wants.is_known ∷ [] in
    left_alone spot.line at.came_back sunk unknown unknown handed progress c.args.self.now
    (by ∙ if_not c.is_sink.result (Some (GoesOn (half ++ sink))) None c.if-not-is_sink.true) refl stands kept

pub returns-in_err-starts_unless_gone-clause-takes : goal.returns-in_err-starts_unless_gone-clause-takes
returns-in_err-starts_unless_gone-clause-takes c = λ spot is line same tells handed progress stands kept fits.
    let at = c.args.at.now in
    let own = c.args.it.now.own in
    let other = c.args.it.now.other in
    let sent = sent_view c.args.it.now.sent in
    let awaited = awaited_view c.args.it.now.awaited in
    let done = done_of spot.lines other in
    let message = message_of awaited done in
    let ed : option_map message_view c.message.result ≡ done =
    c.message.ensures ∙ ap (λ (lines : List Line). message_by lines (outcome_at c.args.self.now.requests.outcomes other)) (sym same) ∙ tells.done other in
    let em : option_map message_view c.message_of-found.result ≡ message = c.message_of-found.ensures ∙ ap (message_of awaited) ed in
    let wants = c.in-Some.wants in
    let are = wants_some (is_some message) wants (wants_both spot.size spot.number sent awaited message)
    (wants_both_spot spot at (Some wants) sent awaited done (option_map message_view c.message_of-found.result) is em (c.in-Some.ensures (small_at spot at is))) in
    let ef = sink_said progress.records c.args.self.now.sinks wants _ (is_gone spot.lines other) c.is_sink.result kept.sinks (tells.gone other) c.is_sink.ensures in
    let by = starts_both_is spot own other sent awaited message progress.records wants c.is_sink.result are ef in
    let sunk = starts_exchange_sunk spot own other sent awaited message progress.records in
    let said : (ℕ → Call) = start_send Standard wants.wanted.comm sent in
    let half = starts_at spot own said in
    let sink = sink_step (Some other) wants.wanted wants.is_known ∷ [] in
    let goes : sunk ≡ Some (GoesOn (half ++ sink)) = by ∙ if_so c.is_sink.result (Some (GoesOn (half ++ sink))) None c.if-not-is_sink.false in
    let fit : AllFit progress spot.line (half ++ sink) = subst (λ (o : Option Outcome). AllFit progress spot.line (steps_if o)) goes fits in
    let call : start_call c.start_of_send-start.result ≡ said = c.start_of_send-start.ensures (sent_peer_of spot sent awaited message wants.wanted is.small are.wanted) in
    let gone = is_gone spot.lines own in
    let mid = c.starts_unless_gone.new.self in
    puts_sunk spot.line at.came_back sunk unknown unknown (half ++ sink) c.from_residual.result handed progress mid goes
    (halves_stop_by c.starts_unless_gone.result gone c.in_err-starts_unless_gone.field-0.0 c.from_residual.result spot.line own said (Some other) wants.wanted wants.is_known handed progress c.args.self.now mid
    c.in_err-starts_unless_gone.was (residual c.from_residual.result c.in_err-starts_unless_gone.field-0.0 c.from_residual.ensures.1) c.starts_unless_gone.ensures.same stands kept
    (start_said spot own c.start_of_send-start.result said c.starts_unless_gone.result c.args.self.now.list mid.list call (c.starts_unless_gone.ensures.takes spot tells) handed progress stands
    (fit_first progress spot.line half sink fit)))

pub returns-clause-takes : goal.returns-clause-takes
returns-clause-takes c = λ spot is line same tells handed progress stands kept fits.
    let at = c.args.at.now in
    let own = c.args.it.now.own in
    let other = c.args.it.now.other in
    let sent = sent_view c.args.it.now.sent in
    let awaited = awaited_view c.args.it.now.awaited in
    let done = done_of spot.lines other in
    let message = message_of awaited done in
    let ed : option_map message_view c.message.result ≡ done =
    c.message.ensures ∙ ap (λ (lines : List Line). message_by lines (outcome_at c.args.self.now.requests.outcomes other)) (sym same) ∙ tells.done other in
    let em : option_map message_view c.message_of-found.result ≡ message = c.message_of-found.ensures ∙ ap (message_of awaited) ed in
    let wants = c.in-Some.wants in
    let are = wants_some (is_some message) wants (wants_both spot.size spot.number sent awaited message)
    (wants_both_spot spot at (Some wants) sent awaited done (option_map message_view c.message_of-found.result) is em (c.in-Some.ensures (small_at spot at is))) in
    let ef = sink_said progress.records c.args.self.now.sinks wants _ (is_gone spot.lines other) c.is_sink.result kept.sinks (tells.gone other) c.is_sink.ensures in
    let by = starts_both_is spot own other sent awaited message progress.records wants c.is_sink.result are ef in
    let sunk = starts_exchange_sunk spot own other sent awaited message progress.records in
    let said : (ℕ → Call) = start_send Standard wants.wanted.comm sent in
    let half = starts_at spot own said in
    let sink = sink_step (Some other) wants.wanted wants.is_known ∷ [] in
    let goes : sunk ≡ Some (GoesOn (half ++ sink)) = by ∙ if_so c.is_sink.result (Some (GoesOn (half ++ sink))) None c.if-not-is_sink.false in
    let fit : AllFit progress spot.line (half ++ sink) = subst (λ (o : Option Outcome). AllFit progress spot.line (steps_if o)) goes fits in
    let call : start_call c.start_of_send-start.result ≡ said = c.start_of_send-start.ensures (sent_peer_of spot sent awaited message wants.wanted is.small are.wanted) in
    let gone = is_gone spot.lines own in
    let mid = c.starts_unless_gone.new.self in
    let lines : mid.line ≡ spot.line = ap (λ (walk : Walk). walk.line) c.starts_unless_gone.ensures.same ∙ sym line in
    puts_sunk spot.line at.came_back sunk unknown unknown (half ++ sink) c.starts_sink.result handed progress c.starts_sink.new.self goes
    (halves_put gone spot.line own said (Some other) wants.wanted wants.is_known c.starts_sink.result handed progress c.args.self.now mid c.starts_sink.new.self c.starts_unless_gone.ensures.same
    (start_said spot own c.start_of_send-start.result said (Ok c.in_ok-starts_unless_gone.field-0) c.args.self.now.list mid.list call (c.in_ok-starts_unless_gone.ensures.takes spot tells) handed progress stands
    (fit_first progress spot.line half sink fit))
    (subst (λ n. TakesSteps n sink c.starts_sink.result mid c.starts_sink.new.self) lines c.starts_sink.ensures.takes) kept fit)
