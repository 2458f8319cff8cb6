-- By what becomes of it.
use Rattle.std.proofs.Common.{◌≡◌, refl, sym, ◌∙◌, ap, [], ◌∷◌, List, Some, None}
use Rattle.std.specs.Prelude.{is_some, option_map}
use Rattle.mpicall.specs.declared.call.Call.TheVariants.{Open}
use Rattle.closing.specs.Pending.{unknown}
use Rattle.closing.specs.Reported.{message_of}
use Rattle.closing.specs.Sinks.{GoesOn, Ends, is_met}
use Rattle.closing.specs.Steps.{Step, Starts, Whole}
use Rattle.closing.specs.inner.Lists.{start_call}
use Rattle.closing.specs.inner.Sunk.{exchange_pending, exchange_steps, exchanges_sunk, outcome_by_fate, sink_step, wants_both}
use Rattle.closing.specs.inner.Views.{awaited_view, message_view, sent_view}
use Rattle.closing.specs.declared.pending.Wanted.{Wanted}
use Rattle.closing.specs.declared.walk.sinks.Fate.{Fate}
use Rattle.closing.specs.declared.why.Why.TheVariants.{NeverCameBack}
use Rattle.std.specs.Prelude.{Option}
use Rattle.closing.proofs.SunkBlocks.{and_then_none, exchanges_is, fate_ends, fate_pends, fate_said, goes_by, halves_are, none_if, pends_goes, sent_peer_of, small_at, wants_both_spot, wants_none, wants_some}
use Rattle.closing.proofs.SunkWaits.{left_alone}
use Rattle.closing.proofs.walk.Walk.exchanges_sink.Goals as goal

pub returns-in_default-clause-takes : goal.returns-in_default-clause-takes
returns-in_default-clause-takes c = λ spot is line handed progress stands kept fits.
    let at = c.args.at.now in
    let awaited = awaited_view c.args.awaited.now in
    let sent = sent_view c.args.sent.now in
    let message = message_of awaited spot.got in
    let em : option_map message_view c.message_of-found.result ≡ message = c.message_of-found.ensures ∙ ap (message_of awaited) is.got in
    let e = wants_both_spot spot at c.wants_of_exchange.result sent awaited spot.got (option_map message_view c.message_of-found.result) is em (c.wants_of_exchange.ensures (small_at spot at is)) in
    left_alone spot.line at.came_back (exchanges_sunk spot at.came_back sent awaited message progress.records) (exchange_pending (wants_both spot.size spot.number sent awaited message) progress) unknown
    handed progress c.args.self.now
    (and_then_none _ (wants_both spot.size spot.number sent awaited message)
    (wants_none (is_some message) (wants_both spot.size spot.number sent awaited message) (none_if c.wants_of_exchange.result c.in_default.not-Some ∙ e))) refl stands kept

pub returns-in-Plain-clause-takes : goal.returns-in-Plain-clause-takes
returns-in-Plain-clause-takes c = λ spot is line handed progress stands kept fits.
    let at = c.args.at.now in
    let awaited = awaited_view c.args.awaited.now in
    let sent = sent_view c.args.sent.now in
    let message = message_of awaited spot.got in
    let em : option_map message_view c.message_of-found.result ≡ message = c.message_of-found.ensures ∙ ap (message_of awaited) is.got in
    let wants = c.in-Some.wants in
    let are = wants_some (is_some message) wants (wants_both spot.size spot.number sent awaited message)
    (wants_both_spot spot at (Some wants) sent awaited spot.got (option_map message_view c.message_of-found.result) is em (c.in-Some.ensures (small_at spot at is))) in
    let ef = fate_said progress.records c.args.self.now.sinks wants at.came_back at.is_past spot.is_past c.fate.result kept.sinks is.is_past c.fate.ensures in
    let both = exchange_steps spot wants.wanted sent wants.is_known in
    let by : exchanges_sunk spot at.came_back sent awaited message progress.records ≡ outcome_by_fate c.fate.result both both =
    exchanges_is spot at.came_back sent awaited message progress.records wants c.fate.result are ef in
    let sunk = exchanges_sunk spot at.came_back sent awaited message progress.records in
    let pending = exchange_pending (wants_both spot.size spot.number sent awaited message) progress in
    left_alone spot.line at.came_back sunk pending unknown handed progress c.args.self.now
    (by ∙ ap (λ (r : Fate). outcome_by_fate r both both) c.in-Plain.is) refl stands kept

pub returns-in-Sinks-clause-takes : goal.returns-in-Sinks-clause-takes
returns-in-Sinks-clause-takes c = λ spot is line handed progress stands kept fits.
    let at = c.args.at.now in
    let awaited = awaited_view c.args.awaited.now in
    let sent = sent_view c.args.sent.now in
    let message = message_of awaited spot.got in
    let em : option_map message_view c.message_of-found.result ≡ message = c.message_of-found.ensures ∙ ap (message_of awaited) is.got in
    let wants = c.in-Some.wants in
    let are = wants_some (is_some message) wants (wants_both spot.size spot.number sent awaited message)
    (wants_both_spot spot at (Some wants) sent awaited spot.got (option_map message_view c.message_of-found.result) is em (c.in-Some.ensures (small_at spot at is))) in
    let ef = fate_said progress.records c.args.self.now.sinks wants at.came_back at.is_past spot.is_past c.fate.result kept.sinks is.is_past c.fate.ensures in
    let both = exchange_steps spot wants.wanted sent wants.is_known in
    let by : exchanges_sunk spot at.came_back sent awaited message progress.records ≡ outcome_by_fate c.fate.result both both =
    exchanges_is spot at.came_back sent awaited message progress.records wants c.fate.result are ef in
    let sunk = exchanges_sunk spot at.came_back sent awaited message progress.records in
    let pending = exchange_pending (wants_both spot.size spot.number sent awaited message) progress in
    let steps = Starts (Whole c.args.self.now.line) (start_call c.start_of_send-start.result) ∷ sink_step None wants.wanted wants.is_known ∷ [] in
    let same : steps ≡ both = halves_are spot c.args.self.now.line wants.wanted sent wants.is_known c.start_of_send-start.result (sym line)
    (c.start_of_send-start.ensures (sent_peer_of spot sent awaited message wants.wanted is.small are.wanted)) in
    goes_by spot.line c.args.self.now.line at.came_back sunk pending unknown steps c.puts_halves.result handed progress c.args.self.now c.puts_halves.new.self line
    (by ∙ ap (λ (r : Fate). outcome_by_fate r both both) c.in-Sinks.is ∙ ap (λ (xs : List Step). Some (GoesOn xs)) (sym same)) c.puts_halves.ensures.takes stands kept fits

pub returns-in-Pends-clause-takes : goal.returns-in-Pends-clause-takes
returns-in-Pends-clause-takes c = λ spot is line handed progress stands kept fits.
    let at = c.args.at.now in
    let awaited = awaited_view c.args.awaited.now in
    let sent = sent_view c.args.sent.now in
    let message = message_of awaited spot.got in
    let em : option_map message_view c.message_of-found.result ≡ message = c.message_of-found.ensures ∙ ap (message_of awaited) is.got in
    let wants = c.in-Some.wants in
    let are = wants_some (is_some message) wants (wants_both spot.size spot.number sent awaited message)
    (wants_both_spot spot at (Some wants) sent awaited spot.got (option_map message_view c.message_of-found.result) is em (c.in-Some.ensures (small_at spot at is))) in
    let ef = fate_said progress.records c.args.self.now.sinks wants at.came_back at.is_past spot.is_past c.fate.result kept.sinks is.is_past c.fate.ensures in
    let both = exchange_steps spot wants.wanted sent wants.is_known in
    let by : exchanges_sunk spot at.came_back sent awaited message progress.records ≡ outcome_by_fate c.fate.result both both =
    exchanges_is spot at.came_back sent awaited message progress.records wants c.fate.result are ef in
    let sunk = exchanges_sunk spot at.came_back sent awaited message progress.records in
    let pending = exchange_pending (wants_both spot.size spot.number sent awaited message) progress in
    let steps = Starts (Whole c.args.self.now.line) (start_call c.start_of_send-start.result) ∷ sink_step None wants.wanted wants.is_known ∷ [] in
    let same : steps ≡ both = halves_are spot c.args.self.now.line wants.wanted sent wants.is_known c.start_of_send-start.result (sym line)
    (c.start_of_send-start.ensures (sent_peer_of spot sent awaited message wants.wanted is.small are.wanted)) in
    pends_goes spot.line c.args.self.now.line at.came_back sunk pending unknown (exchange_pending (Some wants.wanted)) steps c.pends_for_halves.result handed progress c.args.self.now c.pends_for_halves.new.self line
    (by ∙ ap (λ (r : Fate). outcome_by_fate r both both) c.in-Pends.is ∙ ap (λ (xs : List Step). Some (Ends xs Open (Some NeverCameBack))) (sym same))
    (fate_pends wants.is_known (is_met progress.records wants.wanted) at.came_back spot.is_past (sym ef ∙ c.in-Pends.is))
    (ap (λ (w : Option Wanted). exchange_pending w progress) (sym are.wanted)) c.pends_for_halves.ensures.takes stands kept fits

pub returns-in-Ends-clause-takes : goal.returns-in-Ends-clause-takes
returns-in-Ends-clause-takes c = λ spot is line handed progress stands kept fits.
    let at = c.args.at.now in
    let awaited = awaited_view c.args.awaited.now in
    let sent = sent_view c.args.sent.now in
    let message = message_of awaited spot.got in
    let em : option_map message_view c.message_of-found.result ≡ message = c.message_of-found.ensures ∙ ap (message_of awaited) is.got in
    let wants = c.in-Some.wants in
    let are = wants_some (is_some message) wants (wants_both spot.size spot.number sent awaited message)
    (wants_both_spot spot at (Some wants) sent awaited spot.got (option_map message_view c.message_of-found.result) is em (c.in-Some.ensures (small_at spot at is))) in
    let ef = fate_said progress.records c.args.self.now.sinks wants at.came_back at.is_past spot.is_past c.fate.result kept.sinks is.is_past c.fate.ensures in
    let both = exchange_steps spot wants.wanted sent wants.is_known in
    let by : exchanges_sunk spot at.came_back sent awaited message progress.records ≡ outcome_by_fate c.fate.result both both =
    exchanges_is spot at.came_back sent awaited message progress.records wants c.fate.result are ef in
    let sunk = exchanges_sunk spot at.came_back sent awaited message progress.records in
    let pending = exchange_pending (wants_both spot.size spot.number sent awaited message) progress in
    fate_ends wants.is_known (is_met progress.records wants.wanted) at.came_back spot.is_past c.in-Ends.why spot.line sunk pending unknown handed progress c.args.self.now
    (sym ef ∙ c.in-Ends.is) (by ∙ ap (λ (r : Fate). outcome_by_fate r both both) c.in-Ends.is) stands kept
