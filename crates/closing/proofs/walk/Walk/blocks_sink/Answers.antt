-- By what becomes of it.
use Rattle.std.proofs.Common.{◌≡◌, refl, sym, ◌∙◌, ap, subst, [], Some}
use Rattle.std.specs.Prelude.{is_some, option_map}
use Rattle.closing.specs.Pending.{PendingCall, unknown}
use Rattle.closing.specs.Reported.{message_of}
use Rattle.closing.specs.inner.Sunk.{IsSunkBy, blocks_sunk, message_pending, outcome_by_fate, steps_left, wants_in}
use Rattle.closing.specs.inner.Views.{awaited_view, message_view}
use Rattle.closing.specs.declared.walk.sinks.Fate.{Fate}
use Rattle.closing.proofs.SunkBlocks.{and_then_none, blocks_is, fate_ends, fate_pends, fate_said, goes_by, none_if, pends_alone, pends_sunk, small_at, wants_none, wants_some, wants_spot}
use Rattle.closing.proofs.SunkWaits.{left_alone}
use Rattle.closing.specs.Sinks.{is_met}
use Rattle.closing.proofs.walk.Walk.blocks_sink.Goals as goal

pub returns-in_default-clause-takes : goal.returns-in_default-clause-takes
returns-in_default-clause-takes c = λ spot is line handed progress stands kept fits.
    let at = c.args.at.now in
    let awaited = awaited_view c.args.awaited.now in
    let message = message_of awaited spot.got in
    let em : option_map message_view c.message_of-found.result ≡ message = c.message_of-found.ensures ∙ ap (message_of awaited) is.got in
    let e = wants_spot spot at c.wants_of.result awaited spot.got (option_map message_view c.message_of-found.result) is em (c.wants_of.ensures (small_at spot at is)) in
    left_alone spot.line at.came_back (blocks_sunk spot at.came_back c.args.leaves awaited message progress.records) (message_pending (wants_in spot.size spot.number awaited message)) unknown
    handed progress c.args.self.now
    (and_then_none _ (wants_in spot.size spot.number awaited message)
    (wants_none (is_some message) (wants_in spot.size spot.number awaited message) (none_if c.wants_of.result c.in_default.not-Some ∙ e))) refl stands kept

pub returns-in-Plain-clause-takes : goal.returns-in-Plain-clause-takes
returns-in-Plain-clause-takes c = λ spot is line handed progress stands kept fits.
    let at = c.args.at.now in
    let awaited = awaited_view c.args.awaited.now in
    let message = message_of awaited spot.got in
    let em : option_map message_view c.message_of-found.result ≡ message = c.message_of-found.ensures ∙ ap (message_of awaited) is.got in
    let wants = c.in-Some.wants in
    let are = wants_some (is_some message) wants (wants_in spot.size spot.number awaited message)
    (wants_spot spot at (Some wants) awaited spot.got (option_map message_view c.message_of-found.result) is em (c.in-Some.ensures (small_at spot at is))) in
    let ef = fate_said progress.records c.args.self.now.sinks wants at.came_back at.is_past spot.is_past c.fate.result kept.sinks is.is_past c.fate.ensures in
    let left = steps_left c.args.leaves wants.wanted wants.is_known in
    let by : blocks_sunk spot at.came_back c.args.leaves awaited message progress.records ≡ outcome_by_fate c.fate.result [] left =
    blocks_is spot at.came_back c.args.leaves awaited message progress.records wants c.fate.result are ef in
    let sunk = blocks_sunk spot at.came_back c.args.leaves awaited message progress.records in
    let pending = message_pending (wants_in spot.size spot.number awaited message) in
    left_alone spot.line at.came_back sunk pending unknown handed progress c.args.self.now
    (by ∙ ap (λ (r : Fate). outcome_by_fate r [] left) c.in-Plain.is) refl stands kept

pub returns-in-Sinks-clause-takes : goal.returns-in-Sinks-clause-takes
returns-in-Sinks-clause-takes c = λ spot is line handed progress stands kept fits.
    let at = c.args.at.now in
    let awaited = awaited_view c.args.awaited.now in
    let message = message_of awaited spot.got in
    let em : option_map message_view c.message_of-found.result ≡ message = c.message_of-found.ensures ∙ ap (message_of awaited) is.got in
    let wants = c.in-Some.wants in
    let are = wants_some (is_some message) wants (wants_in spot.size spot.number awaited message)
    (wants_spot spot at (Some wants) awaited spot.got (option_map message_view c.message_of-found.result) is em (c.in-Some.ensures (small_at spot at is))) in
    let ef = fate_said progress.records c.args.self.now.sinks wants at.came_back at.is_past spot.is_past c.fate.result kept.sinks is.is_past c.fate.ensures in
    let left = steps_left c.args.leaves wants.wanted wants.is_known in
    let by : blocks_sunk spot at.came_back c.args.leaves awaited message progress.records ≡ outcome_by_fate c.fate.result [] left =
    blocks_is spot at.came_back c.args.leaves awaited message progress.records wants c.fate.result are ef in
    let sunk = blocks_sunk spot at.came_back c.args.leaves awaited message progress.records in
    let pending = message_pending (wants_in spot.size spot.number awaited message) in
    goes_by spot.line c.args.self.now.line at.came_back sunk pending unknown left c.leaves.result handed progress c.args.self.now c.leaves.new.self line
    (by ∙ ap (λ (r : Fate). outcome_by_fate r [] left) c.in-Sinks.is) c.leaves.ensures.takes stands kept fits

pub returns-in-Pends-clause-takes : goal.returns-in-Pends-clause-takes
returns-in-Pends-clause-takes c = λ spot is line handed progress stands kept fits.
    let at = c.args.at.now in
    let awaited = awaited_view c.args.awaited.now in
    let message = message_of awaited spot.got in
    let em : option_map message_view c.message_of-found.result ≡ message = c.message_of-found.ensures ∙ ap (message_of awaited) is.got in
    let wants = c.in-Some.wants in
    let are = wants_some (is_some message) wants (wants_in spot.size spot.number awaited message)
    (wants_spot spot at (Some wants) awaited spot.got (option_map message_view c.message_of-found.result) is em (c.in-Some.ensures (small_at spot at is))) in
    let ef = fate_said progress.records c.args.self.now.sinks wants at.came_back at.is_past spot.is_past c.fate.result kept.sinks is.is_past c.fate.ensures in
    let left = steps_left c.args.leaves wants.wanted wants.is_known in
    let by : blocks_sunk spot at.came_back c.args.leaves awaited message progress.records ≡ outcome_by_fate c.fate.result [] left =
    blocks_is spot at.came_back c.args.leaves awaited message progress.records wants c.fate.result are ef in
    let sunk = blocks_sunk spot at.came_back c.args.leaves awaited message progress.records in
    let pending = message_pending (wants_in spot.size spot.number awaited message) in
    subst (λ (p : PendingCall). IsSunkBy spot.line at.came_back sunk p unknown c.pends_for.result handed progress c.pends_for.new.self) (sym (ap message_pending are.wanted))
    (pends_sunk spot.line at.came_back sunk (message_pending (Some wants.wanted)) unknown [] c.pends_for.result handed progress c.pends_for.new.self
    (by ∙ ap (λ (r : Fate). outcome_by_fate r [] left) c.in-Pends.is)
    (fate_pends wants.is_known (is_met progress.records wants.wanted) at.came_back spot.is_past (sym ef ∙ c.in-Pends.is))
    (pends_alone spot.line wants.wanted c.pends_for.result handed progress c.args.self.now c.pends_for.new.self c.pends_for.ensures.pends c.pends_for.ensures.same stands kept))

pub returns-in-Ends-clause-takes : goal.returns-in-Ends-clause-takes
returns-in-Ends-clause-takes c = λ spot is line handed progress stands kept fits.
    let at = c.args.at.now in
    let awaited = awaited_view c.args.awaited.now in
    let message = message_of awaited spot.got in
    let em : option_map message_view c.message_of-found.result ≡ message = c.message_of-found.ensures ∙ ap (message_of awaited) is.got in
    let wants = c.in-Some.wants in
    let are = wants_some (is_some message) wants (wants_in spot.size spot.number awaited message)
    (wants_spot spot at (Some wants) awaited spot.got (option_map message_view c.message_of-found.result) is em (c.in-Some.ensures (small_at spot at is))) in
    let ef = fate_said progress.records c.args.self.now.sinks wants at.came_back at.is_past spot.is_past c.fate.result kept.sinks is.is_past c.fate.ensures in
    let left = steps_left c.args.leaves wants.wanted wants.is_known in
    let by : blocks_sunk spot at.came_back c.args.leaves awaited message progress.records ≡ outcome_by_fate c.fate.result [] left =
    blocks_is spot at.came_back c.args.leaves awaited message progress.records wants c.fate.result are ef in
    let sunk = blocks_sunk spot at.came_back c.args.leaves awaited message progress.records in
    let pending = message_pending (wants_in spot.size spot.number awaited message) in
    fate_ends wants.is_known (is_met progress.records wants.wanted) at.came_back spot.is_past c.in-Ends.why spot.line sunk pending unknown handed progress c.args.self.now
    (sym ef ∙ c.in-Ends.is) (by ∙ ap (λ (r : Fate). outcome_by_fate r [] left) c.in-Ends.is) stands kept
