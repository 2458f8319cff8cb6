-- An entry is taken by its call, or by the sinks before it, unless its list ends there.
use Rattle.std.proofs.Common.{◌≡◌, ◌∙◌, refl, sym, ap, subst, arith, ℕ, ◌<◌, true, false, Bool, List, [], ◌∷◌, length, map, take, Some, None, Ok, Result, Err}
use Rattle.mpicall.specs.declared.call.Call.TheVariants.{Finalize}
use Rattle.journals.specs.Journal.{Journal}
use Rattle.journals.specs.Known.{has_report}
use Rattle.journals.specs.declared.word.ReportWord.TheVariants as report
use Rattle.closing.specs.Called.{called}
use Rattle.closing.specs.Endings.{breaks_off}
use Rattle.closing.specs.Entries.{is_window}
use Rattle.closing.specs.Entry.{Choice, matched_message}
use Rattle.closing.specs.Fit.{AllFit, steps_in}
use Rattle.closing.specs.Recording.{is_end, outcome_in, outcome_of}
use Rattle.closing.specs.Recordings.{choice_in}
use Rattle.closing.specs.Sinks.{GoesOn, Outcome}
use Rattle.closing.specs.Steps.{Own, Step, WaitsForAll, WaitsForLate, after_step, after_steps}
use Rattle.closing.specs.inner.Holds.{HasComms}
use Rattle.closing.specs.inner.Lists.{ComesTo, Stands}
use Rattle.closing.specs.inner.Makers.{MayMake}
use Rattle.closing.specs.inner.RequestReports.{Tells}
use Rattle.closing.specs.inner.SoFar.{Entered, IsAtEntry, comms_at, placed_here}
use Rattle.closing.specs.inner.Standings.{message_for}
use Rattle.closing.specs.inner.Taken.{IsBack, IsKept, IsNotTaken, IsTakenBy, StopsKept}
use Rattle.closing.specs.inner.Views.{called_view}
use Rattle.closing.specs.inner.Walked.{Follows, LateCall, Meets, TakesCall, message_after}
use Rattle.closing.specs.inner.Walks.{spot_of}
use Rattle.closing.specs.declared.rank_comms.RankComms.{RankComms as CommsCode}
use Rattle.closing.specs.declared.list.List.{List as ListCode}
use Rattle.closing.specs.declared.list.TheConstants.{MOST_RECORDS}
use Rattle.closing.specs.declared.standing.Standing.{Standing}
use Rattle.closing.specs.declared.stop.Stop.{Stop}
use Rattle.closing.specs.declared.stop.Stop.TheVariants.{Left, Memory}
use Rattle.closing.specs.declared.walk.Walk.{Walk}
use Rattle.closing.specs.declared.why.Why.{Why}
use Rattle.closing.specs.declared.why.Why.TheVariants.{Failed}
use Rattle.closing.proofs.BackLemmas.{is_back}
use Rattle.closing.proofs.EntryCases.{breaks_entered, broken_why, end_entered, end_stops, failed_entered, memory_entered, none_of, not_long, not_unknown, past_both, taken_goes, taken_stops}
use Rattle.closing.proofs.EntryMeets.{ends_well, fit_entry, fits, follows, is_done, is_on, is_stopped, late_is, makes, meets, messages_are}
use Rattle.closing.proofs.FollowLemmas.{residual}
use Rattle.closing.proofs.OutcomeOfEntry.{broken_is, ended_is, failed_is}
use Rattle.closing.proofs.SinkOutcomes.{late_sunk}
use Rattle.closing.proofs.TableLemmas.{grows_same}
use Rattle.closing.proofs.TakenLemmas.{IsPlain, broken_plain, end_plain, failed_plain, final_stops, goes_taken, messages_sunk, plain_kept, plain_outcome, plain_stops, steps_taken, stops_unknown}
use Rattle.closing.proofs.TakenLemmas as by_sinks
use Rattle.closing.proofs.UnsunkLemmas.{StartNone, kept_as, kept_steps}
use Rattle.closing.proofs.UnsunkSteps.{outcome_unsunk}
use Rattle.closing.proofs.walk.Walk.take_called.Goals as goal

pub returns-in-Some-clause-entered : goal.returns-in-Some-clause-entered
returns-in-Some-clause-entered c = λ said heading handed progress is_call before ready.
    let s = c.args.self.now in
    let lines = c.args.lines.now in
    let e = c.args.entry.now in
    let it = c.args.it.now in
    let journal : Journal = record { heading = heading; lines = lines } in
    let placed = placed_here s.rank journal e.place e.word in
    let choice = choice_in s.choice in
    let call = before.is_entry.call in
    let same : called_view it ≡ placed.called = is_call.says in
    let still = grows_same c.args.run.now.keys before.comms.table_is in
    let breaks : breaks_off (is_window said) placed.called ≡ Some c.in-Some.why = ap (λ (w : Bool). breaks_off w placed.called) (sym before.numbered.window) ∙ ap (breaks_off c.args.run.now.is_window) (sym same) ∙ sym c.breaks_off.ensures ∙ c.in-Some.is in
    let plain = broken_plain said choice progress.records placed c.in-Some.why breaks in
    let is = plain ∙ broken_is said choice placed c.in-Some.why breaks in
    let why = broken_why (is_window said) placed.called c.in-Some.why breaks in
    is_stopped said choice placed handed progress c.args.run.now.keys c.args.run.now.keys e.reports.end s (Err (Left c.in-Some.why)) (Left c.in-Some.why) refl
    (subst (λ (one : Outcome). Entered (Err (Left c.in-Some.why)) one handed progress placed.line s.list) (sym plain) (breaks_entered said choice placed c.in-Some.why handed progress s.list breaks ready.stands))
    (λ other found. let one : c.in-Some.why ≡ other = cc (found) in
    subst (λ (w : Why). StopsKept said choice placed (outcome_in said choice progress.records placed) w progress s) one
    (stops_unknown said choice placed progress s ready.kept (outcome_in said choice progress.records placed) c.in-Some.why (not_unknown c.in-Some.why why) (not_long c.in-Some.why why) is))
    (λ some. still)

pub returns-in_err-waits_for-clause-entered : goal.returns-in_err-waits_for-clause-entered
returns-in_err-waits_for-clause-entered c = λ said heading handed progress is_call before ready.
    let s = c.args.self.now in
    let lines = c.args.lines.now in
    let e = c.args.entry.now in
    let it = c.args.it.now in
    let journal : Journal = record { heading = heading; lines = lines } in
    let placed = placed_here s.rank journal e.place e.word in
    let choice = choice_in s.choice in
    let call = before.is_entry.call in
    let same : called_view it ≡ placed.called = is_call.says in
    let still = grows_same c.args.run.now.keys before.comms.table_is in
    let is : is_end placed.called ≡ true = ap is_end (sym same) ∙ sym c.is_end.ensures ∙ c.if-is_end.true in
    let broken : breaks_off (is_window said) placed.called ≡ None = ap (λ (w : Bool). breaks_off w placed.called) (sym before.numbered.window) ∙ ap (breaks_off c.args.run.now.is_window) (sym same) ∙ sym c.breaks_off.ensures ∙ none_of c.breaks_off.result c.in_default.not-Some in
    let failed = ends_well said choice journal s.rank e.place e.word ready.fit before.there call is in
    let plain = end_plain said choice progress.records placed is in
    let ids = map Own c.as_slice.result.now in
    let list = c.waits_for.new.self in
    let kept = kept_as progress.records s (record s { list = list }) refl refl refl refl ready.kept in
    let stop = c.in_err-waits_for.field-0.0 in
    let comes : ComesTo {A = Unit {0}} (Err stop) handed (after_step progress placed.line (WaitsForAll ids)) placed.line list =
    subst (λ (r : Result (Unit {0}) Stop). ComesTo {A = Unit {0}} r handed (after_step progress placed.line (WaitsForAll ids)) placed.line list) c.in_err-waits_for.was
    (c.waits_for.ensures handed progress placed.line ready.stands) in
    let few : length progress.records < MOST_RECORDS = omega (arith, ready.stands.count, ready.stands.short) in
    let entered : Entered (Err stop) (outcome_in said choice progress.records placed) handed progress placed.line list =
    (subst (λ (one : Outcome). Entered (Err stop) one handed progress placed.line list) (sym plain) (end_stops (Unit {0}) said choice placed handed progress ids stop list broken is failed (ap (map Own) c.as_slice.ensures.value ∙ ready.late) comes)) in
    is_stopped said choice placed handed progress c.args.run.now.keys c.args.run.now.keys e.reports.end (record s { list = list }) c.from_residual.result stop
    (residual c.from_residual.result stop c.from_residual.ensures.1) entered
    (λ why found. final_stops said choice placed progress (record s { list = list }) kept (outcome_in said choice progress.records placed) handed (WaitsForLate ∷ []) Finalize why
    (subst (λ (one : Outcome). StartNone (steps_in one)) (sym plain) (outcome_unsunk said choice placed)) few (plain ∙ ended_is said choice placed broken is failed)
    (subst (λ (one : Stop). Entered (Err one) (outcome_in said choice progress.records placed) handed progress placed.line list) found entered))
    (λ some. still)

pub returns-then-is_end-clause-entered : goal.returns-then-is_end-clause-entered
returns-then-is_end-clause-entered c = λ said heading handed progress is_call before ready.
    let s = c.args.self.now in
    let lines = c.args.lines.now in
    let e = c.args.entry.now in
    let it = c.args.it.now in
    let journal : Journal = record { heading = heading; lines = lines } in
    let placed = placed_here s.rank journal e.place e.word in
    let choice = choice_in s.choice in
    let call = before.is_entry.call in
    let same : called_view it ≡ placed.called = is_call.says in
    let still = grows_same c.args.run.now.keys before.comms.table_is in
    let is : is_end placed.called ≡ true = ap is_end (sym same) ∙ sym c.is_end.ensures ∙ c.if-is_end.true in
    let broken : breaks_off (is_window said) placed.called ≡ None = ap (λ (w : Bool). breaks_off w placed.called) (sym before.numbered.window) ∙ ap (breaks_off c.args.run.now.is_window) (sym same) ∙ sym c.breaks_off.ensures ∙ none_of c.breaks_off.result c.in_default.not-Some in
    let failed = ends_well said choice journal s.rank e.place e.word ready.fit before.there call is in
    let plain = end_plain said choice progress.records placed is in
    let ids = map Own c.as_slice.result.now in
    let list = c.waits_for.new.self in
    let kept = kept_as progress.records s (record s { list = list }) refl refl refl refl ready.kept in
    let stands : Stands handed (after_step progress placed.line (WaitsForAll ids)) list =
    subst (λ (r : Result (Unit {0}) Stop). ComesTo {A = Unit {0}} r handed (after_step progress placed.line (WaitsForAll ids)) placed.line list) c.in_ok-waits_for.was
    (c.waits_for.ensures handed progress placed.line ready.stands) in
    is_done said choice placed handed progress c.args.run.now.keys c.args.run.now.keys e.reports.end (record s { list = list })
    (subst (λ (one : Outcome). Entered (Ok true) one handed progress placed.line list) (sym plain) (end_entered said choice placed handed progress ids list broken is failed (ap (map Own) c.as_slice.ensures.value ∙ ready.late) stands))
    (λ steps end why goes. kept_steps (record s { list = list }) placed.line progress steps
    (subst (λ (one : Outcome). StartNone (steps_in one)) (sym plain ∙ goes) (outcome_unsunk said choice placed)) kept)
    still

pub returns-then-entry-clause-entered : goal.returns-then-entry-clause-entered
returns-then-entry-clause-entered c = λ said heading handed progress is_call before ready.
    let s = c.args.self.now in
    let lines = c.args.lines.now in
    let e = c.args.entry.now in
    let it = c.args.it.now in
    let journal : Journal = record { heading = heading; lines = lines } in
    let placed = placed_here s.rank journal e.place e.word in
    let choice = choice_in s.choice in
    let call = before.is_entry.call in
    let same : called_view it ≡ placed.called = is_call.says in
    let still = grows_same c.args.run.now.keys before.comms.table_is in
    let broken : breaks_off (is_window said) placed.called ≡ None = ap (λ (w : Bool). breaks_off w placed.called) (sym before.numbered.window) ∙ ap (breaks_off c.args.run.now.is_window) (sym same) ∙ sym c.breaks_off.ensures ∙ none_of c.breaks_off.result c.in_default.not-Some in
    let going : is_end placed.called ≡ false = ap is_end (sym same) ∙ sym c.is_end.ensures ∙ c.if-is_end.false in
    let past = past_both (is_window said) placed.called broken going in
    let failed : has_report report.Failed placed.entry ≡ true = sym before.is_entry.reports.has_failed ∙ c.if-entry.true in
    let plain = failed_plain said choice progress.records placed broken failed in
    is_stopped said choice placed handed progress c.args.run.now.keys c.args.run.now.keys e.reports.end s (Err (Left Failed)) (Left Failed) refl
    (subst (λ (one : Outcome). Entered (Err (Left Failed)) one handed progress placed.line s.list) (sym plain) (failed_entered said choice placed handed progress s.list past failed ready.stands))
    (λ other found. let one : Failed ≡ other = cc (found) in
    subst (λ (w : Why). StopsKept said choice placed (outcome_in said choice progress.records placed) w progress s) one
    (stops_unknown said choice placed progress s ready.kept (outcome_in said choice progress.records placed) Failed (λ no. cc (no)) (λ no. cc (no))
    (plain ∙ failed_is said choice placed past failed)))
    (λ some. still)

pub returns-in_default-at-clause-entered : goal.returns-in_default-at-clause-entered
returns-in_default-at-clause-entered c = λ said heading handed progress is_call before ready.
    let s = c.args.self.now in
    let e = c.args.entry.now in
    let placed = placed_here s.rank (record { heading = heading; lines = c.args.lines.now }) e.place e.word in
    let choice = choice_in s.choice in
    is_stopped said choice placed handed progress c.args.run.now.keys c.at.new.run.keys e.reports.end c.at.new.self (Err Memory) Memory refl
    (memory_entered (outcome_in said choice progress.records placed) handed progress placed.line c.at.new.self.list)
    (λ why found. absurd (cc (found))) (λ some. absurd (some refl))

pub returns-in_err-is_taken-clause-entered : goal.returns-in_err-is_taken-clause-entered
returns-in_err-is_taken-clause-entered c = λ said heading handed progress is_call before ready.
    let s = c.args.self.now in
    let lines = c.args.lines.now in
    let e = c.args.entry.now in
    let it = c.args.it.now in
    let journal : Journal = record { heading = heading; lines = lines } in
    let placed = placed_here s.rank journal e.place e.word in
    let choice = choice_in s.choice in
    let call = before.is_entry.call in
    let same : called_view it ≡ placed.called = is_call.says in
    let broken : breaks_off (is_window said) placed.called ≡ None = ap (λ (w : Bool). breaks_off w placed.called) (sym before.numbered.window) ∙ ap (breaks_off c.args.run.now.is_window) (sym same) ∙ sym c.breaks_off.ensures ∙ none_of c.breaks_off.result c.in_default.not-Some in
    let going : is_end placed.called ≡ false = ap is_end (sym same) ∙ sym c.is_end.ensures ∙ c.if-is_end.false in
    let past = past_both (is_window said) placed.called broken going in
    let failed : has_report report.Failed placed.entry ≡ false = sym before.is_entry.reports.has_failed ∙ c.if-entry.false in
    let one = c.at.new.self in
    let mid = c.takes_sink.new.self in
    let kept = c.at.new.run in
    let spot = spot_of said choice placed in
    let is_at = c.in-Ok.ensures.at said heading before same (fit_entry said choice journal s.rank e.place e.word ready.fit before.there call) in
    let choice_is : choice_in one.choice ≡ choice = ap (λ (it : Walk). choice_in it.choice) c.at.ensures.same in
    let requests_are : one.requests ≡ s.requests = ap (λ (it : Walk). it.requests) c.at.ensures.same in
    let rank_is : one.rank ≡ s.rank = ap (λ (it : Walk). it.rank) c.at.ensures.same in
    let line_is : placed.line ≡ one.line = sym (ap (λ (it : Walk). it.line) c.at.ensures.same ∙ ready.line) in
    let tells : Tells lines one.requests.outcomes = subst (λ (it : Standing). Tells lines it.outcomes) (sym requests_are) ready.reported in
    let stands : Stands handed progress one.list = subst (λ (it : ListCode). Stands handed progress it) (sym (ap (λ (it : Walk). it.list) c.at.ensures.same)) ready.stands in
    let sinks_kept : IsKept progress.records one =
    kept_as progress.records s one rank_is (ap (λ (it : Walk). it.sinks) c.at.ensures.same) (ap (λ (it : Walk). it.pending) c.at.ensures.same) (ap (λ (it : Walk). it.left_out) c.at.ensures.same) ready.kept in
    let has : (request : ℕ) → message_for one.requests request ≡ matched_message (take e.place lines) request =
    λ request. ap (λ (it : Standing). message_for it request) requests_are ∙ ready.requests request in
    let met = meets said choice journal s.rank e.place e.word ready.fit before.there call kept one.requests c.in-Ok.at it is_at tells has same is_call.requests in
    let grows = c.in-Ok.ensures.grows said heading before same in
    let all_fit = fits said choice journal s.rank e.place e.word ready.fit before.there call handed progress ready.entries ready.tests in
    let taken : IsTakenBy said choice placed c.takes_sink.result handed progress mid =
    subst (λ (made : Choice). IsAtEntry said made placed kept c.in-Ok.at → placed.journal.lines ≡ lines → placed.line ≡ one.line → placed.called ≡ called_view it
    → breaks_off (is_window said) placed.called ≡ None → has_report report.Failed placed.entry ≡ false → IsBack placed → Meets (spot_of said made placed) lines one.requests c.in-Ok.at it
    → AllFit progress placed.line (steps_in (outcome_in said made progress.records placed)) → Stands handed progress one.list → IsKept progress.records one
    → IsTakenBy said made placed c.takes_sink.result handed progress mid) choice_is (c.takes_sink.ensures.taken said placed kept handed progress)
    is_at refl line_is (sym same) broken failed (is_back s.rank journal e.place e.word) met all_fit stands sinks_kept in
    let stop = c.in_err-is_taken.field-0.0 in
    let both = by_sinks.taken_stops said choice placed handed progress mid stop
    (subst (λ (r : Result Bool Stop). IsTakenBy said choice placed r handed progress mid) c.in_err-is_taken.was taken) in
    is_stopped said choice placed handed progress c.args.run.now.keys kept.keys e.reports.end mid c.from_residual-in_err-is_taken.result stop
    (residual c.from_residual-in_err-is_taken.result stop c.from_residual-in_err-is_taken.ensures.1) both.0 both.1 (λ some. grows)

pub returns-then-is_taken-clause-entered : goal.returns-then-is_taken-clause-entered
returns-then-is_taken-clause-entered c = λ said heading handed progress is_call before ready.
    let s = c.args.self.now in
    let lines = c.args.lines.now in
    let e = c.args.entry.now in
    let it = c.args.it.now in
    let journal : Journal = record { heading = heading; lines = lines } in
    let placed = placed_here s.rank journal e.place e.word in
    let choice = choice_in s.choice in
    let call = before.is_entry.call in
    let same : called_view it ≡ placed.called = is_call.says in
    let broken : breaks_off (is_window said) placed.called ≡ None = ap (λ (w : Bool). breaks_off w placed.called) (sym before.numbered.window) ∙ ap (breaks_off c.args.run.now.is_window) (sym same) ∙ sym c.breaks_off.ensures ∙ none_of c.breaks_off.result c.in_default.not-Some in
    let going : is_end placed.called ≡ false = ap is_end (sym same) ∙ sym c.is_end.ensures ∙ c.if-is_end.false in
    let past = past_both (is_window said) placed.called broken going in
    let failed : has_report report.Failed placed.entry ≡ false = sym before.is_entry.reports.has_failed ∙ c.if-entry.false in
    let one = c.at.new.self in
    let mid = c.takes_sink.new.self in
    let kept = c.at.new.run in
    let spot = spot_of said choice placed in
    let is_at = c.in-Ok.ensures.at said heading before same (fit_entry said choice journal s.rank e.place e.word ready.fit before.there call) in
    let choice_is : choice_in one.choice ≡ choice = ap (λ (it : Walk). choice_in it.choice) c.at.ensures.same in
    let requests_are : one.requests ≡ s.requests = ap (λ (it : Walk). it.requests) c.at.ensures.same in
    let rank_is : one.rank ≡ s.rank = ap (λ (it : Walk). it.rank) c.at.ensures.same in
    let line_is : placed.line ≡ one.line = sym (ap (λ (it : Walk). it.line) c.at.ensures.same ∙ ready.line) in
    let tells : Tells lines one.requests.outcomes = subst (λ (it : Standing). Tells lines it.outcomes) (sym requests_are) ready.reported in
    let stands : Stands handed progress one.list = subst (λ (it : ListCode). Stands handed progress it) (sym (ap (λ (it : Walk). it.list) c.at.ensures.same)) ready.stands in
    let sinks_kept : IsKept progress.records one =
    kept_as progress.records s one rank_is (ap (λ (it : Walk). it.sinks) c.at.ensures.same) (ap (λ (it : Walk). it.pending) c.at.ensures.same) (ap (λ (it : Walk). it.left_out) c.at.ensures.same) ready.kept in
    let has : (request : ℕ) → message_for one.requests request ≡ matched_message (take e.place lines) request =
    λ request. ap (λ (it : Standing). message_for it request) requests_are ∙ ready.requests request in
    let met = meets said choice journal s.rank e.place e.word ready.fit before.there call kept one.requests c.in-Ok.at it is_at tells has same is_call.requests in
    let grows = c.in-Ok.ensures.grows said heading before same in
    let all_fit = fits said choice journal s.rank e.place e.word ready.fit before.there call handed progress ready.entries ready.tests in
    let taken : IsTakenBy said choice placed c.takes_sink.result handed progress mid =
    subst (λ (made : Choice). IsAtEntry said made placed kept c.in-Ok.at → placed.journal.lines ≡ lines → placed.line ≡ one.line → placed.called ≡ called_view it
    → breaks_off (is_window said) placed.called ≡ None → has_report report.Failed placed.entry ≡ false → IsBack placed → Meets (spot_of said made placed) lines one.requests c.in-Ok.at it
    → AllFit progress placed.line (steps_in (outcome_in said made progress.records placed)) → Stands handed progress one.list → IsKept progress.records one
    → IsTakenBy said made placed c.takes_sink.result handed progress mid) choice_is (c.takes_sink.ensures.taken said placed kept handed progress)
    is_at refl line_is (sym same) broken failed (is_back s.rank journal e.place e.word) met all_fit stands sinks_kept in
    let comms : HasComms kept.keys one.comms (comms_at s.rank lines e.reports.end) = c.in-Ok.ensures.comms said heading before same in
    let taken_is : c.takes_sink.result ≡ Ok true = cc (c.in_ok-is_taken.was, c.if-is_taken.true) in
    let on = subst (λ (r : Result Bool Stop). IsTakenBy said choice placed r handed progress mid) taken_is taken in
    let late_before : map Own one.late.items ≡ progress.late = ap (λ (it : Walk). map Own it.late.items) c.at.ensures.same ∙ ready.late in
    let rank_mid : mid.rank ≡ s.rank = ap (λ (it : Walk). it.rank) c.takes_sink.ensures.same ∙ rank_is in
    let comms_mid : mid.comms ≡ one.comms = ap (λ (it : Walk). it.comms) c.takes_sink.ensures.same in
    let requests_mid : mid.requests ≡ one.requests = ap (λ (it : Walk). it.requests) c.takes_sink.ensures.same in
    is_on said choice placed handed progress c.args.run.now.keys kept.keys e.reports.end mid (goes_taken said choice placed handed progress mid on) grows
    (λ steps goes.
    let steps_are : on.steps ≡ steps = steps_taken said choice placed handed progress mid steps on goes in
    record {
      kept = subst (λ (xs : List Step). IsKept (after_steps progress placed.line xs).records mid) steps_are on.kept;
      comms = subst (λ (rank : ℕ). HasComms kept.keys mid.comms (comms_at rank lines e.reports.end)) (sym rank_mid)
          (subst (λ (it : CommsCode). HasComms kept.keys it (comms_at s.rank lines e.reports.end)) (sym comms_mid) comms);
      late_is = ap (λ (it : Walk). map Own it.late.items) c.takes_sink.ensures.same ∙ late_before ∙ sym (late_sunk said choice placed progress (GoesOn on.steps) on.is)
          ∙ ap (λ (xs : List Step). (after_steps progress placed.line xs).late) steps_are;
      requests = messages_are said choice journal s.rank e.place e.word ready.fit before.there call it e.reports.end one.requests mid.requests same before.is_entry.reports.end has
          (λ request. ap (λ (it : Standing). message_for it request) requests_mid
          ∙ sym (ap (λ one_called. message_after one_called (message_for one.requests) request) same
          ∙ messages_sunk said choice progress.records placed (GoesOn on.steps) on.is (message_for one.requests) request));
    })

pub returns-in_err-take-clause-entered : goal.returns-in_err-take-clause-entered
returns-in_err-take-clause-entered c = λ said heading handed progress is_call before ready.
    let s = c.args.self.now in
    let lines = c.args.lines.now in
    let e = c.args.entry.now in
    let it = c.args.it.now in
    let journal : Journal = record { heading = heading; lines = lines } in
    let placed = placed_here s.rank journal e.place e.word in
    let choice = choice_in s.choice in
    let call = before.is_entry.call in
    let same : called_view it ≡ placed.called = is_call.says in
    let broken : breaks_off (is_window said) placed.called ≡ None = ap (λ (w : Bool). breaks_off w placed.called) (sym before.numbered.window) ∙ ap (breaks_off c.args.run.now.is_window) (sym same) ∙ sym c.breaks_off.ensures ∙ none_of c.breaks_off.result c.in_default.not-Some in
    let going : is_end placed.called ≡ false = ap is_end (sym same) ∙ sym c.is_end.ensures ∙ c.if-is_end.false in
    let past = past_both (is_window said) placed.called broken going in
    let failed : has_report report.Failed placed.entry ≡ false = sym before.is_entry.reports.has_failed ∙ c.if-entry.false in
    let one = c.at.new.self in
    let mid = c.takes_sink.new.self in
    let kept = c.at.new.run in
    let spot = spot_of said choice placed in
    let is_at = c.in-Ok.ensures.at said heading before same (fit_entry said choice journal s.rank e.place e.word ready.fit before.there call) in
    let choice_is : choice_in one.choice ≡ choice = ap (λ (it : Walk). choice_in it.choice) c.at.ensures.same in
    let requests_are : one.requests ≡ s.requests = ap (λ (it : Walk). it.requests) c.at.ensures.same in
    let rank_is : one.rank ≡ s.rank = ap (λ (it : Walk). it.rank) c.at.ensures.same in
    let line_is : placed.line ≡ one.line = sym (ap (λ (it : Walk). it.line) c.at.ensures.same ∙ ready.line) in
    let tells : Tells lines one.requests.outcomes = subst (λ (it : Standing). Tells lines it.outcomes) (sym requests_are) ready.reported in
    let stands : Stands handed progress one.list = subst (λ (it : ListCode). Stands handed progress it) (sym (ap (λ (it : Walk). it.list) c.at.ensures.same)) ready.stands in
    let sinks_kept : IsKept progress.records one =
    kept_as progress.records s one rank_is (ap (λ (it : Walk). it.sinks) c.at.ensures.same) (ap (λ (it : Walk). it.pending) c.at.ensures.same) (ap (λ (it : Walk). it.left_out) c.at.ensures.same) ready.kept in
    let has : (request : ℕ) → message_for one.requests request ≡ matched_message (take e.place lines) request =
    λ request. ap (λ (it : Standing). message_for it request) requests_are ∙ ready.requests request in
    let met = meets said choice journal s.rank e.place e.word ready.fit before.there call kept one.requests c.in-Ok.at it is_at tells has same is_call.requests in
    let grows = c.in-Ok.ensures.grows said heading before same in
    let all_fit = fits said choice journal s.rank e.place e.word ready.fit before.there call handed progress ready.entries ready.tests in
    let taken : IsTakenBy said choice placed c.takes_sink.result handed progress mid =
    subst (λ (made : Choice). IsAtEntry said made placed kept c.in-Ok.at → placed.journal.lines ≡ lines → placed.line ≡ one.line → placed.called ≡ called_view it
    → breaks_off (is_window said) placed.called ≡ None → has_report report.Failed placed.entry ≡ false → IsBack placed → Meets (spot_of said made placed) lines one.requests c.in-Ok.at it
    → AllFit progress placed.line (steps_in (outcome_in said made progress.records placed)) → Stands handed progress one.list → IsKept progress.records one
    → IsTakenBy said made placed c.takes_sink.result handed progress mid) choice_is (c.takes_sink.ensures.taken said placed kept handed progress)
    is_at refl line_is (sym same) broken failed (is_back s.rank journal e.place e.word) met all_fit stands sinks_kept in
    let two = c.take.new.self in
    let none_taken : c.takes_sink.result ≡ Ok false = cc (c.in_ok-is_taken.was, c.if-is_taken.false) in
    let not_taken : IsNotTaken said choice placed handed progress mid =
    subst (λ (r : Result Bool Stop). IsTakenBy said choice placed r handed progress mid) none_taken taken in
    let rank_mid : mid.rank ≡ s.rank = ap (λ (it : Walk). it.rank) c.takes_sink.ensures.same ∙ rank_is in
    let requests_mid : mid.requests ≡ one.requests = ap (λ (it : Walk). it.requests) c.takes_sink.ensures.same in
    let choice_mid : choice_in mid.choice ≡ choice = ap (λ (it : Walk). choice_in it.choice) c.takes_sink.ensures.same ∙ choice_is in
    let met_mid : Meets spot lines mid.requests c.in-Ok.at it = subst (λ (standing : Standing). Meets spot lines standing c.in-Ok.at it) (sym requests_mid) met in
    let has_mid : (request : ℕ) → message_for mid.requests request ≡ matched_message (take e.place lines) request =
    λ request. ap (λ (it : Standing). message_for it request) requests_mid ∙ has request in
    let plain : IsPlain said choice placed handed progress mid two = record {
      past = past;
      failed = failed;
      not_taken = not_taken;
      rank = ap (λ (it : Walk). it.rank) c.take.ensures.same;
      sinks = ap (λ (it : Walk). it.sinks) c.take.ensures.same;
      pending = ap (λ (it : Walk). it.pending) c.take.ensures.same;
      left_out = ap (λ (it : Walk). it.left_out) c.take.ensures.same;
    } in
    let plain_is = plain_outcome said choice placed handed progress mid two plain in
    let may : MayMake spot kept mid.rank c.in-Ok.at it =
    subst (λ (rank : ℕ). MayMake spot kept rank c.in-Ok.at it) (sym rank_mid)
    (makes said choice journal s.rank e.place e.word ready.fit before.there call kept c.in-Ok.at it is_at same) in
    let takes : TakesCall {A = Unit {0}} choice spot (called_view it) c.take.result mid.list two.list =
    subst (λ (made : Choice). TakesCall {A = Unit {0}} made spot (called_view it) c.take.result mid.list two.list) choice_mid (c.take.ensures.takes spot met_mid may) in
    let list = follows said choice journal s.rank e.place e.word ready.fit before.there call handed progress ready.entries ready.tests (Unit {0}) it c.take.result mid.list two.list
    past failed same plain_is not_taken.stands takes in
    let stop = c.in_err-take.field-0.0 in
    let entered = taken_stops (Unit {0}) (outcome_of said choice placed) stop handed progress placed.line two.list
    (subst (λ (r : Result (Unit {0}) Stop). Follows {A = Unit {0}} (outcome_of said choice placed) r handed progress placed.line two.list) c.in_err-take.was list) in
    is_stopped said choice placed handed progress c.args.run.now.keys kept.keys e.reports.end two c.from_residual-in_err-take.result stop
    (residual c.from_residual-in_err-take.result stop c.from_residual-in_err-take.ensures.1)
    (subst (λ (one : Outcome). Entered (Err stop) one handed progress placed.line two.list) (sym plain_is) entered)
    (λ why found. plain_stops said choice placed handed progress mid two plain why
    (subst (λ (one : Stop). Entered (Err one) (outcome_of said choice placed) handed progress placed.line two.list) found entered))
    (λ some. grows)

pub returns-clause-entered : goal.returns-clause-entered
returns-clause-entered c = λ said heading handed progress is_call before ready.
    let s = c.args.self.now in
    let lines = c.args.lines.now in
    let e = c.args.entry.now in
    let it = c.args.it.now in
    let journal : Journal = record { heading = heading; lines = lines } in
    let placed = placed_here s.rank journal e.place e.word in
    let choice = choice_in s.choice in
    let call = before.is_entry.call in
    let same : called_view it ≡ placed.called = is_call.says in
    let broken : breaks_off (is_window said) placed.called ≡ None = ap (λ (w : Bool). breaks_off w placed.called) (sym before.numbered.window) ∙ ap (breaks_off c.args.run.now.is_window) (sym same) ∙ sym c.breaks_off.ensures ∙ none_of c.breaks_off.result c.in_default.not-Some in
    let going : is_end placed.called ≡ false = ap is_end (sym same) ∙ sym c.is_end.ensures ∙ c.if-is_end.false in
    let past = past_both (is_window said) placed.called broken going in
    let failed : has_report report.Failed placed.entry ≡ false = sym before.is_entry.reports.has_failed ∙ c.if-entry.false in
    let one = c.at.new.self in
    let mid = c.takes_sink.new.self in
    let kept = c.at.new.run in
    let spot = spot_of said choice placed in
    let is_at = c.in-Ok.ensures.at said heading before same (fit_entry said choice journal s.rank e.place e.word ready.fit before.there call) in
    let choice_is : choice_in one.choice ≡ choice = ap (λ (it : Walk). choice_in it.choice) c.at.ensures.same in
    let requests_are : one.requests ≡ s.requests = ap (λ (it : Walk). it.requests) c.at.ensures.same in
    let rank_is : one.rank ≡ s.rank = ap (λ (it : Walk). it.rank) c.at.ensures.same in
    let line_is : placed.line ≡ one.line = sym (ap (λ (it : Walk). it.line) c.at.ensures.same ∙ ready.line) in
    let tells : Tells lines one.requests.outcomes = subst (λ (it : Standing). Tells lines it.outcomes) (sym requests_are) ready.reported in
    let stands : Stands handed progress one.list = subst (λ (it : ListCode). Stands handed progress it) (sym (ap (λ (it : Walk). it.list) c.at.ensures.same)) ready.stands in
    let sinks_kept : IsKept progress.records one =
    kept_as progress.records s one rank_is (ap (λ (it : Walk). it.sinks) c.at.ensures.same) (ap (λ (it : Walk). it.pending) c.at.ensures.same) (ap (λ (it : Walk). it.left_out) c.at.ensures.same) ready.kept in
    let has : (request : ℕ) → message_for one.requests request ≡ matched_message (take e.place lines) request =
    λ request. ap (λ (it : Standing). message_for it request) requests_are ∙ ready.requests request in
    let met = meets said choice journal s.rank e.place e.word ready.fit before.there call kept one.requests c.in-Ok.at it is_at tells has same is_call.requests in
    let grows = c.in-Ok.ensures.grows said heading before same in
    let all_fit = fits said choice journal s.rank e.place e.word ready.fit before.there call handed progress ready.entries ready.tests in
    let taken : IsTakenBy said choice placed c.takes_sink.result handed progress mid =
    subst (λ (made : Choice). IsAtEntry said made placed kept c.in-Ok.at → placed.journal.lines ≡ lines → placed.line ≡ one.line → placed.called ≡ called_view it
    → breaks_off (is_window said) placed.called ≡ None → has_report report.Failed placed.entry ≡ false → IsBack placed → Meets (spot_of said made placed) lines one.requests c.in-Ok.at it
    → AllFit progress placed.line (steps_in (outcome_in said made progress.records placed)) → Stands handed progress one.list → IsKept progress.records one
    → IsTakenBy said made placed c.takes_sink.result handed progress mid) choice_is (c.takes_sink.ensures.taken said placed kept handed progress)
    is_at refl line_is (sym same) broken failed (is_back s.rank journal e.place e.word) met all_fit stands sinks_kept in
    let two = c.take.new.self in
    let none_taken : c.takes_sink.result ≡ Ok false = cc (c.in_ok-is_taken.was, c.if-is_taken.false) in
    let not_taken : IsNotTaken said choice placed handed progress mid =
    subst (λ (r : Result Bool Stop). IsTakenBy said choice placed r handed progress mid) none_taken taken in
    let rank_mid : mid.rank ≡ s.rank = ap (λ (it : Walk). it.rank) c.takes_sink.ensures.same ∙ rank_is in
    let requests_mid : mid.requests ≡ one.requests = ap (λ (it : Walk). it.requests) c.takes_sink.ensures.same in
    let choice_mid : choice_in mid.choice ≡ choice = ap (λ (it : Walk). choice_in it.choice) c.takes_sink.ensures.same ∙ choice_is in
    let met_mid : Meets spot lines mid.requests c.in-Ok.at it = subst (λ (standing : Standing). Meets spot lines standing c.in-Ok.at it) (sym requests_mid) met in
    let has_mid : (request : ℕ) → message_for mid.requests request ≡ matched_message (take e.place lines) request =
    λ request. ap (λ (it : Standing). message_for it request) requests_mid ∙ has request in
    let plain : IsPlain said choice placed handed progress mid two = record {
      past = past;
      failed = failed;
      not_taken = not_taken;
      rank = ap (λ (it : Walk). it.rank) c.take.ensures.same;
      sinks = ap (λ (it : Walk). it.sinks) c.take.ensures.same;
      pending = ap (λ (it : Walk). it.pending) c.take.ensures.same;
      left_out = ap (λ (it : Walk). it.left_out) c.take.ensures.same;
    } in
    let plain_is = plain_outcome said choice placed handed progress mid two plain in
    let may : MayMake spot kept mid.rank c.in-Ok.at it =
    subst (λ (rank : ℕ). MayMake spot kept rank c.in-Ok.at it) (sym rank_mid)
    (makes said choice journal s.rank e.place e.word ready.fit before.there call kept c.in-Ok.at it is_at same) in
    let takes : TakesCall {A = Unit {0}} choice spot (called_view it) c.take.result mid.list two.list =
    subst (λ (made : Choice). TakesCall {A = Unit {0}} made spot (called_view it) c.take.result mid.list two.list) choice_mid (c.take.ensures.takes spot met_mid may) in
    let list = follows said choice journal s.rank e.place e.word ready.fit before.there call handed progress ready.entries ready.tests (Unit {0}) it c.take.result mid.list two.list
    past failed same plain_is not_taken.stands takes in
    let comms : HasComms kept.keys one.comms (comms_at s.rank lines e.reports.end) = c.in-Ok.ensures.comms said heading before same in
    let late_before : map Own mid.late.items ≡ progress.late =
    ap (λ (it : Walk). map Own it.late.items) c.takes_sink.ensures.same ∙ ap (λ (it : Walk). map Own it.late.items) c.at.ensures.same ∙ ready.late in
    let late : LateCall choice spot (called_view it) mid.list mid.late.items two.late.items =
    subst (λ (made : Choice). LateCall made spot (called_view it) mid.list mid.late.items two.late.items) choice_mid (c.in_ok-take.ensures.late spot met_mid) in
    let rank_two : two.rank ≡ s.rank = ap (λ (it : Walk). it.rank) c.take.ensures.same ∙ rank_mid in
    let comms_two : two.comms ≡ one.comms = ap (λ (it : Walk). it.comms) c.take.ensures.same ∙ ap (λ (it : Walk). it.comms) c.takes_sink.ensures.same in
    is_on said choice placed handed progress c.args.run.now.keys kept.keys e.reports.end two
    (subst (λ (one : Outcome). Entered (Ok false) one handed progress placed.line two.list) (sym plain_is)
    (taken_goes (Unit {0}) c.in_ok-take.field-0 (outcome_of said choice placed) handed progress placed.line two.list
    (subst (λ (r : Result (Unit {0}) Stop). Follows {A = Unit {0}} (outcome_of said choice placed) r handed progress placed.line two.list) c.in_ok-take.was list)))
    grows (λ steps goes. record {
      kept = plain_kept said choice placed handed progress mid two plain steps (sym plain_is ∙ goes);
      comms = subst (λ (rank : ℕ). HasComms kept.keys two.comms (comms_at rank lines e.reports.end)) (sym rank_two)
          (subst (λ (it : CommsCode). HasComms kept.keys it (comms_at s.rank lines e.reports.end)) (sym comms_two) comms);
      late_is = late_is said choice journal s.rank e.place e.word ready.fit before.there call handed progress ready.entries ready.tests it mid.list mid.late.items two.late.items steps
          past failed same not_taken.stands late_before late (sym plain_is ∙ goes);
      requests = messages_are said choice journal s.rank e.place e.word ready.fit before.there call it e.reports.end mid.requests two.requests same before.is_entry.reports.end has_mid
          c.in_ok-take.ensures.messages;
    })
