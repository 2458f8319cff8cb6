-- Where an entry's call stands, by what is kept of the rank's communicators and of the run's.
use Rattle.std.proofs.Common.{◌≡◌, ◌∙◌, ◌+◌, ◌≤◌, ◌<◌, Option, Some, ap, arith, drop, length, option_map, subst, sym, ℕ}
use Rattle.std.specs.Prelude.{slice_get}
use Rattle.journals.specs.Journal.{Journal}
use Rattle.journals.specs.declared.word.ReportWord.TheVariants as report
use Rattle.closing.specs.Called.{Called, naturals_in}
use Rattle.closing.specs.Entries.{entries_at}
use Rattle.closing.specs.Entry.{is_past}
use Rattle.closing.specs.Made.{inferred_key, key_made, reported_key}
use Rattle.closing.specs.RankComms.{after_call, wave_next}
use Rattle.closing.specs.Recordings.{choice_in}
use Rattle.closing.specs.Reported.{message_in}
use Rattle.closing.specs.inner.Holds.{key_on}
use Rattle.closing.specs.inner.Noted.{came_back_at, first_report, reports_in}
use Rattle.closing.specs.inner.Numbered.{IsNumberedRun}
use Rattle.closing.specs.inner.SoFar.{comms_at, placed_here}
use Rattle.closing.specs.inner.Table.{IsPlaceOf, IsWaveOf}
use Rattle.closing.specs.inner.Views.{called_view}
use Rattle.closing.specs.declared.choice.Calls.{Calls}
use Rattle.closing.specs.declared.last.LastCall.{LastCall}
use Rattle.closing.specs.declared.numbers.Communicators.{Communicators}
use Rattle.closing.specs.declared.walk.Walk.{Walk}
use Rattle.closing.proofs.AtLemmas.{at_is, chose_is, comms_start, entry_among, got_is, key_named, key_reported, map_through, named_is, numbered_lines, place_there, rank_within}
use Rattle.closing.proofs.HoldsLemmas.{place_grows, wave_grows}
use Rattle.closing.proofs.KeptLemmas.{run_grows}
use Rattle.closing.proofs.LastLemmas.{came_back_of}
use Rattle.closing.proofs.PendingLemmas.{place_either}
use Rattle.closing.proofs.TableLemmas.{grows_on}
use Rattle.closing.proofs.walk.Walk.at.Goals as goal

pub returns-clause-comms : goal.returns-clause-comms
returns-clause-comms c = λ said heading is_before same.
    let rank = c.args.self.now.rank in
    let lines = c.args.lines.now in
    let e = c.args.entry.now in
    let call = is_before.is_entry.call in
    let on = c.key_on-on.ensures c.args.run.now.keys (comms_at rank lines e.place) is_before.comms in
    let has = c.in_ok-wave.ensures.comms (comms_at rank lines e.place) is_before.comms on in
    let below = place_there lines e.place e.word call in
    let few : length lines ≤ 4294967292 = is_before.few in
    let start : c.saturating_add-start.result ≡ e.place + 1 = omega arith in
    let first =
    comms_start rank lines e.place c.saturating_add-start.result e.word (called_view c.args.it.now) c.take_call.new.keys c.take_call.new.self call same start has in
    let end : e.reports.end ≡ c.saturating_add-start.result + length (reports_in (drop c.saturating_add-start.result lines)) =
    is_before.is_entry.reports.end ∙ ap (λ (n : ℕ). n + length (reports_in (drop n lines))) (sym start) in
    c.in_ok-reported.ensures.comms rank end first

pub returns-clause-grows : goal.returns-clause-grows
returns-clause-grows c = λ said heading is_before same.
    let rank = c.args.self.now.rank in
    let lines = c.args.lines.now in
    let e = c.args.entry.now in
    let call = is_before.is_entry.call in
    let on = c.key_on-on.ensures c.args.run.now.keys (comms_at rank lines e.place) is_before.comms in
    let has = c.in_ok-wave.ensures.comms (comms_at rank lines e.place) is_before.comms on in
    let below = place_there lines e.place e.word call in
    let few : length lines ≤ 4294967292 = is_before.few in
    let start : c.saturating_add-start.result ≡ e.place + 1 = omega arith in
    let first =
    comms_start rank lines e.place c.saturating_add-start.result e.word (called_view c.args.it.now) c.take_call.new.keys c.take_call.new.self call same start has in
    let end : e.reports.end ≡ c.saturating_add-start.result + length (reports_in (drop c.saturating_add-start.result lines)) =
    is_before.is_entry.reports.end ∙ ap (λ (n : ℕ). n + length (reports_in (drop n lines))) (sym start) in
    grows_on c.args.run.now.keys c.take_call.new.keys c.take_reports.new.run.keys (c.in_ok-wave.ensures.grows is_before.comms.table_is) (c.in_ok-reported.ensures.grows rank end first)

pub returns-clause-at : goal.returns-clause-at
returns-clause-at c = λ said heading is_before same fit.
    let rank = c.args.self.now.rank in
    let lines = c.args.lines.now in
    let e = c.args.entry.now in
    let call = is_before.is_entry.call in
    let on = c.key_on-on.ensures c.args.run.now.keys (comms_at rank lines e.place) is_before.comms in
    let has = c.in_ok-wave.ensures.comms (comms_at rank lines e.place) is_before.comms on in
    let below = place_there lines e.place e.word call in
    let few : length lines ≤ 4294967292 = is_before.few in
    let start : c.saturating_add-start.result ≡ e.place + 1 = omega arith in
    let first =
    comms_start rank lines e.place c.saturating_add-start.result e.word (called_view c.args.it.now) c.take_call.new.keys c.take_call.new.self call same start has in
    let end : e.reports.end ≡ c.saturating_add-start.result + length (reports_in (drop c.saturating_add-start.result lines)) =
    is_before.is_entry.reports.end ∙ ap (λ (n : ℕ). n + length (reports_in (drop n lines))) (sym start) in
    let grows1 = c.in_ok-wave.ensures.grows is_before.comms.table_is in
    let grows2 = c.in_ok-reported.ensures.grows rank end first in
    let placed = placed_here rank (record { heading = heading; lines = lines }) e.place e.word in
    let now = c.take_reports.new.run in
    let numbered =
    subst (λ (it : Communicators). IsNumberedRun said it) (sym c.take_reports.ensures.run)
    (run_grows said c.args.run.now now.keys is_before.numbered (grows_on c.args.run.now.keys c.take_call.new.keys now.keys grows1 grows2)) in
    let among = entry_among said rank (record { heading = heading; lines = lines }) e.place e.word call is_before.there in
    let within = rank_within said rank (record { heading = heading; lines = lines }) is_before.there in
    let own = c.own.ensures c.take_call.new.keys (after_call (comms_at rank lines e.place) (called_view c.args.it.now)) has in
    let there =
    key_named c.take_call.new.keys now.keys placed (called_view c.args.it.now) c.own.result c.key_on-on.result c.or-key.result same c.or-key.ensures grows2 own
    (place_grows c.args.run.now.keys c.take_call.new.keys c.key_on-on.result (key_on (comms_at rank lines e.place) (called_view c.args.it.now)) grows1 on) in
    let named =
    named_is said now placed among.0 c.or-key.result c.named_if.result numbered within among.1 there c.named_if.ensures.kept
    (λ key at f has known. c.named_if.ensures.known said key at numbered f has known) in
    let wave =
    subst (λ (one : Called). IsWaveOf now.keys c.in_ok-wave.wave (wave_next (comms_at rank lines e.place) one)) same
    (wave_grows c.take_call.new.keys now.keys c.in_ok-wave.wave (wave_next (comms_at rank lines e.place) (called_view c.args.it.now)) grows2
    (c.in_ok-wave.ensures.wave (comms_at rank lines e.place) is_before.comms on)) in
    let last_is : c.take_reports.new.self.last ≡ c.args.self.now.last = ap (λ (it : Walk). it.last) c.take_reports.ensures.same in
    let choice_is : c.take_reports.new.self.choice.calls ≡ c.args.self.now.choice.calls = ap (λ (it : Walk). it.choice.calls) c.take_reports.ensures.same in
    let back : placed.came_back ≡ c.came_back.result =
    came_back_of lines heading.is_outside c.args.self.now.last e.place e.word is_before.last call ∙ ap (λ (it : Option LastCall). came_back_at it e.place) (sym last_is)
    ∙ sym c.came_back.ensures in
    let past =
    c.is_past.ensures placed
    (came_back_of lines heading.is_outside c.args.self.now.last e.place e.word is_before.last call ∙ ap (λ (it : Option LastCall). came_back_at it e.place) (sym last_is))
    ∙ ap (λ (it : Calls). is_past it placed) choice_is in
    let got = c.message_in.ensures ∙ ap message_in c.fields_at.ensures ∙ got_is lines e.reports.got (first_report report.Got placed.entry.reports) is_before.is_entry.reports.got in
    let chose =
    map_through (λ fields. fields.now) naturals_in c.fields_if.result
    ∙ ap (option_map naturals_in) (c.fields_if.ensures ∙ ap (option_map (λ line. line.fields)) is_before.is_entry.reports.chose)
    ∙ chose_is (first_report report.Chose placed.entry.reports) fit.chose in
    let journal : Journal = record { heading = heading; lines = lines } in
    let rank_is : c.take_reports.new.self.rank ≡ rank = ap (λ (it : Walk). it.rank) c.take_reports.ensures.same in
    let reported =
    key_reported rank journal e.place c.saturating_add-start.result e.word now.keys c.in_ok-reported.reported call start
    (c.in_ok-reported.ensures.made rank (numbered_lines said rank journal is_before.numbered.fit is_before.there) end first) in
    let inferred =
    c.inferred.ensures said placed among.0 numbered (subst (λ (n : ℕ). n < length said) (sym rank_is) within)
    (subst (λ (n : ℕ). slice_get (entries_at said n) among.0 ≡ Some placed) (sym rank_is) among.1) (sym same)
    (came_back_of lines heading.is_outside c.args.self.now.last e.place e.word is_before.last call ∙ ap (λ (it : Option LastCall). came_back_at it e.place) (sym last_is)) in
    let made =
    subst (λ (place : Option ℕ). IsPlaceOf now.keys place (key_made said placed)) (sym c.or.ensures)
    (place_either now.keys c.in_ok-reported.reported c.inferred.result (reported_key placed) (inferred_key said placed) reported inferred) in
    at_is said (choice_in c.args.self.now.choice) placed now _ numbered fit named wave back past got chose made
