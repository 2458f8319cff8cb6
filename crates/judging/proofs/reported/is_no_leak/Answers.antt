-- Whether the finding's rank freed what its list starts there.
use Rattle.std.proofs.Common.{◌≡◌, ◌∙◌, ◌||◌, Bool, false, sym, ap}
use Rattle.findings.specs.declared.finding.Finding.{Finding}
use Rattle.closing.specs.Entries.{is_cut_off, journal_at}
use Rattle.closing.specs.Freed.{starts_freed}
use Rattle.closing.specs.Recording.{list_of}
use Rattle.lawful.proofs.ReadRuns.{fit_of_read}
use Rattle.judging.specs.Judging.{is_no_leak, is_left_out}
use Rattle.judging.proofs.ReportedLemmas.{other_stays}
use Rattle.judging.proofs.reported.is_no_leak.Goals as goal

pub returns-else-is_cut_off : goal.returns-else-is_cut_off
returns-else-is_cut_off c = λ done.
    let it = c.args.recording.now in
    let rank = c.in-Request.rank in
    let place = c.in-Request.place in
    let goes_on : is_cut_off (journal_at it.run rank) ≡ false = sym c.is_cut_off.ensures ∙ c.if-is_cut_off.false in
    c.starts_freed.ensures (fit_of_read it.run it.choice done.read) (done.over rank)
    ∙ sym (ap (λ (b : Bool). b || starts_freed it.run rank (list_of it.run it.choice rank) place) goes_on)
    ∙ ap (λ (finding : Finding). is_left_out (is_no_leak it.run it.choice) finding) (sym c.in-Request.is)

pub returns-in_default : goal.returns-in_default
returns-in_default c = λ done. other_stays (is_no_leak c.args.recording.now.run c.args.recording.now.choice) c.args.finding.now c.in_default.not-Request
