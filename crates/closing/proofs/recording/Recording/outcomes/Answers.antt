-- What came of the requests of the rank's journal, which is the one that is kept.
use Rattle.std.proofs.Common.{◌≡◌, ◌∙◌, ◌<◌, List, Option, Some, None, ap, length, option_map, slice_get, subst, sym}
use Rattle.std.specs.Prelude.{IfOk, option_and_then}
use Rattle.std.specs.Option.{option_copied}
use Rattle.journals.specs.declared.journal.Journal.{Journal}
use Rattle.closing.specs.Entries.{journal_at, lines_at}
use Rattle.closing.specs.Fit.{IsFit}
use Rattle.closing.specs.Journals.{journal_in, run_in}
use Rattle.closing.specs.Recordings.{RecordingView}
use Rattle.closing.specs.inner.RequestReports.{Tells}
use Rattle.closing.proofs.MovedLemmas.{journal_kept, told_of, told_of_none}
use Rattle.closing.proofs.recording.Recording.outcomes.Goals as goal

pub returns-in-Some : goal.returns-in-Some
returns-in-Some c =
    let run = run_in c.self.inside.journals.items in
    let there : journal_at run c.args.rank ≡ Some (journal_in c.in-Some.journal.now) =
    sym (journal_kept c.self.inside.journals.items c.args.rank)
    ∙ sym (ap (λ (js : List (Option Journal)). option_map journal_in (option_and_then (λ it. it) (slice_get js c.args.rank))) c.deref.ensures.value)
    ∙ sym (ap (option_map journal_in) c.journal_of.ensures)
    ∙ ap (λ o. option_map journal_in (option_copied o)) c.in-Some.is in
    subst (λ (view : RecordingView). IfOk c.of.result (λ it. IsFit view.run view.choice → c.args.rank < length view.run → Tells (lines_at view.run c.args.rank) it)) c.self.view_is
    (told_of c.of.result run _ c.args.rank (journal_in c.in-Some.journal.now) there (c.self.invariant.few c.args.rank) c.of.ensures)

pub returns-in-None : goal.returns-in-None
returns-in-None c =
    let run = run_in c.self.inside.journals.items in
    let none : journal_at run c.args.rank ≡ None =
    sym (journal_kept c.self.inside.journals.items c.args.rank)
    ∙ sym (ap (λ (js : List (Option Journal)). option_map journal_in (option_and_then (λ it. it) (slice_get js c.args.rank))) c.deref.ensures.value)
    ∙ sym (ap (option_map journal_in) c.journal_of.ensures)
    ∙ ap (λ o. option_map journal_in (option_copied o)) c.in-None.is in
    λ fit within. subst (λ (view : RecordingView). Tells (lines_at view.run c.args.rank) c.empty.result) c.self.view_is (told_of_none c.empty.result run c.args.rank none c.empty.ensures)
