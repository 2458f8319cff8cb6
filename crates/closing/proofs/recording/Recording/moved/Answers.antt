-- The line is that of the rank's journal, which is the one that is kept.
use Rattle.std.proofs.Common.{◌≡◌, ◌∙◌, List, [], Option, Some, None, ap, option_map, slice_get, subst, sym}
use Rattle.std.specs.Prelude.{option_and_then}
use Rattle.std.specs.Option.{option_copied}
use Rattle.journals.specs.Lines.{Line}
use Rattle.journals.specs.declared.journal.Journal.{Journal}
use Rattle.closing.specs.Entries.{journal_at, lines_at, lines_in}
use Rattle.closing.specs.Journals.{journal_in, run_in}
use Rattle.closing.specs.Moved.{moved_at}
use Rattle.closing.specs.Recordings.{RecordingView}
use Rattle.closing.specs.inner.RequestReports.{Tells}
use Rattle.closing.proofs.MovedLemmas.{journal_kept, none_of_none}
use Rattle.closing.proofs.recording.Recording.moved.Goals as goal

pub returns-in-Some : goal.returns-in-Some
returns-in-Some c =
    let run = run_in c.self.inside.journals.items in
    let lines : lines_at run c.args.rank ≡ c.in-Some.journal.now.lines =
    ap lines_in
    (sym (journal_kept c.self.inside.journals.items c.args.rank)
    ∙ sym (ap (λ (js : List (Option Journal)). option_map journal_in (option_and_then (λ it. it) (slice_get js c.args.rank))) c.deref.ensures.value)
    ∙ sym (ap (option_map journal_in) c.journal_of.ensures)
    ∙ ap (λ o. option_map journal_in (option_copied o)) c.in-Some.is) in
    subst (λ (view : RecordingView). Tells (lines_at view.run c.args.rank) c.args.outcomes.now → c.moved_at.result ≡ moved_at (lines_at view.run c.args.rank) c.args.number) c.self.view_is
    (subst (λ (ls : List Line). Tells ls c.args.outcomes.now → c.moved_at.result ≡ moved_at ls c.args.number) (sym lines) c.moved_at.ensures)

pub returns-in-None : goal.returns-in-None
returns-in-None c =
    let run = run_in c.self.inside.journals.items in
    let lines : lines_at run c.args.rank ≡ [] =
    ap lines_in
    (sym (journal_kept c.self.inside.journals.items c.args.rank)
    ∙ sym (ap (λ (js : List (Option Journal)). option_map journal_in (option_and_then (λ it. it) (slice_get js c.args.rank))) c.deref.ensures.value)
    ∙ sym (ap (option_map journal_in) c.journal_of.ensures)
    ∙ ap (λ o. option_map journal_in (option_copied o)) c.in-None.is) in
    λ told. subst (λ (view : RecordingView). None ≡ moved_at (lines_at view.run c.args.rank) c.args.number) c.self.view_is
    (subst (λ (ls : List Line). None ≡ moved_at ls c.args.number) (sym lines) (none_of_none c.args.number))
