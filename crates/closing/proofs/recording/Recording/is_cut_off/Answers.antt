-- The journal of the rank is the one that is kept.
use Rattle.std.proofs.Common.{◌≡◌, ◌∙◌, List, Option, arith, ap, length, option_map, slice_get, subst}
use Rattle.std.specs.Prelude.{option_and_then}
use Rattle.std.specs.Option.{option_copied}
use Rattle.journals.specs.declared.journal.Journal.{Journal}
use Rattle.closing.specs.Entries.{is_cut_off, journal_at, lines_in}
use Rattle.closing.specs.Journals.{journal_in, run_in}
use Rattle.closing.specs.Recordings.{RecordingView}
use Rattle.closing.specs.inner.Noted.{HavePlaces}
use Rattle.closing.proofs.MovedLemmas.{journal_kept}
use Rattle.closing.proofs.recording.Recording.is_cut_off.Goals as goal

pub returns : goal.returns
returns c =
    let there : option_map journal_in (option_copied c.journal_of.result) ≡ journal_at (run_in c.self.inside.journals.items) c.args.rank =
    ap (option_map journal_in) c.journal_of.ensures
    ∙ ap (λ (js : List (Option Journal)). option_map journal_in (option_and_then (λ it. it) (slice_get js c.args.rank))) c.deref.ensures.value
    ∙ journal_kept c.self.inside.journals.items c.args.rank in
    let short = c.self.invariant.few c.args.rank in
    let places : HavePlaces (lines_in (option_map journal_in (option_copied c.journal_of.result))) = omega (arith, short, ap (λ o. length (lines_in o)) there) in
    subst (λ (it : RecordingView). c.is_cut_off.result ≡ is_cut_off (journal_at it.run c.args.rank)) c.self.view_is (c.is_cut_off.ensures places ∙ ap is_cut_off there)
