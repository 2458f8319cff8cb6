-- The run is that of the journals that are kept.
use Rattle.std.proofs.Common.{◌≡◌, ◌∙◌, List, Option, ap, subst, sym}
use Rattle.journals.specs.declared.journal.Journal.{Journal}
use Rattle.closing.specs.Entries.{is_window}
use Rattle.closing.specs.Journals.{run_in}
use Rattle.closing.specs.Recordings.{RecordingView}
use Rattle.closing.specs.inner.Rankwise.{AreFew}
use Rattle.closing.proofs.recording.Recording.is_window.Goals as goal

pub returns : goal.returns
returns c =
    let few : AreFew c.as_slice.result.now = subst (λ (js : List (Option Journal)). AreFew js) (sym c.as_slice.ensures.value) c.self.invariant.few in
    subst (λ (it : RecordingView). c.are_cut_off.result ≡ is_window it.run) c.self.view_is
    (c.are_cut_off.ensures few ∙ ap (λ (js : List (Option Journal)). is_window (run_in js)) c.as_slice.ensures.value)
