-- The communicators are kept by the places of their keys.
use Rattle.std.proofs.Common.{◌≡◌, ◌<◌, length, subst}
use Rattle.closing.specs.Fit.{IsFit}
use Rattle.closing.specs.Groups.{groups_in}
use Rattle.closing.specs.Recording.{recording_of}
use Rattle.closing.specs.Recordings.{RecordingView}
use Rattle.closing.proofs.RecordedLemmas.{groups_kept}
use Rattle.closing.proofs.recording.Recording.communicators.Goals as goal

pub returns : goal.returns
returns c =
    subst (λ (it : RecordingView). IsFit it.run it.choice → 0 < length it.run → groups_in c.self.inside.run ≡ (recording_of it.run it.choice).groups) c.self.view_is
    (groups_kept c.self.inside.ranks c.self.inside.journals.items c.self.inside.choice c.self.inside.run c.self.inside.walks.items c.self.invariant)
