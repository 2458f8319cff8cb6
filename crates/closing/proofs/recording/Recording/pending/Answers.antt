-- The call in which the rank was, by what is kept of it.
use Rattle.std.proofs.Common.{◌≡◌, ◌∙◌, ◌<◌, None, Some, ap, length, subst}
use Rattle.closing.specs.Fit.{IsFit}
use Rattle.closing.specs.Pending.{PendingCall, pending_of, pending_said}
use Rattle.closing.specs.Recordings.{RecordingView, count_at}
use Rattle.closing.proofs.RankwiseLemmas.{got_none, got_walk, no_rank, pending_of_walk}
use Rattle.closing.proofs.recording.Recording.pending.Goals as goal

pub returns-in-Some : goal.returns-in-Some
returns-in-Some c =
    let at =
    got_walk c.deref.result.now c.self.inside.walks.items c.from.result c.args.rank c.in-Some.walk.now c.deref.ensures.value c.from.ensures c.in-Some.ensures.lookup.3 in
    subst (λ (it : RecordingView). IsFit it.run it.choice → c.args.rank < length it.run → count_at it.left c.args.rank ≡ 0 → Some (pending_said c.pending.result.now) ≡ Some (pending_of it.run it.choice c.args.rank)) c.self.view_is
    (λ fit h none. ap (λ (it : PendingCall). Some it) (ap pending_said c.pending.ensures ∙ pending_of_walk c.self.inside.ranks c.self.inside.journals.items c.self.inside.choice c.self.inside.run c.self.inside.walks.items c.self.invariant c.args.rank c.in-Some.walk.now at fit none))

pub returns-in-None : goal.returns-in-None
returns-in-None c =
    let at = got_none c.deref.result.now c.self.inside.walks.items c.from.result c.args.rank c.deref.ensures.value c.from.ensures c.in-None.ensures.lookup.3 in
    subst (λ (it : RecordingView). IsFit it.run it.choice → c.args.rank < length it.run → count_at it.left c.args.rank ≡ 0 → None ≡ Some (pending_of it.run it.choice c.args.rank)) c.self.view_is
    (λ fit h none. absurd (no_rank c.self.inside.ranks c.self.inside.journals.items c.self.inside.choice c.self.inside.run c.self.inside.walks.items c.self.invariant c.args.rank at h))
