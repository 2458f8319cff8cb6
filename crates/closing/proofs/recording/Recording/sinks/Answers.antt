-- The sinks of a rank's list, by what is kept of them.
use Rattle.std.proofs.Common.{◌≡◌, ◌∙◌, ◌<◌, [], length, subst}
use Rattle.closing.specs.Fit.{IsFit}
use Rattle.closing.specs.Pending.{sinks_of}
use Rattle.closing.specs.Recordings.{RecordingView, count_at, list_at}
use Rattle.closing.proofs.RankwiseLemmas.{got_none, got_walk, no_rank, sinks_of_walk}
use Rattle.closing.proofs.recording.Recording.sinks.Goals as goal

pub returns-in-Some : goal.returns-in-Some
returns-in-Some c =
    let at =
    got_walk c.deref.result.now c.self.inside.walks.items c.from.result c.args.rank c.in-Some.walk.now c.deref.ensures.value c.from.ensures c.in-Some.ensures.lookup.3 in
    subst (λ (it : RecordingView). IsFit it.run it.choice → c.args.rank < length it.run → count_at it.left c.args.rank ≡ 0 → c.sinks.result.now ≡ sinks_of (list_at it c.args.rank)) c.self.view_is
    (λ fit h none. c.sinks.ensures ∙ sinks_of_walk c.self.inside.ranks c.self.inside.journals.items c.self.inside.choice c.self.inside.run c.self.inside.walks.items c.self.invariant c.args.rank c.in-Some.walk.now at fit none)

pub returns-in-None : goal.returns-in-None
returns-in-None c =
    let at = got_none c.deref.result.now c.self.inside.walks.items c.from.result c.args.rank c.deref.ensures.value c.from.ensures c.in-None.ensures.lookup.3 in
    subst (λ (it : RecordingView). IsFit it.run it.choice → c.args.rank < length it.run → count_at it.left c.args.rank ≡ 0 → [] ≡ sinks_of (list_at it c.args.rank)) c.self.view_is
    (λ fit h none. absurd (no_rank c.self.inside.ranks c.self.inside.journals.items c.self.inside.choice c.self.inside.run c.self.inside.walks.items c.self.invariant c.args.rank at h))
