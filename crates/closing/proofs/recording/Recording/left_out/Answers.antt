-- The entries of a rank that stand in no line of their own, by what is kept of them.
use Rattle.std.proofs.Common.{◌≡◌, ◌∙◌, ◌<◌, [], ap, length, map, subst}
use Rattle.std.specs.Prelude.{flat_map}
use Rattle.closing.specs.Fit.{IsFit}
use Rattle.closing.specs.Left.{left_by, left_said}
use Rattle.closing.specs.Recordings.{RecordingView, count_at, list_at}
use Rattle.closing.proofs.RankwiseLemmas.{got_none, got_walk, left_out_of_walk, no_rank}
use Rattle.closing.proofs.recording.Recording.left_out.Goals as goal

pub returns-in-Some : goal.returns-in-Some
returns-in-Some c =
    let at =
    got_walk c.deref.result.now c.self.inside.walks.items c.from.result c.args.rank c.in-Some.walk.now c.deref.ensures.value c.from.ensures c.in-Some.ensures.lookup.3 in
    subst (λ (it : RecordingView). IsFit it.run it.choice → c.args.rank < length it.run → count_at it.left c.args.rank ≡ 0 → map (left_said c.args.rank) c.left_out.result.now ≡ flat_map (left_by c.args.rank (list_at it c.args.rank)) (list_at it c.args.rank).records) c.self.view_is
    (λ fit h none. ap (map (left_said c.args.rank)) c.left_out.ensures ∙ left_out_of_walk c.self.inside.ranks c.self.inside.journals.items c.self.inside.choice c.self.inside.run c.self.inside.walks.items c.self.invariant c.args.rank c.in-Some.walk.now at fit none)

pub returns-in-None : goal.returns-in-None
returns-in-None c =
    let at = got_none c.deref.result.now c.self.inside.walks.items c.from.result c.args.rank c.deref.ensures.value c.from.ensures c.in-None.ensures.lookup.3 in
    subst (λ (it : RecordingView). IsFit it.run it.choice → c.args.rank < length it.run → count_at it.left c.args.rank ≡ 0 → [] ≡ flat_map (left_by c.args.rank (list_at it c.args.rank)) (list_at it c.args.rank).records) c.self.view_is
    (λ fit h none. absurd (no_rank c.self.inside.ranks c.self.inside.journals.items c.self.inside.choice c.self.inside.run c.self.inside.walks.items c.self.invariant c.args.rank at h))
