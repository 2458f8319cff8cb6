-- Whether the record starts a freed request, by what is kept of the rank.
use Rattle.std.proofs.Common.{◌≡◌, ◌∙◌, ◌<◌, false, length, subst}
use Rattle.closing.specs.Fit.{IsFit}
use Rattle.closing.specs.Freed.{starts_freed}
use Rattle.closing.specs.Recordings.{RecordingView, count_at, list_at}
use Rattle.closing.proofs.RankwiseLemmas.{freed_of_none, freed_of_walk, got_none, got_walk}
use Rattle.closing.proofs.recording.Recording.starts_freed.Goals as goal

pub returns-in-Some : goal.returns-in-Some
returns-in-Some c =
    let at =
    got_walk c.deref.result.now c.self.inside.walks.items c.from.result c.args.rank c.in-Some.walk.now c.deref.ensures.value c.from.ensures c.in-Some.ensures.lookup.3 in
    subst (λ (it : RecordingView). IsFit it.run it.choice → (c.args.rank < length it.run → count_at it.left c.args.rank ≡ 0) → c.starts_freed.result ≡ starts_freed it.run c.args.rank (list_at it c.args.rank) c.args.place) c.self.view_is
    (λ fit none. c.starts_freed.ensures ∙ freed_of_walk c.self.inside.ranks c.self.inside.journals.items c.self.inside.choice c.self.inside.run c.self.inside.walks.items c.self.invariant c.args.rank c.args.place c.in-Some.walk.now at fit none)

pub returns-in-None : goal.returns-in-None
returns-in-None c =
    let at =
    got_none c.deref.result.now c.self.inside.walks.items c.from.result c.args.rank c.deref.ensures.value c.from.ensures c.in-None.ensures.lookup.3 in
    subst (λ (it : RecordingView). IsFit it.run it.choice → (c.args.rank < length it.run → count_at it.left c.args.rank ≡ 0) → false ≡ starts_freed it.run c.args.rank (list_at it c.args.rank) c.args.place) c.self.view_is
    (λ fit none. freed_of_none c.self.inside.ranks c.self.inside.journals.items c.self.inside.choice c.self.inside.run c.self.inside.walks.items c.self.invariant c.args.rank c.args.place at)
