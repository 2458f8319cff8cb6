use Rattle.std.proofs.Common.{◌≡◌, ℕ, ◌+◌, ◌<◌, get_or, set, length, length-set, ap, ◌∙◌, arith}
use Rattle.std.proofs.lemmas.List.FromFn.{fill_by_all}
use Rattle.std.proofs.lemmas.List.Edits.{fill_by_more}
use Rattle.std.proofs.lemmas.Option.{unwrap_or-slice_get}
use Rattle.std.specs.Option.{unwrap_or}
use Rattle.mpigroup.specs.declared.limits.TheConstants.{MOST_RANKS}
use Rattle.moves.specs.Runs.{State}
use Rattle.moves.specs.Stands.{stands_of}
use Rattle.watches.specs.Stands.{shown_places}
use Rattle.watches.proofs.stands.Stands.set.Goals as goal

-- one more place is that of its rank
one_more : (stands places : State) (rank at stand : ℕ) → at ≡ rank → stand ≡ get_or stands rank 0 → rank < MOST_RANKS → length places ≡ MOST_RANKS → ((k : ℕ) → k < rank → get_or places k 0 ≡ get_or stands k 0) → (k : ℕ) → k < rank + 1 → get_or (set places at stand) k 0 ≡ get_or stands k 0
one_more stands places rank at stand here is below len so_far =
    rw (here, is) (fill_by_more (λ k. get_or stands k 0) places rank 0 (omega (arith, below, len)) so_far)

pub loop-rank-preserved : goal.loop-rank-preserved
loop-rank-preserved c =
    let stands = stands_of c.args.analyser.now.reading c.args.analyser.now.groups c.args.analyser.now.recording in
    let stand : c.unwrap_or.result ≡ get_or stands c.loop-rank.rank 0 =
    c.unwrap_or.ensures ∙ ap (λ found. unwrap_or found 0) c.stand.ensures
    ∙ unwrap_or-slice_get c.args.analyser.now.stands c.loop-rank.rank 0
    ∙ ap (λ (s : State). get_or s c.loop-rank.rank 0) c.stands_are_the_end.ensures.stands in record {
      len = length-set c.loop-rank.self.places c.from.result c.unwrap_or.result ∙ c.loop-rank.invariant.len;
      stands = one_more stands c.loop-rank.self.places c.loop-rank.rank c.from.result c.unwrap_or.result c.from.ensures stand c.loop-rank-test.true c.loop-rank.invariant.len c.loop-rank.invariant.stands;
    }

pub returns : goal.returns
unfolding shown_places
returns c = fill_by_all (λ k. get_or (stands_of c.args.analyser.now.reading c.args.analyser.now.groups c.args.analyser.now.recording) k 0) c.loop-rank.self.places MOST_RANKS 0 c.loop-rank.invariant.len (λ k below. c.loop-rank.invariant.stands k (omega (arith, below, c.loop-rank-test.false)))
