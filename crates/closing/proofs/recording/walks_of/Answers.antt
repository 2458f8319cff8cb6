-- One list more, with its preface alone.
use Rattle.std.proofs.Common.{◌≡◌, ◌++◌, ◌∷◌, [], List, Some, ap, arith, length, length-append, map, refl, replicate, subst, sym}
use Rattle.std.specs.Prelude.{slice_get}
use Rattle.std.proofs.lemmas.Option.{slice_get_read}
use Rattle.closing.specs.inner.Rankwise.{AreFew, HaveWalks}
use Rattle.closing.specs.declared.walk.Walk.{Walk}
use Rattle.closing.proofs.RecordedLemmas.{begun_at, first_numbered, none_more, one_more_walk}
use Rattle.closing.proofs.recording.walks_of.Goals as goal

pub loop-rank-preserved : goal.loop-rank-preserved
loop-rank-preserved c =
    let journals = c.args.journals.now in
    let choice = c.args.choice in
    let rank = c.loop-rank.rank in
    let walks = c.loop-rank.walks.items in
    let old = c.loop-rank.run in
    let new = c.new.new.run in
    let walk = c.in_ok-walk.walk in
    let it = c.index-journals-rank.result in
    let there : slice_get journals rank ≡ Some it = slice_get_read journals (length journals) rank it refl (omega (arith, c.loop-rank-test.true)) c.index-journals-rank.is in
    let items : c.push.new.self.items ≡ walks ++ walk ∷ [] = c.in_ok-push.ensures.items in
    let begun =
    λ (few : AreFew journals). begun_at journals choice old new c.in_ok-place.place rank it c.as_ref-journal.result walk c.in_ok-place.ensures there c.as_ref-journal.ensures.value few
    c.in_ok-walk.ensures.rank c.in_ok-walk.ensures.before c.in_ok-walk.ensures.alone c.in_ok-walk.ensures.run c.in_ok-walk.ensures.walk in
    record {
      count = omega (arith, c.loop-rank.invariant.count, ap length items, length-append walks (walk ∷ []));
      handed = subst (λ (xs : List Walk). map (λ (one : Walk). one.handed) xs ≡ replicate (length xs) 0) (sym items)
          (none_more (λ one. one.handed) walks walk c.loop-rank.invariant.handed c.in_ok-walk.ensures.handed);
      before = subst (λ (xs : List Walk). map (λ (one : Walk). one.before) xs ≡ replicate (length xs) 0) (sym items)
          (none_more (λ one. one.before) walks walk c.loop-rank.invariant.before c.in_ok-walk.ensures.before);
      numbered = λ first few. first_numbered journals choice old new rank walk (begun few) (c.loop-rank.invariant.numbered first few);
      have = λ first few.
          subst (λ (xs : List Walk). HaveWalks journals choice new xs) (sym items)
          (one_more_walk journals choice old new walks rank walk c.loop-rank.invariant.count (c.loop-rank.invariant.numbered first few) (begun few)
          (c.loop-rank.invariant.have first few));
    }

pub returns-clause-walks : goal.returns-clause-walks
returns-clause-walks c few first = c.loop-rank.invariant.have first few
