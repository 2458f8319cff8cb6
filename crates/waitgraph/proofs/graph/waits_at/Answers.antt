use Rattle.std.proofs.Common.{◌≡◌, ℕ, ◌+◌, List, [], ◌∷◌, ◌++◌, map, sym, ◌∙◌, arith}
use Rattle.std.specs.List.{range_with_len}
use Rattle.std.proofs.lemmas.List.FromFn.{map-range_with_len_more}
use Rattle.moves.specs.declared.need.Need.{Need}
use Rattle.waitgraph.specs.Stuck.{unmet_at}
use Rattle.waitgraph.proofs.graph.waits_at.Goals as goal

-- one rank more
one_more : (f : ℕ → List Need) (rank : ℕ) (waits later : List (List Need)) (unmet : List Need) → waits ≡ map f (range_with_len 0 rank) → unmet ≡ f rank → later ≡ waits ++ unmet ∷ [] → later ≡ map f (range_with_len 0 (rank + 1))
one_more f rank waits later unmet so_far here pushed =
    rw (pushed, so_far, here) (sym (map-range_with_len_more f 0 rank rank (omega arith)))

pub loop-rank-preserved : goal.loop-rank-preserved
loop-rank-preserved c =
    one_more (unmet_at c.args.world.now.reading c.args.world.now.pairs.groups c.args.world.now.pairs.recording c.args.stands.now) c.loop-rank.rank c.loop-rank.waits _ _
    c.loop-rank.invariant (c.deref.ensures.value ∙ c.in_ok-unmet_at.ensures) c.in_ok-push.ensures
