-- One more rank is listed.
use Rattle.std.proofs.Common.{◌≡◌, ◌∙◌, ◌++◌, ◌∷◌, ◌+◌, [], ℕ, List, ap, sym, refl}
use Rattle.std.specs.List.{range_with_len}
use Rattle.closing.proofs.PlaceListLemmas.{ranks_step}
use Rattle.closing.proofs.keys.push_ranks.Goals as goal

assoc : (xs ys zs : List ℕ) → (xs ++ ys) ++ zs ≡ xs ++ (ys ++ zs)
assoc [] ys zs = refl
assoc (x ∷ xs) ys zs = ap (λ (others : List ℕ). x ∷ others) (assoc xs ys zs)

pub loop-rank-preserved : goal.loop-rank-preserved
loop-rank-preserved c =
    let rank = c.loop-rank.rank in
    let before = c.args.into.now.items in
    c.in_ok-push.ensures.items ∙ ap (λ (xs : List ℕ). xs ++ rank ∷ []) c.loop-rank.invariant
    ∙ assoc before (range_with_len 0 rank) (rank ∷ [])
    ∙ ap (λ (xs : List ℕ). before ++ xs) (sym (ranks_step rank (rank + 1) refl))
