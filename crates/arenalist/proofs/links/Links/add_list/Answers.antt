use Rattle.std.proofs.Common.{◌≡◌, ◌++◌, ◌∷◌, [], ◌∙◌, ℕ, List, Option, None, length, ap, arith}
use Rattle.arenalist.specs.inner.Links.{Linked}
use Rattle.arenalist.proofs.LinkLemmas.{links_listed}
use Rattle.arenalist.proofs.links.Links.add_list.Goals as goal

pub invariant_of-self-2 : goal.invariant_of-self-2
invariant_of-self-2 c =
    let head : c.len-head.result ≡ length c.self.inside.nexts.items = omega (arith, c.len-head.ensures, ap (length {A = ℕ}) c.in_ok-reserve_cells.ensures.nexts) in
    (links_listed _ _ _ _ _ _ _ _ c.len-head.result c.self.invariant head (c.push_reserved.ensures.items ∙ ap (λ (xs : List ℕ). xs ++ c.len-head.result ∷ []) c.in_ok-reserve.ensures.items) (c.push_reserved-2.ensures.items ∙ ap (λ (xs : List ℕ). xs ++ c.len-head.result ∷ []) c.in_ok-reserve_cells.ensures.nexts) (c.push_reserved-3.ensures.items ∙ ap (λ (xs : List ℕ). xs ++ c.len-head.result ∷ []) c.in_ok-reserve_cells.ensures.prevs) (c.push_reserved-4.ensures.items ∙ ap (λ (xs : List (Option ℕ)). xs ++ None ∷ []) c.in_ok-reserve_cells.ensures.owners) (omega (arith, c.in_ok-reserve_cells.ensures.few)) (omega (arith, c.len.ensures))).0

pub returns-clause-lists : goal.returns-clause-lists
returns-clause-lists c =
    let head : c.len-head.result ≡ length c.self.inside.nexts.items = omega (arith, c.len-head.ensures, ap (length {A = ℕ}) c.in_ok-reserve_cells.ensures.nexts) in
    (links_listed _ _ _ _ _ _ _ _ c.len-head.result c.self.invariant head (c.push_reserved.ensures.items ∙ ap (λ (xs : List ℕ). xs ++ c.len-head.result ∷ []) c.in_ok-reserve.ensures.items) (c.push_reserved-2.ensures.items ∙ ap (λ (xs : List ℕ). xs ++ c.len-head.result ∷ []) c.in_ok-reserve_cells.ensures.nexts) (c.push_reserved-3.ensures.items ∙ ap (λ (xs : List ℕ). xs ++ c.len-head.result ∷ []) c.in_ok-reserve_cells.ensures.prevs) (c.push_reserved-4.ensures.items ∙ ap (λ (xs : List (Option ℕ)). xs ++ None ∷ []) c.in_ok-reserve_cells.ensures.owners) (omega (arith, c.in_ok-reserve_cells.ensures.few)) (omega (arith, c.len.ensures))).1
    ∙ ap (λ (a : Linked). a.lists ++ [] ∷ []) c.self.view_is
