use Rattle.std.proofs.Common.{◌≡◌, ◌∙◌, ℕ, sym, ap, subst, Some}
use Rattle.arenaqueue.specs.Numbers.{list_at}
use Rattle.arenaqueue.specs.inner.Numbers.{first_of}
use Rattle.arenalist.specs.Arena.{Arena, first_node, IsFirst}
use Rattle.arenalist.proofs.EntryLemmas.{entries_at, entries_first}
use Rattle.arenalist.proofs.ArenaLemmas.{is_first, valued_in}
use Rattle.arenalist.proofs.lists.Lists.first.Goals as goal

pub returns-in-Some-clause-node : goal.returns-in-Some-clause-node
returns-in-Some-clause-node g c =
    let front : first_node (list_at c.args.self.now.lists c.args.list) ≡ first_of (list_at c.self.inside.links.lists c.args.list) =
    ap (λ (a : Arena g.row.T.Denot). first_node (list_at a.lists c.args.list)) (sym c.self.view_is)
    ∙ ap first_node (entries_at c.self.inside.values.items c.self.inside.links.lists c.args.list)
    ∙ entries_first c.self.inside.values.items (list_at c.self.inside.links.lists c.args.list) (valued_in _ _ _ _ _ _ c.args.list c.self.invariant) in
    ap (λ (n : ℕ). Some n) c.new.ensures ∙ sym c.in-Some.is ∙ c.first.ensures ∙ ap (λ (l : ℕ). first_of (list_at c.self.inside.links.lists l)) c.number.ensures ∙ sym front

pub returns-in-Some-clause-first : goal.returns-in-Some-clause-first
returns-in-Some-clause-first g c =
    let is : first_of (list_at c.self.inside.links.lists c.args.list) ≡ Some c.in-Some.node = ap (λ (l : ℕ). first_of (list_at c.self.inside.links.lists l)) (sym c.number.ensures) ∙ sym c.first.ensures ∙ c.in-Some.is in
    rw c.new.ensures (subst (λ (a : Arena g.row.T.Denot). IsFirst a.lists c.args.list c.in-Some.node) c.self.view_is (is_first _ _ _ _ _ _ c.args.list c.in-Some.node c.self.invariant is))
