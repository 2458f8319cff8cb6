use Rattle.std.proofs.Common.{◌≡◌, ◌<◌, ◌∙◌, ℕ, List, Some, sym, ap, subst, arith}
use Rattle.std.specs.Prelude.{IsSome}
use Rattle.arenaqueue.specs.Numbers.{list_at}
use Rattle.arenaqueue.specs.inner.Numbers.{count, after, first_of}
use Rattle.arenalist.specs.Arena.{Arena, value_in, first_node, behind}
use Rattle.arenalist.specs.inner.Slots.{entries}
use Rattle.arenaqueue.proofs.NumberLemmas.{count_after}
use Rattle.arenalist.proofs.EntryLemmas.{standing, standing_in, entries_at, entries_behind, entries_first}
use Rattle.arenalist.proofs.ArenaLemmas.{valued_in}
use Rattle.arenalist.proofs.lists.Lists.next.Goals as goal

pub next-requires : goal.next-requires
next-requires g c = rw c.number.ensures (standing c.self.inside.values.items c.args.node c.self.inside.links.lists (rw (← c.self.view_is) at c.requires))

pub returns-in-Some : goal.returns-in-Some
returns-in-Some g c l some =
    let list : List ℕ = list_at c.self.inside.links.lists l in
    let is : list_at c.args.self.now.lists l ≡ entries c.self.inside.values.items list = ap (λ (a : Arena g.row.T.Denot). list_at a.lists l) (sym c.self.view_is) ∙ entries_at c.self.inside.values.items c.self.inside.links.lists l in
    let there : 0 < count c.args.node list = standing_in c.self.inside.values.items c.args.node list (subst (λ (es : List (ℕ × g.row.T.Denot)). IsSome (value_in es c.args.node)) is some) in
    let valued = valued_in _ _ _ _ _ _ l c.self.invariant in
    ap (λ (n : ℕ). Some n) c.new.ensures
    ∙ sym c.in-Some.is
    ∙ c.next.ensures l (rw c.number.ensures there)
    ∙ ap (λ (n : ℕ). first_of (after n list)) c.number.ensures
    ∙ sym (ap (λ (es : List (ℕ × g.row.T.Denot)). first_node (behind es c.args.node)) is ∙ ap first_node (entries_behind c.self.inside.values.items c.args.node list valued) ∙ entries_first c.self.inside.values.items (after c.args.node list) (λ x some. valued x (omega (arith, some, count_after x c.args.node list))))

pub returns-in-None : goal.returns-in-None
returns-in-None g c l some =
    let list : List ℕ = list_at c.self.inside.links.lists l in
    let is : list_at c.args.self.now.lists l ≡ entries c.self.inside.values.items list = ap (λ (a : Arena g.row.T.Denot). list_at a.lists l) (sym c.self.view_is) ∙ entries_at c.self.inside.values.items c.self.inside.links.lists l in
    let there : 0 < count c.args.node list = standing_in c.self.inside.values.items c.args.node list (subst (λ (es : List (ℕ × g.row.T.Denot)). IsSome (value_in es c.args.node)) is some) in
    let valued = valued_in _ _ _ _ _ _ l c.self.invariant in
    sym c.in-None.is
    ∙ c.next.ensures l (rw c.number.ensures there)
    ∙ ap (λ (n : ℕ). first_of (after n list)) c.number.ensures
    ∙ sym (ap (λ (es : List (ℕ × g.row.T.Denot)). first_node (behind es c.args.node)) is ∙ ap first_node (entries_behind c.self.inside.values.items c.args.node list valued) ∙ entries_first c.self.inside.values.items (after c.args.node list) (λ x some. valued x (omega (arith, some, count_after x c.args.node list))))
