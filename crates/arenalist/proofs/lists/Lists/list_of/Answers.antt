use Rattle.std.proofs.Common.{◌≡◌, ◌<◌, ◌∙◌, ℕ, List, true, false, Some, None, refl, sym, ap, subst, arith}
use Rattle.std.specs.Prelude.{is_some, IsSome}
use Rattle.arenaqueue.specs.Numbers.{list_at}
use Rattle.arenaqueue.specs.inner.Numbers.{in_all, count}
use Rattle.arenalist.specs.Arena.{Arena, value_at, value_in}
use Rattle.arenalist.specs.inner.Slots.{entries}
use Rattle.arenaqueue.proofs.NumberLemmas.{count_in_all, found_in}
use Rattle.arenalist.proofs.EntryLemmas.{standing, standing_in, at_some, entries_at, value_some}
use Rattle.arenalist.proofs.ArenaLemmas.{valued_in}
use Rattle.arenalist.proofs.lists.Lists.list_of.Goals as goal

pub returns-in-Some-clause-standing : goal.returns-in-Some-clause-standing
returns-in-Some-clause-standing g c l some =
    let list : List ℕ = list_at c.self.inside.links.lists l in
    let is : list_at c.args.self.now.lists l ≡ entries c.self.inside.values.items list = ap (λ (a : Arena g.row.T.Denot). list_at a.lists l) (sym c.self.view_is) ∙ entries_at c.self.inside.values.items c.self.inside.links.lists l in
    let there : 0 < count c.args.node list = standing_in c.self.inside.values.items c.args.node list (subst (λ (es : List (ℕ × g.row.T.Denot)). IsSome (value_in es c.args.node)) is some) in
    ap (λ (n : ℕ). Some n) c.new.ensures ∙ sym c.in-Some.is ∙ c.owner.ensures.owned l (rw c.number.ensures there)

pub returns-in-Some-clause-found : goal.returns-in-Some-clause-found
returns-in-Some-clause-found g c =
    let list : List ℕ = list_at c.self.inside.links.lists c.in-Some.list in
    let is : entries c.self.inside.values.items list ≡ list_at c.args.self.now.lists c.in-Some.list = sym (ap (λ (a : Arena g.row.T.Denot). list_at a.lists c.in-Some.list) (sym c.self.view_is) ∙ entries_at c.self.inside.values.items c.self.inside.links.lists c.in-Some.list) in
    let there : 0 < count c.args.node list = rw c.number.ensures at (c.owner.ensures.held c.in-Some.list c.in-Some.is) in
    let has : IsSome (value_in (entries c.self.inside.values.items list) c.args.node) = ap is_some (value_some c.self.inside.values.items c.args.node list there) ∙ valued_in _ _ _ _ _ _ c.in-Some.list c.self.invariant c.args.node there in
    rw c.new.ensures (subst (λ (es : List (ℕ × g.row.T.Denot)). IsSome (value_in es c.args.node)) is has)

pub returns-in-None-clause-standing : goal.returns-in-None-clause-standing
returns-in-None-clause-standing g c l some =
    let list : List ℕ = list_at c.self.inside.links.lists l in
    let is : list_at c.args.self.now.lists l ≡ entries c.self.inside.values.items list = ap (λ (a : Arena g.row.T.Denot). list_at a.lists l) (sym c.self.view_is) ∙ entries_at c.self.inside.values.items c.self.inside.links.lists l in
    let there : 0 < count c.args.node list = standing_in c.self.inside.values.items c.args.node list (subst (λ (es : List (ℕ × g.row.T.Denot)). IsSome (value_in es c.args.node)) is some) in
    sym c.in-None.is ∙ c.owner.ensures.owned l (rw c.number.ensures there)

pub returns-in-Some-clause-linked : goal.returns-in-Some-clause-linked
returns-in-Some-clause-linked g c =
    let there : 0 < count c.args.node (list_at c.self.inside.links.lists c.in-Some.list) = rw c.number.ensures at (c.owner.ensures.held c.in-Some.list c.in-Some.is) in
    let on : 0 < in_all c.args.node c.self.inside.links.lists = omega (arith, there, count_in_all c.args.node c.self.inside.links.lists c.in-Some.list) in
    let has : IsSome (value_at c.args.self.now.lists c.args.node) = ap (λ (a : Arena g.row.T.Denot). is_some (value_at a.lists c.args.node)) (sym c.self.view_is) ∙ ap is_some (at_some c.self.inside.values.items c.args.node c.self.inside.links.lists on) ∙ c.self.invariant.valued c.args.node on in
    (λ _. has, λ _. refl)

pub returns-in-None-clause-linked : goal.returns-in-None-clause-linked
returns-in-None-clause-linked g c = (
  λ h.
      let no : false ≡ true = h in
      cc,
  λ h.
      let on : 0 < in_all c.args.node c.self.inside.links.lists = standing c.self.inside.values.items c.args.node c.self.inside.links.lists (rw (← c.self.view_is) at h) in
      let at = found_in c.args.node c.self.inside.links.lists on in
      let no : None ≡ Some at.0 = sym c.in-None.is ∙ c.owner.ensures.owned at.0 (rw c.number.ensures at.2) in
      cc,
)
