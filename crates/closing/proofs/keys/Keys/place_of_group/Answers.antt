-- The table grows by the group, if it isn't there.
use Rattle.std.proofs.Common.{◌≡◌, ◌∙◌, ◌++◌, ℕ, List, Vec, Global, Some, map, subst, ap}
use Rattle.closing.specs.Called.{naturals_in}
use Rattle.closing.specs.Table.{Table}
use Rattle.closing.specs.inner.Table.{IsSameOrMore}
use Rattle.closing.proofs.TableLemmas.{grows_by_group}
use Rattle.closing.proofs.keys.Keys.place_of_group.Goals as goal

pub returns-clause-grows : goal.returns-clause-grows
returns-clause-grows c is =
    let new : Table = record { codes = c.self.inside.keys.keys; groups = map (λ (g : Vec ℕ Global). g.items) c.put_group.new.groups.keys } in
    let said = naturals_in c.args.members.now in
    let members : c.deref.result.now ≡ said = c.deref.ensures.value ∙ c.in_ok-push_naturals.ensures ∙ ap (λ (xs : List ℕ). xs ++ said) c.clear.ensures.items in
    let codes : new.codes ≡ c.args.self.now.codes = ap (λ (t : Table). t.codes) c.self.view_is in
    let put : IsSameOrMore c.deref.result.now c.args.self.now.groups new.groups = subst (λ (t : Table). IsSameOrMore c.deref.result.now t.groups new.groups) c.self.view_is c.in_ok-group.ensures.more in
    let more : IsSameOrMore said c.args.self.now.groups new.groups = subst (λ (g : List ℕ). IsSameOrMore g c.args.self.now.groups new.groups) members put in
    grows_by_group c.args.self.now new said codes more is

pub returns-clause-value : goal.returns-clause-value
returns-clause-value c =
    let said = naturals_in c.args.members.now in
    let members : c.deref.result.now ≡ said = c.deref.ensures.value ∙ c.in_ok-push_naturals.ensures ∙ ap (λ (xs : List ℕ). xs ++ said) c.clear.ensures.items in
    c.in_ok-group.ensures.value ∙ ap (λ (g : List ℕ). Some g) members
