-- The table grows by the group and by the key, if they aren't there.
use Rattle.std.proofs.Common.{◌≡◌, ◌∙◌, ◌++◌, ◌∷◌, [], ℕ, List, Vec, Global, Some, map, subst, ap}
use Rattle.std.specs.List.{slice_get}
use Rattle.closing.specs.Table.{Table}
use Rattle.closing.specs.inner.Table.{Grows, IsSameOrMore}
use Rattle.closing.proofs.TableLemmas.{grows_by_group, grows_on}
use Rattle.closing.proofs.keys.Keys.put_alone.Goals as goal

pub returns-clause-grows : goal.returns-clause-grows
returns-clause-grows c is =
    let mid : Table = record { codes = c.self.inside.keys.keys; groups = map (λ (g : Vec ℕ Global). g.items) c.put_group.new.groups.keys } in
    let members : c.deref.result.now ≡ c.args.rank ∷ [] = c.deref.ensures.value ∙ c.in_ok-push.ensures.items ∙ ap (λ (xs : List ℕ). xs ++ c.args.rank ∷ []) c.clear.ensures.items in
    let codes : mid.codes ≡ c.args.self.now.codes = ap (λ (t : Table). t.codes) c.self.view_is in
    let put : IsSameOrMore c.deref.result.now c.args.self.now.groups mid.groups = subst (λ (t : Table). IsSameOrMore c.deref.result.now t.groups mid.groups) c.self.view_is c.in_ok-group.ensures.more in
    let more : IsSameOrMore (c.args.rank ∷ []) c.args.self.now.groups mid.groups = subst (λ (g : List ℕ). IsSameOrMore g c.args.self.now.groups mid.groups) members put in
    let first : Grows c.args.self.now mid = grows_by_group c.args.self.now mid (c.args.rank ∷ []) codes more is in
    let placed : slice_get mid.groups c.in_ok-group.group ≡ Some (c.args.rank ∷ []) = c.in_ok-group.ensures.value ∙ ap (λ (g : List ℕ). Some g) members in
    grows_on c.args.self.now mid c.put.new.self first (c.in_ok-place.ensures.grows first.table placed)

pub returns-clause-value : goal.returns-clause-value
returns-clause-value c is =
    let mid : Table = record { codes = c.self.inside.keys.keys; groups = map (λ (g : Vec ℕ Global). g.items) c.put_group.new.groups.keys } in
    let members : c.deref.result.now ≡ c.args.rank ∷ [] = c.deref.ensures.value ∙ c.in_ok-push.ensures.items ∙ ap (λ (xs : List ℕ). xs ++ c.args.rank ∷ []) c.clear.ensures.items in
    let codes : mid.codes ≡ c.args.self.now.codes = ap (λ (t : Table). t.codes) c.self.view_is in
    let put : IsSameOrMore c.deref.result.now c.args.self.now.groups mid.groups = subst (λ (t : Table). IsSameOrMore c.deref.result.now t.groups mid.groups) c.self.view_is c.in_ok-group.ensures.more in
    let more : IsSameOrMore (c.args.rank ∷ []) c.args.self.now.groups mid.groups = subst (λ (g : List ℕ). IsSameOrMore g c.args.self.now.groups mid.groups) members put in
    let first : Grows c.args.self.now mid = grows_by_group c.args.self.now mid (c.args.rank ∷ []) codes more is in
    let placed : slice_get mid.groups c.in_ok-group.group ≡ Some (c.args.rank ∷ []) = c.in_ok-group.ensures.value ∙ ap (λ (g : List ℕ). Some g) members in
    c.in_ok-place.ensures.value first.table placed
