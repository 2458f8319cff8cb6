-- The first table has the world alone.
use Rattle.std.proofs.Common.{◌≡◌, ◌∙◌, ◌++◌, ◌∷◌, [], ℕ, List, Vec, Global, map, subst, sym, ap}
use Rattle.std.specs.List.{range_with_len}
use Rattle.closing.specs.Table.{Table}
use Rattle.closing.specs.inner.Table.{IsSameOrMore, IsTable, ranks_in}
use Rattle.closing.specs.declared.keys.Key.{Key as KeyCode}
use Rattle.closing.specs.declared.keys.Key.TheVariants as code
use Rattle.closing.proofs.TableLemmas.{first_of, first_table, first_ranks, only_one}
use Rattle.closing.proofs.keys.Keys.new.Goals as goal

pub returns-clause-table : goal.returns-clause-table
returns-clause-table c =
    let range = range_with_len 0 c.args.ranks in
    let groups = map (λ (g : Vec ℕ Global). g.items) c.put_group.new.groups.keys in
    let members : c.deref.result.now ≡ range = c.deref.ensures.value ∙ c.in_ok-push_ranks.ensures ∙ ap (λ (xs : List ℕ). xs ++ range) c.new-members.ensures.items in
    let put : IsSameOrMore c.deref.result.now [] groups =
    subst (λ (ks : List (Vec ℕ Global)). IsSameOrMore c.deref.result.now (map (λ (g : Vec ℕ Global). g.items) ks) groups) c.new-groups.ensures.empty c.in_ok-put_group.ensures.more in
    let one : groups ≡ range ∷ [] = only_one c.deref.result.now c.in_ok-put_group.field-0 groups put c.in_ok-put_group.ensures.value ∙ ap (λ (g : List ℕ). g ∷ []) members in
    let added : IsSameOrMore code.World [] c.put_key.new.keys.keys = subst (λ (ks : List KeyCode). IsSameOrMore code.World ks c.put_key.new.keys.keys) c.new-keys.ensures.empty c.in_ok-put_key.ensures.more in
    let key : c.put_key.new.keys.keys ≡ code.World ∷ [] = only_one code.World c.in_ok-put_key.field-0 c.put_key.new.keys.keys added c.in_ok-put_key.ensures.value in
    let table : first_of c.args.ranks ≡ record { codes = c.put_key.new.keys.keys; groups = groups } = (λ i. record { codes = sym key i; groups = sym one i }) in
    subst (λ (t : Table). IsTable t) table (first_table c.args.ranks)

pub returns-clause-ranks : goal.returns-clause-ranks
returns-clause-ranks c =
    let range = range_with_len 0 c.args.ranks in
    let groups = map (λ (g : Vec ℕ Global). g.items) c.put_group.new.groups.keys in
    let members : c.deref.result.now ≡ range = c.deref.ensures.value ∙ c.in_ok-push_ranks.ensures ∙ ap (λ (xs : List ℕ). xs ++ range) c.new-members.ensures.items in
    let put : IsSameOrMore c.deref.result.now [] groups =
    subst (λ (ks : List (Vec ℕ Global)). IsSameOrMore c.deref.result.now (map (λ (g : Vec ℕ Global). g.items) ks) groups) c.new-groups.ensures.empty c.in_ok-put_group.ensures.more in
    let one : groups ≡ range ∷ [] = only_one c.deref.result.now c.in_ok-put_group.field-0 groups put c.in_ok-put_group.ensures.value ∙ ap (λ (g : List ℕ). g ∷ []) members in
    ap (λ (gs : List (List ℕ)). ranks_in (record { codes = c.put_key.new.keys.keys; groups = gs })) one ∙ first_ranks c.args.ranks
