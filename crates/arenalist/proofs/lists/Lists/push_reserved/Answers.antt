use Rattle.std.proofs.Common.{◌≡◌, ◌<◌, ◌++◌, ◌∷◌, [], ◌∙◌, ℕ, Option, Some, None, set, length, sym, ap, arith, get_or-set_same, get_or-set_other}
use Rattle.std.specs.Option.{option_to_list}
use Rattle.arenalist.specs.Arena.{Arena, value_at, linked}
use Rattle.arenalist.proofs.EntryLemmas.{at_none, entries_linked, long_entries}
use Rattle.arenalist.proofs.ArenaLemmas.{taken, pushed}
use Rattle.arenalist.proofs.lists.Lists.push_reserved.Goals as goal

pub index_mut-requires : goal.index_mut-requires
index_mut-requires g c =
    let is : c.self.inside.free.items ≡ c.pop.new.self.items ++ c.unwrap-cell.result ∷ [] = c.pop.ensures.items ∙ ap (λ (o : Option ℕ). c.pop.new.self.items ++ option_to_list o) c.unwrap-cell.ensures in
    omega (arith, (taken _ _ _ _ _ _ _ c.unwrap-cell.result c.self.invariant is).cell_in, c.self.invariant.as_many)

pub link-requires-clause-cell : goal.link-requires-clause-cell
link-requires-clause-cell g c =
    let is : c.self.inside.free.items ≡ c.pop.new.self.items ++ c.unwrap-cell.result ∷ [] = c.pop.ensures.items ∙ ap (λ (o : Option ℕ). c.pop.new.self.items ++ option_to_list o) c.unwrap-cell.ensures in
    omega (arith, (taken _ _ _ _ _ _ _ c.unwrap-cell.result c.self.invariant is).cell_in)

pub link-requires-clause-loose : goal.link-requires-clause-loose
link-requires-clause-loose g c =
    let is : c.self.inside.free.items ≡ c.pop.new.self.items ++ c.unwrap-cell.result ∷ [] = c.pop.ensures.items ∙ ap (λ (o : Option ℕ). c.pop.new.self.items ++ option_to_list o) c.unwrap-cell.ensures in
    (taken _ _ _ _ _ _ _ c.unwrap-cell.result c.self.invariant is).loose

pub invariant_of-self : goal.invariant_of-self
invariant_of-self g c =
    let is : c.self.inside.free.items ≡ c.pop.new.self.items ++ c.unwrap-cell.result ∷ [] = c.pop.ensures.items ∙ ap (λ (o : Option ℕ). c.pop.new.self.items ++ option_to_list o) c.unwrap-cell.ensures in
    let list_in : c.args.list < length c.self.inside.links.lists = omega (arith, c.requires.list, ap (λ (a : Arena g.row.T.Denot). length a.lists) c.self.view_is, long_entries c.self.inside.values.items c.self.inside.links.lists) in
    rw (c.link.ensures.heads, c.link.ensures.lists, c.link.ensures.cells, c.number.ensures) (pushed _ _ _ _ _ _ _ _ c.unwrap-cell.result c.args.list c.args.value c.self.invariant is list_in c.pop.ensures.capacity)

pub returns-clause-fresh : goal.returns-clause-fresh
returns-clause-fresh g c =
    let is : c.self.inside.free.items ≡ c.pop.new.self.items ++ c.unwrap-cell.result ∷ [] = c.pop.ensures.items ∙ ap (λ (o : Option ℕ). c.pop.new.self.items ++ option_to_list o) c.unwrap-cell.ensures in
    rw c.new.ensures (ap (λ (a : Arena g.row.T.Denot). value_at a.lists c.unwrap-cell.result) (sym c.self.view_is) ∙ at_none c.self.inside.values.items c.unwrap-cell.result c.self.inside.links.lists (omega (arith, (taken _ _ _ _ _ _ _ c.unwrap-cell.result c.self.invariant is).loose)))

pub returns-clause-lists : goal.returns-clause-lists
returns-clause-lists g c =
    let is : c.self.inside.free.items ≡ c.pop.new.self.items ++ c.unwrap-cell.result ∷ [] = c.pop.ensures.items ∙ ap (λ (o : Option ℕ). c.pop.new.self.items ++ option_to_list o) c.unwrap-cell.ensures in
    let it = taken _ _ _ _ _ _ _ c.unwrap-cell.result c.self.invariant is in
    rw (c.new.ensures, c.link.ensures.lists, c.number.ensures)
    (entries_linked c.self.inside.values.items (set c.self.inside.values.items c.unwrap-cell.result (Some c.args.value)) c.unwrap-cell.result c.args.list c.args.value c.self.inside.links.lists (λ x other. get_or-set_other c.self.inside.values.items c.unwrap-cell.result x (Some c.args.value) None other) (get_or-set_same c.self.inside.values.items c.unwrap-cell.result (Some c.args.value) None (omega (arith, it.cell_in, c.self.invariant.as_many))) (omega (arith, it.loose))
    ∙ ap (λ (a : Arena g.row.T.Denot). linked a.lists c.args.list c.unwrap-cell.result c.args.value) c.self.view_is)
