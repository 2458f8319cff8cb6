use Rattle.std.proofs.Common.{◌≡◌, ◌∙◌, ℕ, None, get_or, set, sym, ap, arith, get_or-set_other}
use Rattle.std.proofs.lemmas.List.{get_or_read}
use Rattle.std.specs.Prelude.{is_some}
use Rattle.arenalist.specs.Arena.{Arena, value_at, unlinked}
use Rattle.arenalist.proofs.EntryLemmas.{standing, at_some, entries_unlinked}
use Rattle.arenalist.proofs.ArenaLemmas.{given, freed}
use Rattle.arenalist.proofs.lists.Lists.unlink.Goals as goal

pub unlink-requires : goal.unlink-requires
unlink-requires g c = rw c.number-cell.ensures (standing c.self.inside.values.items c.args.node c.self.inside.links.lists (rw (← c.self.view_is) at c.requires))

pub push_reserved-requires : goal.push_reserved-requires
push_reserved-requires g c =
    let on = standing c.self.inside.values.items c.args.node c.self.inside.links.lists (rw (← c.self.view_is) at c.requires) in
    omega (arith, (given _ _ _ _ _ _ c.args.node c.self.invariant on).fewer, c.self.invariant.room_enough)

pub index_mut-requires : goal.index_mut-requires
index_mut-requires g c =
    let on = standing c.self.inside.values.items c.args.node c.self.inside.links.lists (rw (← c.self.view_is) at c.requires) in
    omega (arith, (given _ _ _ _ _ _ c.args.node c.self.invariant on).cell_in, c.self.invariant.as_many, c.number-cell.ensures)

pub unwrap-requires : goal.unwrap-requires
unwrap-requires g c =
    let on = standing c.self.inside.values.items c.args.node c.self.inside.links.lists (rw (← c.self.view_is) at c.requires) in
    let it = given _ _ _ _ _ _ c.args.node c.self.invariant on in
    let read : c.index_mut.result.now ≡ get_or c.self.inside.values.items c.number-cell.result None = get_or_read c.self.inside.values.items c.number-cell.result c.index_mut.result.now (omega (arith, it.cell_in, c.self.invariant.as_many, c.number-cell.ensures)) c.index_mut.ensures.value None in
    ap is_some (c.take.ensures.value ∙ read ∙ ap (λ (n : ℕ). get_or c.self.inside.values.items n None) c.number-cell.ensures) ∙ it.has

pub invariant_of-self : goal.invariant_of-self
invariant_of-self g c =
    let on = standing c.self.inside.values.items c.args.node c.self.inside.links.lists (rw (← c.self.view_is) at c.requires) in
    rw (c.unlink.ensures.heads, c.unlink.ensures.lists, c.unlink.ensures.cells, c.take.ensures.after, c.push_reserved.ensures.items, c.number-cell.ensures) (freed _ _ _ _ _ _ _ c.args.node c.self.invariant on c.push_reserved.ensures.capacity)

pub returns-clause-value : goal.returns-clause-value
returns-clause-value g c =
    let on = standing c.self.inside.values.items c.args.node c.self.inside.links.lists (rw (← c.self.view_is) at c.requires) in
    let it = given _ _ _ _ _ _ c.args.node c.self.invariant on in
    let read : c.index_mut.result.now ≡ get_or c.self.inside.values.items c.number-cell.result None = get_or_read c.self.inside.values.items c.number-cell.result c.index_mut.result.now (omega (arith, it.cell_in, c.self.invariant.as_many, c.number-cell.ensures)) c.index_mut.ensures.value None in
    ap (λ (a : Arena g.row.T.Denot). value_at a.lists c.args.node) (sym c.self.view_is)
    ∙ at_some c.self.inside.values.items c.args.node c.self.inside.links.lists on
    ∙ ap (λ (n : ℕ). get_or c.self.inside.values.items n None) (sym c.number-cell.ensures)
    ∙ sym read
    ∙ sym c.take.ensures.value
    ∙ c.unwrap.ensures

pub returns-clause-lists : goal.returns-clause-lists
returns-clause-lists g c =
    rw (c.unlink.ensures.lists, c.number-cell.ensures)
    (entries_unlinked c.self.inside.values.items (set c.self.inside.values.items c.args.node c.take.new.self) c.args.node c.self.inside.links.lists (λ x other. get_or-set_other c.self.inside.values.items c.args.node x c.take.new.self None other)
    ∙ ap (λ (a : Arena g.row.T.Denot). unlinked a.lists c.args.node) c.self.view_is)
