use Rattle.std.proofs.Common.{◌≡◌, ◌∙◌, ℕ, List, Some, None, get_or, set, length, refl, sym, ap, arith}
use Rattle.std.proofs.lemmas.List.{get_or_read}
use Rattle.std.specs.Prelude.{is_some}
use Rattle.arenalist.specs.Arena.{Arena, value_at, revalued}
use Rattle.arenalist.specs.inner.Slots.{entries_of}
use Rattle.arenalist.proofs.EntryLemmas.{standing, at_some, entries_revalued}
use Rattle.arenalist.proofs.ArenaLemmas.{given}
use Rattle.arenalist.proofs.lists.Lists.get_mut.Goals as goal

pub index_mut-requires : goal.index_mut-requires
index_mut-requires g c =
    let on = standing c.self.inside.values.items c.args.node c.self.inside.links.lists (rw (← c.self.view_is) at c.requires) in
    omega (arith, (given _ _ _ _ _ _ c.args.node c.self.invariant on).cell_in, c.self.invariant.as_many, c.number-cell.ensures)

pub value_mut-requires : goal.value_mut-requires
value_mut-requires g c =
    let on = standing c.self.inside.values.items c.args.node c.self.inside.links.lists (rw (← c.self.view_is) at c.requires) in
    let it = given _ _ _ _ _ _ c.args.node c.self.invariant on in
    let read : c.index_mut.result.now ≡ get_or c.self.inside.values.items c.number-cell.result None = get_or_read c.self.inside.values.items c.number-cell.result c.index_mut.result.now (omega (arith, it.cell_in, c.self.invariant.as_many, c.number-cell.ensures)) c.index_mut.ensures.value None in
    ap is_some (read ∙ ap (λ (n : ℕ). get_or c.self.inside.values.items n None) c.number-cell.ensures) ∙ it.has

pub returns : goal.returns
returns g c =
    let on = standing c.self.inside.values.items c.args.node c.self.inside.links.lists (rw (← c.self.view_is) at c.requires) in
    let it = given _ _ _ _ _ _ c.args.node c.self.invariant on in
    let read : c.index_mut.result.now ≡ get_or c.self.inside.values.items c.number-cell.result None = get_or_read c.self.inside.values.items c.number-cell.result c.index_mut.result.now (omega (arith, it.cell_in, c.self.invariant.as_many, c.number-cell.ensures)) c.index_mut.ensures.value None in
    let lists : (w : g.row.T.Denot) → entries_of (set c.self.inside.values.items c.number-cell.result (Some w)) c.self.inside.links.lists ≡ revalued (entries_of c.self.inside.values.items c.self.inside.links.lists) c.args.node w =
    λ w. ap (λ (n : ℕ). entries_of (set c.self.inside.values.items n (Some w)) c.self.inside.links.lists) c.number-cell.ensures ∙ entries_revalued c.self.inside.values.items c.args.node w c.self.inside.links.lists (omega (arith, it.cell_in, c.self.invariant.as_many)) it.has in (
      (refl, λ w. ap (λ (ls : List (List (ℕ × g.row.T.Denot))). let a : Arena g.row.T.Denot = record { lists = ls; spare = length c.self.inside.free.items; work = c.self.inside.work } in a) (lists w) ∙ ap (λ (a : Arena g.row.T.Denot). let b : Arena g.row.T.Denot = record a { lists = revalued a.lists c.args.node w } in b) c.self.view_is),
      record {
        writes_back = tt;
        value = ap (λ (a : Arena g.row.T.Denot). value_at a.lists c.args.node) (sym c.self.view_is)
            ∙ at_some c.self.inside.values.items c.args.node c.self.inside.links.lists on
            ∙ ap (λ (n : ℕ). get_or c.self.inside.values.items n None) (sym c.number-cell.ensures)
            ∙ sym read
            ∙ c.value_mut.ensures.value;
      },
    )
