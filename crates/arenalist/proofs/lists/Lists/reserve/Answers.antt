use Rattle.std.proofs.Common.{◌≡◌, ◌∙◌, ℕ, length, refl, ap, subst, arith}
use Rattle.std.specs.Vec.{vec_capacity}
use Rattle.arenalist.specs.Arena.{Arena}
use Rattle.arenalist.specs.inner.Links.{Linked}
use Rattle.arenalist.specs.inner.Slots.{entries_of, IsArena}
use Rattle.arenalist.proofs.ArenaLemmas.{fewer_free, roomier, fills}
use Rattle.arenalist.proofs.lists.Lists.reserve.Goals as goal

pub reserve_slots-requires : goal.reserve_slots-requires
reserve_slots-requires g c = omega (arith, fewer_free _ _ _ _ _ _ c.self.invariant, c.self.invariant.as_many)

pub loop-cell-init : goal.loop-cell-init
loop-cell-init g c = record {
  arena = rw (c.in_ok-first.ensures.heads, c.in_ok-first.ensures.lists, c.in_ok-first.ensures.first, c.in_ok-reserve_slots.ensures.values, c.in_ok-reserve_slots.ensures.free) (roomier _ _ _ _ _ _ _ c.self.invariant c.in_ok-reserve_slots.ensures.capacity);
  same_links = refl;
  same = refl;
  longer = refl;
  values_fit = omega (arith, c.in_ok-first.ensures.first, c.in_ok-reserve_slots.ensures.values_room, c.self.invariant.as_many);
  free_fit = omega (arith, c.in_ok-first.ensures.first, c.in_ok-reserve_slots.ensures.free_room, c.self.invariant.as_many);
  same_work = refl;
}

pub invariant_of-self-in-loop-cell : goal.invariant_of-self-in-loop-cell
invariant_of-self-in-loop-cell g c =
    let upto : c.loop-cell.cell ≡ c.loop-cell.self-inside.links.cells = omega (arith, c.loop-cell-test.false, c.in_ok-first.ensures.ok, c.in_ok-first.ensures.first, ap (λ (links : Linked). links.cells) c.loop-cell.invariant.same_links) in
    subst (λ (cells : ℕ). IsArena c.loop-cell.self-inside.links.heads c.loop-cell.self-inside.links.lists cells c.loop-cell.self-inside.values.items c.loop-cell.self-inside.free.items (vec_capacity c.loop-cell.self-inside.free)) upto c.loop-cell.invariant.arena

pub push_reserved-requires : goal.push_reserved-requires
push_reserved-requires g c = omega (arith, c.loop-cell.invariant.values_fit, c.loop-cell.invariant.arena.as_many)

pub push_reserved-requires-in-loop-cell : goal.push_reserved-requires-in-loop-cell
push_reserved-requires-in-loop-cell g c = omega (arith, c.loop-cell.invariant.free_fit, fewer_free _ _ _ _ _ _ c.loop-cell.invariant.arena)

pub loop-cell-preserved : goal.loop-cell-preserved
loop-cell-preserved g c = fills _ _ _ _ _ _ _ _ _ _ _ _ _ _ _ _ _ c.loop-cell.invariant c.loop-cell-test.true c.push_reserved.ensures.items c.push_reserved-in-loop-cell.ensures.items c.push_reserved.ensures.capacity c.push_reserved-in-loop-cell.ensures.capacity

pub returns-clause-lists : goal.returns-clause-lists
returns-clause-lists g c =
    let kept : entries_of c.reserve_slots.new.values.items c.add_cells.new.self.lists ≡ entries_of c.self.inside.values.items c.self.inside.links.lists = rw (c.in_ok-reserve_slots.ensures.values, c.in_ok-first.ensures.lists) refl in
    c.loop-cell.invariant.same ∙ kept ∙ ap (λ (a : Arena g.row.T.Denot). a.lists) c.self.view_is

pub returns-clause-spare : goal.returns-clause-spare
returns-clause-spare g c = omega (arith, c.loop-cell.invariant.longer, ap (length {A = _}) c.in_ok-reserve_slots.ensures.free, c.len-spare.ensures, ap (λ (a : Arena g.row.T.Denot). a.spare) c.self.view_is)

pub returns-clause-work : goal.returns-clause-work
returns-clause-work g c = c.loop-cell.invariant.same_work ∙ ap (λ (a : Arena g.row.T.Denot). a.work) c.self.view_is
