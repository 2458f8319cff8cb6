use Rattle.std.proofs.Common.{◌++◌, ◌∷◌, [], ◌∙◌, ap, arith}
use Rattle.std.proofs.lemmas.List.{map-append}
use Rattle.arenalist.specs.Arena.{Arena}
use Rattle.arenalist.specs.inner.Slots.{entries}
use Rattle.arenalist.proofs.ArenaLemmas.{fewer_free, listed, entries_more}
use Rattle.arenalist.proofs.lists.Lists.new_list.Goals as goal

pub reserve_slots-requires : goal.reserve_slots-requires
reserve_slots-requires g c = omega (arith, fewer_free _ _ _ _ _ _ c.self.invariant, c.self.invariant.as_many)

pub invariant_of-self-2 : goal.invariant_of-self-2
invariant_of-self-2 g c =
    rw (c.in_ok-list.ensures.heads, c.in_ok-list.ensures.lists, c.in_ok-list.ensures.cells, c.push_reserved.ensures.items, c.in_ok-reserve_slots.ensures.values, c.in_ok-reserve_slots.ensures.free)
    (listed _ _ _ _ _ _ _ c.self.invariant (omega (arith, c.in_ok-reserve_slots.ensures.free_room, c.self.invariant.as_many)))

pub returns-clause-lists : goal.returns-clause-lists
returns-clause-lists g c =
    rw (c.in_ok-list.ensures.lists, c.push_reserved.ensures.items, c.in_ok-reserve_slots.ensures.values)
    (entries_more c.self.inside.values.items (c.self.inside.links.lists ++ [] ∷ [])
    ∙ map-append (entries c.self.inside.values.items) c.self.inside.links.lists ([] ∷ [])
    ∙ ap (λ (a : Arena g.row.T.Denot). a.lists ++ [] ∷ []) c.self.view_is)
