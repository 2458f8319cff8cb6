use Rattle.std.proofs.Common.{◌≡◌, ◌<◌, ◌∙◌, Some, None, get_or, length, map, refl, sym, ap, arith}
use Rattle.arenaqueue.specs.inner.Numbers.{without}
use Rattle.arenalist.specs.Arena.{Arena, value_at, unlinked, linked}
use Rattle.arenaqueue.proofs.NumberLemmas.{in_all_without_same}
use Rattle.arenalist.proofs.EntryLemmas.{standing, at_some, entries_unlinked, entries_linked, long_entries}
use Rattle.arenalist.proofs.ArenaLemmas.{given, moved}
use Rattle.arenalist.proofs.lists.Lists.move_back.Goals as goal

pub unlink-requires : goal.unlink-requires
unlink-requires g c = rw c.number-moved.ensures (standing c.self.inside.values.items c.args.node c.self.inside.links.lists (rw (← c.self.view_is) at c.requires.node))

pub link-requires-clause-cell : goal.link-requires-clause-cell
link-requires-clause-cell g c =
    let on = standing c.self.inside.values.items c.args.node c.self.inside.links.lists (rw (← c.self.view_is) at c.requires.node) in
    omega (arith, (given _ _ _ _ _ _ c.args.node c.self.invariant on).cell_in, c.unlink.ensures.cells, c.number-moved.ensures)

pub link-requires-clause-loose : goal.link-requires-clause-loose
link-requires-clause-loose g c =
    let on = standing c.self.inside.values.items c.args.node c.self.inside.links.lists (rw (← c.self.view_is) at c.requires.node) in
    rw (c.unlink.ensures.heads, c.unlink.ensures.lists, c.number-moved.ensures) (omega (arith, c.self.invariant.once c.args.node, on, in_all_without_same c.args.node c.self.inside.links.lists))

pub invariant_of-self : goal.invariant_of-self
invariant_of-self g c =
    let on = standing c.self.inside.values.items c.args.node c.self.inside.links.lists (rw (← c.self.view_is) at c.requires.node) in
    let list_in : c.args.list < length c.self.inside.links.lists = omega (arith, c.requires.list, ap (λ (a : Arena g.row.T.Denot). length a.lists) c.self.view_is, long_entries c.self.inside.values.items c.self.inside.links.lists) in
    rw (c.link.ensures.heads, c.unlink.ensures.heads, c.link.ensures.lists, c.unlink.ensures.lists, c.link.ensures.cells, c.unlink.ensures.cells, c.number.ensures, c.number-moved.ensures) (moved _ _ _ _ _ _ c.args.node c.args.list c.self.invariant on list_in)

pub returns-clause-lists : goal.returns-clause-lists
returns-clause-lists g c x is =
    let on = standing c.self.inside.values.items c.args.node c.self.inside.links.lists (rw (← c.self.view_is) at c.requires.node) in
    let has : get_or c.self.inside.values.items c.args.node None ≡ Some x = sym (at_some c.self.inside.values.items c.args.node c.self.inside.links.lists on) ∙ ap (λ (a : Arena g.row.T.Denot). value_at a.lists c.args.node) c.self.view_is ∙ is in
    rw (c.link.ensures.lists, c.unlink.ensures.lists, c.number.ensures, c.number-moved.ensures)
    (entries_linked c.self.inside.values.items c.self.inside.values.items c.args.node c.args.list x (map (without c.args.node) c.self.inside.links.lists) (λ y other. refl) has (in_all_without_same c.args.node c.self.inside.links.lists)
    ∙ ap (λ (ls : _). linked ls c.args.list c.args.node x) (entries_unlinked c.self.inside.values.items c.self.inside.values.items c.args.node c.self.inside.links.lists (λ y other. refl))
    ∙ ap (λ (a : Arena g.row.T.Denot). linked (unlinked a.lists c.args.node) c.args.list c.args.node x) c.self.view_is)
