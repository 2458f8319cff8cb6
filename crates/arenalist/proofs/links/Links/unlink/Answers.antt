use Rattle.std.proofs.Common.{◌∙◌, map, refl, ap, arith}
use Rattle.arenaqueue.specs.inner.Numbers.{without}
use Rattle.arenalist.specs.inner.Links.{Linked}
use Rattle.arenalist.proofs.LinkLemmas.{unlinking, links_unlinked}
use Rattle.arenalist.proofs.links.Links.unlink.Goals as goal

pub unlink-requires-clause-cell : goal.unlink-requires-clause-cell
unlink-requires-clause-cell c =
    let u = unlinking _ _ _ _ c.args.cell c.self.invariant (rw (← c.self.view_is) at c.requires) in
    omega (arith, u.cell_in)

pub unlink-requires-clause-before : goal.unlink-requires-clause-before
unlink-requires-clause-before c =
    let u = unlinking _ _ _ _ c.args.cell c.self.invariant (rw (← c.self.view_is) at c.requires) in
    omega (arith, u.before_in)

pub unlink-requires-clause-after : goal.unlink-requires-clause-after
unlink-requires-clause-after c =
    let u = unlinking _ _ _ _ c.args.cell c.self.invariant (rw (← c.self.view_is) at c.requires) in
    omega (arith, u.after_in)

pub index_mut-requires : goal.index_mut-requires
index_mut-requires c =
    let u = unlinking _ _ _ _ c.args.cell c.self.invariant (rw (← c.self.view_is) at c.requires) in
    omega (arith, u.cell_in)

pub invariant_of-self : goal.invariant_of-self
invariant_of-self c = (links_unlinked _ _ _ _ _ _ _ c.args.cell c.self.invariant (rw (← c.self.view_is) at c.requires) c.unlink.ensures.nexts c.unlink.ensures.prevs refl).0

pub returns-clause-lists : goal.returns-clause-lists
returns-clause-lists c =
    (links_unlinked _ _ _ _ _ _ _ c.args.cell c.self.invariant (rw (← c.self.view_is) at c.requires) c.unlink.ensures.nexts c.unlink.ensures.prevs refl).1
    ∙ ap (λ (a : Linked). map (without c.args.cell) a.lists) c.self.view_is
