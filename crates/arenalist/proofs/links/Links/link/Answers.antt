use Rattle.std.proofs.Common.{◌≡◌, ◌<◌, ◌++◌, ◌∷◌, [], ◌∙◌, get_or, set, length, refl, ap, arith}
use Rattle.std.proofs.lemmas.List.{get_or_read}
use Rattle.arenaqueue.specs.Numbers.{list_at}
use Rattle.arenaqueue.specs.inner.Numbers.{in_all}
use Rattle.arenalist.specs.inner.Rings.{rings_of}
use Rattle.arenalist.specs.inner.Links.{Linked}
use Rattle.arenalist.proofs.LinkLemmas.{linking, links_linked, in_rings, long_lists, its}
use Rattle.arenalist.proofs.links.Links.link.Goals as goal

pub link-requires-clause-head : goal.link-requires-clause-head
link-requires-clause-head c =
    let list_in : c.args.list < length c.self.inside.heads.items = omega (arith, c.requires.list, ap (λ (a : Linked). length a.lists) c.self.view_is, long_lists c.self.inside.heads.items c.self.inside.nexts.items) in
    let is : c.index-head.result.now ≡ get_or c.self.inside.heads.items c.args.list 0 = get_or_read c.self.inside.heads.items c.args.list c.index-head.result.now list_in c.index-head.ensures 0 in
    omega (arith, (its _ _ _ _ c.args.list c.self.invariant list_in).head_in)

pub link-requires-clause-last : goal.link-requires-clause-last
link-requires-clause-last c =
    let list_in : c.args.list < length c.self.inside.heads.items = omega (arith, c.requires.list, ap (λ (a : Linked). length a.lists) c.self.view_is, long_lists c.self.inside.heads.items c.self.inside.nexts.items) in
    let cell_in : c.args.cell < length c.self.inside.nexts.items = omega (arith, c.requires.cell, ap (λ (a : Linked). a.cells) c.self.view_is) in
    let is : c.index-head.result.now ≡ get_or c.self.inside.heads.items c.args.list 0 = get_or_read c.self.inside.heads.items c.args.list c.index-head.result.now list_in c.index-head.ensures 0 in
    let loose : in_all c.args.cell (rings_of c.self.inside.heads.items c.self.inside.nexts.items) ≡ 0 = in_rings c.self.inside.heads.items c.self.inside.nexts.items c.args.cell ∙ (rw (← c.self.view_is) at c.requires.loose) in
    rw is (linking _ _ _ _ c.args.list c.args.cell c.self.invariant list_in cell_in loose).last_in

pub invariant_of-self : goal.invariant_of-self
invariant_of-self c =
    let list_in : c.args.list < length c.self.inside.heads.items = omega (arith, c.requires.list, ap (λ (a : Linked). length a.lists) c.self.view_is, long_lists c.self.inside.heads.items c.self.inside.nexts.items) in
    let cell_in : c.args.cell < length c.self.inside.nexts.items = omega (arith, c.requires.cell, ap (λ (a : Linked). a.cells) c.self.view_is) in
    let is : c.index-head.result.now ≡ get_or c.self.inside.heads.items c.args.list 0 = get_or_read c.self.inside.heads.items c.args.list c.index-head.result.now list_in c.index-head.ensures 0 in
    let loose : in_all c.args.cell (rings_of c.self.inside.heads.items c.self.inside.nexts.items) ≡ 0 = in_rings c.self.inside.heads.items c.self.inside.nexts.items c.args.cell ∙ (rw (← c.self.view_is) at c.requires.loose) in
    (links_linked _ _ _ _ _ _ _ c.args.list c.args.cell c.index-head.result.now c.self.invariant list_in cell_in loose is c.link.ensures.nexts c.link.ensures.prevs refl).0

pub returns-clause-lists : goal.returns-clause-lists
returns-clause-lists c =
    let list_in : c.args.list < length c.self.inside.heads.items = omega (arith, c.requires.list, ap (λ (a : Linked). length a.lists) c.self.view_is, long_lists c.self.inside.heads.items c.self.inside.nexts.items) in
    let cell_in : c.args.cell < length c.self.inside.nexts.items = omega (arith, c.requires.cell, ap (λ (a : Linked). a.cells) c.self.view_is) in
    let is : c.index-head.result.now ≡ get_or c.self.inside.heads.items c.args.list 0 = get_or_read c.self.inside.heads.items c.args.list c.index-head.result.now list_in c.index-head.ensures 0 in
    let loose : in_all c.args.cell (rings_of c.self.inside.heads.items c.self.inside.nexts.items) ≡ 0 = in_rings c.self.inside.heads.items c.self.inside.nexts.items c.args.cell ∙ (rw (← c.self.view_is) at c.requires.loose) in
    (links_linked _ _ _ _ _ _ _ c.args.list c.args.cell c.index-head.result.now c.self.invariant list_in cell_in loose is c.link.ensures.nexts c.link.ensures.prevs refl).1
    ∙ ap (λ (a : Linked). set a.lists c.args.list (list_at a.lists c.args.list ++ c.args.cell ∷ [])) c.self.view_is
