use Rattle.std.proofs.Common.{◌≡◌, ◌<◌, ◌∙◌, ℕ, get_or, sym, ap, arith, Some, None}
use Rattle.std.proofs.lemmas.List.{get_or_read}
use Rattle.arenaqueue.specs.Numbers.{list_at}
use Rattle.arenaqueue.specs.inner.Numbers.{first_of, after, count}
use Rattle.arenalist.specs.inner.Rings.{rings_of, lists_of}
use Rattle.arenalist.specs.inner.Links.{Linked}
use Rattle.arenalist.proofs.LinkLemmas.{unlinking, behind, home, ahead}
use Rattle.arenalist.proofs.links.Links.next.Goals as goal

pub index-requires : goal.index-requires
index-requires c =
    let u = unlinking _ _ _ _ c.args.cell c.self.invariant (rw (← c.self.view_is) at c.requires) in
    omega (arith, u.cell_in, c.self.invariant.as_many)

pub index-head-requires : goal.index-head-requires
index-head-requires c =
    let u = unlinking _ _ _ _ c.args.cell c.self.invariant (rw (← c.self.view_is) at c.requires) in
    let own : c.index.result.now ≡ get_or c.self.inside.owners.items c.args.cell None = get_or_read c.self.inside.owners.items c.args.cell c.index.result.now (omega (arith, u.cell_in, c.self.invariant.as_many)) c.index.ensures None in
    omega (arith, (behind _ _ _ _ c.in_ok-list.list c.args.cell c.self.invariant (c.self.invariant.owned.held c.args.cell c.in_ok-list.list (sym own ∙ c.in_ok-list.was))).list_in)

pub index-next-requires : goal.index-next-requires
index-next-requires c =
    let u = unlinking _ _ _ _ c.args.cell c.self.invariant (rw (← c.self.view_is) at c.requires) in
    omega (arith, u.cell_in)

pub returns-then-next-head : goal.returns-then-next-head
returns-then-next-head c l some =
    let u = unlinking _ _ _ _ c.args.cell c.self.invariant (rw (← c.self.view_is) at c.requires) in
    let own : c.index.result.now ≡ get_or c.self.inside.owners.items c.args.cell None = get_or_read c.self.inside.owners.items c.args.cell c.index.result.now (omega (arith, u.cell_in, c.self.invariant.as_many)) c.index.ensures None in
    let there : 0 < count c.args.cell (list_at (lists_of (rings_of c.self.inside.heads.items c.self.inside.nexts.items)) l) = rw (← c.self.view_is) at some in
    let it = behind _ _ _ _ l c.args.cell c.self.invariant there in
    let same : Some c.in_ok-list.list ≡ Some l = sym (sym own ∙ c.in_ok-list.was) ∙ c.self.invariant.owned.owned c.args.cell l there in
    let list : c.in_ok-list.list ≡ l = cc in
    let head : c.index-head.result.now ≡ get_or c.self.inside.heads.items l 0 = get_or_read c.self.inside.heads.items c.in_ok-list.list c.index-head.result.now (omega (arith, it.list_in)) c.index-head.ensures 0 ∙ ap (λ (x : ℕ). get_or c.self.inside.heads.items x 0) list in
    let next : c.index-next.result.now ≡ get_or c.self.inside.nexts.items c.args.cell 0 = get_or_read c.self.inside.nexts.items c.args.cell c.index-next.result.now (omega (arith, u.cell_in)) c.index-next.ensures 0 in
    sym (ap (λ (a : Linked). first_of (after c.args.cell (list_at a.lists l))) (sym c.self.view_is) ∙ home _ _ _ _ _ it.chain it.apart (sym next ∙ c.if-next-head.true ∙ head))

pub returns-else-next-head : goal.returns-else-next-head
returns-else-next-head c l some =
    let u = unlinking _ _ _ _ c.args.cell c.self.invariant (rw (← c.self.view_is) at c.requires) in
    let own : c.index.result.now ≡ get_or c.self.inside.owners.items c.args.cell None = get_or_read c.self.inside.owners.items c.args.cell c.index.result.now (omega (arith, u.cell_in, c.self.invariant.as_many)) c.index.ensures None in
    let there : 0 < count c.args.cell (list_at (lists_of (rings_of c.self.inside.heads.items c.self.inside.nexts.items)) l) = rw (← c.self.view_is) at some in
    let it = behind _ _ _ _ l c.args.cell c.self.invariant there in
    let same : Some c.in_ok-list.list ≡ Some l = sym (sym own ∙ c.in_ok-list.was) ∙ c.self.invariant.owned.owned c.args.cell l there in
    let list : c.in_ok-list.list ≡ l = cc in
    let head : c.index-head.result.now ≡ get_or c.self.inside.heads.items l 0 = get_or_read c.self.inside.heads.items c.in_ok-list.list c.index-head.result.now (omega (arith, it.list_in)) c.index-head.ensures 0 ∙ ap (λ (x : ℕ). get_or c.self.inside.heads.items x 0) list in
    let next : c.index-next.result.now ≡ get_or c.self.inside.nexts.items c.args.cell 0 = get_or_read c.self.inside.nexts.items c.args.cell c.index-next.result.now (omega (arith, u.cell_in)) c.index-next.ensures 0 in
    sym (ap (λ (a : Linked). first_of (after c.args.cell (list_at a.lists l))) (sym c.self.view_is) ∙ ahead _ _ _ _ _ it.chain (λ e. c.if-next-head.false (next ∙ e ∙ sym head)) ∙ ap (λ (x : ℕ). Some x) (sym next))
