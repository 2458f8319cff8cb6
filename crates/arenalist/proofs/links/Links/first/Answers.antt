use Rattle.std.proofs.Common.{◌≡◌, ◌<◌, ◌∙◌, ℕ, get_or, length, sym, ap, arith, Some}
use Rattle.std.proofs.lemmas.List.{get_or_read}
use Rattle.arenaqueue.specs.Numbers.{list_at}
use Rattle.arenaqueue.specs.inner.Numbers.{first_of}
use Rattle.arenalist.specs.inner.Links.{Linked}
use Rattle.arenalist.proofs.LinkLemmas.{long_lists, its, home, ahead}
use Rattle.arenalist.proofs.links.Links.first.Goals as goal

pub index-first-requires : goal.index-first-requires
index-first-requires c =
    let list_in : c.args.list < length c.self.inside.heads.items = omega (arith, c.requires, ap (λ (a : Linked). length a.lists) c.self.view_is, long_lists c.self.inside.heads.items c.self.inside.nexts.items) in
    let is : c.index-head.result.now ≡ get_or c.self.inside.heads.items c.args.list 0 = get_or_read c.self.inside.heads.items c.args.list c.index-head.result.now list_in c.index-head.ensures 0 in
    omega (arith, (its _ _ _ _ c.args.list c.self.invariant list_in).head_in)

pub returns-then-first-head : goal.returns-then-first-head
returns-then-first-head c =
    let list_in : c.args.list < length c.self.inside.heads.items = omega (arith, c.requires, ap (λ (a : Linked). length a.lists) c.self.view_is, long_lists c.self.inside.heads.items c.self.inside.nexts.items) in
    let is : c.index-head.result.now ≡ get_or c.self.inside.heads.items c.args.list 0 = get_or_read c.self.inside.heads.items c.args.list c.index-head.result.now list_in c.index-head.ensures 0 in
    let it = its _ _ _ _ c.args.list c.self.invariant list_in in
    let first : c.index-first.result.now ≡ get_or c.self.inside.nexts.items (get_or c.self.inside.heads.items c.args.list 0) 0 = get_or_read c.self.inside.nexts.items c.index-head.result.now c.index-first.result.now (omega (arith, it.head_in)) c.index-first.ensures 0 ∙ ap (λ (x : ℕ). get_or c.self.inside.nexts.items x 0) is in
    sym (ap (λ (a : Linked). first_of (list_at a.lists c.args.list)) (sym c.self.view_is) ∙ home _ _ _ _ _ it.chain it.apart (sym first ∙ c.if-first-head.true ∙ is))

pub returns-else-first-head : goal.returns-else-first-head
returns-else-first-head c =
    let list_in : c.args.list < length c.self.inside.heads.items = omega (arith, c.requires, ap (λ (a : Linked). length a.lists) c.self.view_is, long_lists c.self.inside.heads.items c.self.inside.nexts.items) in
    let is : c.index-head.result.now ≡ get_or c.self.inside.heads.items c.args.list 0 = get_or_read c.self.inside.heads.items c.args.list c.index-head.result.now list_in c.index-head.ensures 0 in
    let it = its _ _ _ _ c.args.list c.self.invariant list_in in
    let first : c.index-first.result.now ≡ get_or c.self.inside.nexts.items (get_or c.self.inside.heads.items c.args.list 0) 0 = get_or_read c.self.inside.nexts.items c.index-head.result.now c.index-first.result.now (omega (arith, it.head_in)) c.index-first.ensures 0 ∙ ap (λ (x : ℕ). get_or c.self.inside.nexts.items x 0) is in
    sym (ap (λ (a : Linked). first_of (list_at a.lists c.args.list)) (sym c.self.view_is) ∙ ahead _ _ _ _ _ it.chain (λ e. c.if-first-head.false (first ∙ e ∙ sym is)) ∙ ap (λ (x : ℕ). Some x) (sym first))
