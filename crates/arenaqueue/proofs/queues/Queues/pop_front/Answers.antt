use Rattle.std.proofs.Common.{◌∙◌, ℕ, length, List, Option, None, get_or, set, drop, ap, sym, arith}
use Rattle.std.specs.List.{slice_get}
use Rattle.std.proofs.lemmas.List.{length-set}
use Rattle.arenaqueue.specs.Numbers.{list_at}
use Rattle.arenaqueue.specs.Queued.{Queued}
use Rattle.arenaqueue.specs.inner.Cells.{nexts_of}
use Rattle.arenaqueue.proofs.CellLemmas.{long_nexts, all_valued}
use Rattle.arenaqueue.proofs.QueueLemmas.{first_in, list_in, front_some, front_none, pops, pops_none, spares_are_few}
use Rattle.arenaqueue.proofs.queues.Queues.pop_front.Goals as goal

pub first-cell-requires : goal.first-cell-requires
first-cell-requires g c = list_in _ _ _ _ _ (ap (λ (q : Queued g.row.T.Denot). q.lists) c.self.view_is) c.requires

pub returns-then-cell-clause-value : goal.returns-then-cell-clause-value
returns-then-cell-clause-value g c =
    let l_in = first_in _ _ _ _ _ (ap (λ (q : Queued g.row.T.Denot). q.lists) c.self.view_is) c.requires in
    sym (ap (λ (q : Queued g.row.T.Denot). slice_get (list_at q.lists c.args.list) 0) (sym c.self.view_is)
    ∙ ap (λ (vs : List g.row.T.Denot). slice_get vs 0) (front_none _ _ _ _ _ _ c.args.list c.self.invariant l_in (sym c.first-cell.ensures ∙ c.if-cell.true)))

pub returns-then-cell-clause-lists : goal.returns-then-cell-clause-lists
returns-then-cell-clause-lists g c =
    let l_in = first_in _ _ _ _ _ (ap (λ (q : Queued g.row.T.Denot). q.lists) c.self.view_is) c.requires in
    let none = front_none _ _ _ _ _ _ c.args.list c.self.invariant l_in (sym c.first-cell.ensures ∙ c.if-cell.true) in
    sym (pops_none c.args.self.now.lists c.args.list (ap (λ (q : Queued g.row.T.Denot). list_at q.lists c.args.list) (sym c.self.view_is) ∙ none))

pub next-requires : goal.next-requires
next-requires g c =
    let l_in = first_in _ _ _ _ _ (ap (λ (q : Queued g.row.T.Denot). q.lists) c.self.view_is) c.requires in
    let it = front_some _ _ _ _ _ _ c.args.list c.first-cell.result c.self.invariant (all_valued c.self.inside.cells.items) l_in c.first-cell.ensures c.if-cell.false in
    omega (arith, it.0, long_nexts c.self.inside.cells.items)

pub set_first-requires : goal.set_first-requires
set_first-requires g c = list_in _ _ _ _ _ (ap (λ (q : Queued g.row.T.Denot). q.lists) c.self.view_is) c.requires

pub set_next-requires : goal.set_next-requires
set_next-requires g c =
    let l_in = first_in _ _ _ _ _ (ap (λ (q : Queued g.row.T.Denot). q.lists) c.self.view_is) c.requires in
    let it = front_some _ _ _ _ _ _ c.args.list c.first-cell.result c.self.invariant (all_valued c.self.inside.cells.items) l_in c.first-cell.ensures c.if-cell.false in
    omega (arith, it.0, long_nexts c.self.inside.cells.items)

pub overflow_add-self : goal.overflow_add-self
overflow_add-self g c = omega (arith, spares_are_few _ _ _ _ _ c.self.invariant)

pub value-requires : goal.value-requires
value-requires g c =
    let l_in = first_in _ _ _ _ _ (ap (λ (q : Queued g.row.T.Denot). q.lists) c.self.view_is) c.requires in
    let it = front_some _ _ _ _ _ _ c.args.list c.first-cell.result c.self.invariant (all_valued c.self.inside.cells.items) l_in c.first-cell.ensures c.if-cell.false in
    omega (arith, it.0, long_nexts c.set_next.new.cells.items, ap (length {A = ℕ}) c.set_next.ensures.nexts, length-set (nexts_of c.self.inside.cells.items) c.first-cell.result c.self.inside.free)

pub invariant_of-self : goal.invariant_of-self
invariant_of-self g c =
    let l_in = first_in _ _ _ _ _ (ap (λ (q : Queued g.row.T.Denot). q.lists) c.self.view_is) c.requires in
    (pops _ _ _ _ _ _ c.args.list c.first-cell.result c.next.result _ _ _ _ c.self.invariant (all_valued c.self.inside.cells.items) l_in c.first-cell.ensures c.if-cell.false c.next.ensures c.set_first.ensures.firsts c.set_first.ensures.lasts c.set_next.ensures.nexts c.set_next.ensures.values).0

pub returns-clause-value : goal.returns-clause-value
returns-clause-value g c =
    let l_in = first_in _ _ _ _ _ (ap (λ (q : Queued g.row.T.Denot). q.lists) c.self.view_is) c.requires in
    let it = front_some _ _ _ _ _ _ c.args.list c.first-cell.result c.self.invariant (all_valued c.self.inside.cells.items) l_in c.first-cell.ensures c.if-cell.false in
    sym (ap (λ (q : Queued g.row.T.Denot). slice_get (list_at q.lists c.args.list) 0) (sym c.self.view_is)
    ∙ it.1
    ∙ ap (λ (vs : List (Option g.row.T.Denot)). get_or vs c.first-cell.result None) (sym c.set_next.ensures.values)
    ∙ c.value.ensures)

pub returns-clause-lists : goal.returns-clause-lists
returns-clause-lists g c =
    let l_in = first_in _ _ _ _ _ (ap (λ (q : Queued g.row.T.Denot). q.lists) c.self.view_is) c.requires in
    (pops _ _ _ _ _ _ c.args.list c.first-cell.result c.next.result _ _ _ _ c.self.invariant (all_valued c.self.inside.cells.items) l_in c.first-cell.ensures c.if-cell.false c.next.ensures c.set_first.ensures.firsts c.set_first.ensures.lasts c.set_next.ensures.nexts c.set_next.ensures.values).1
    ∙ ap (λ (q : Queued g.row.T.Denot). set q.lists c.args.list (drop 1 (list_at q.lists c.args.list))) c.self.view_is
