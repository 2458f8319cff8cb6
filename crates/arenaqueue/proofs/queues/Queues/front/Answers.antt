use Rattle.std.proofs.Common.{◌∙◌, List, ap, sym, arith}
use Rattle.std.specs.List.{slice_get}
use Rattle.arenaqueue.specs.Numbers.{list_at}
use Rattle.arenaqueue.specs.Queued.{Queued}
use Rattle.arenaqueue.proofs.CellLemmas.{long_nexts, all_valued}
use Rattle.arenaqueue.proofs.QueueLemmas.{first_in, list_in, front_some, front_none}
use Rattle.arenaqueue.proofs.queues.Queues.front.Goals as goal

pub first-foremost-requires : goal.first-foremost-requires
first-foremost-requires g c = list_in _ _ _ _ _ (ap (λ (q : Queued g.row.T.Denot). q.lists) c.self.view_is) c.requires

pub returns-then-foremost : goal.returns-then-foremost
returns-then-foremost g c =
    let l_in = first_in _ _ _ _ _ (ap (λ (q : Queued g.row.T.Denot). q.lists) c.self.view_is) c.requires in
    sym (ap (λ (q : Queued g.row.T.Denot). slice_get (list_at q.lists c.args.list) 0) (sym c.self.view_is)
    ∙ ap (λ (vs : List g.row.T.Denot). slice_get vs 0) (front_none _ _ _ _ _ _ c.args.list c.self.invariant l_in (sym c.first-foremost.ensures ∙ c.if-foremost.true)))

pub value-requires : goal.value-requires
value-requires g c =
    let l_in = first_in _ _ _ _ _ (ap (λ (q : Queued g.row.T.Denot). q.lists) c.self.view_is) c.requires in
    let it = front_some _ _ _ _ _ _ c.args.list c.first-foremost.result c.self.invariant (all_valued c.self.inside.cells.items) l_in c.first-foremost.ensures c.if-foremost.false in
    omega (arith, it.0, long_nexts c.self.inside.cells.items)

pub returns : goal.returns
returns g c =
    let l_in = first_in _ _ _ _ _ (ap (λ (q : Queued g.row.T.Denot). q.lists) c.self.view_is) c.requires in
    let it = front_some _ _ _ _ _ _ c.args.list c.first-foremost.result c.self.invariant (all_valued c.self.inside.cells.items) l_in c.first-foremost.ensures c.if-foremost.false in
    sym (ap (λ (q : Queued g.row.T.Denot). slice_get (list_at q.lists c.args.list) 0) (sym c.self.view_is) ∙ it.1 ∙ c.value.ensures)
