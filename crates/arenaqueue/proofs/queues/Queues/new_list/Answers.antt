use Rattle.std.proofs.Common.{[], ◌∷◌, ◌++◌, ◌∙◌, ap}
use Rattle.arenaqueue.specs.Queued.{Queued}
use Rattle.arenaqueue.specs.inner.Cells.{values_of}
use Rattle.arenaqueue.proofs.CellLemmas.{ends_more}
use Rattle.arenaqueue.proofs.QueueLemmas.{lists_one}
use Rattle.arenaqueue.proofs.queues.Queues.new_list.Goals as goal

pub invariant_of-self-2 : goal.invariant_of-self-2
invariant_of-self-2 g c =
    let more = ends_more _ _ _ _ c.in_ok-reserve.ensures.items c.push_reserved.ensures.items in
    (lists_one _ _ _ (values_of c.self.inside.cells.items) _ _ _ _ _ c.self.invariant more.0 more.1).0

pub returns-clause-lists : goal.returns-clause-lists
returns-clause-lists g c =
    let more = ends_more _ _ _ _ c.in_ok-reserve.ensures.items c.push_reserved.ensures.items in
    (lists_one _ _ _ (values_of c.self.inside.cells.items) _ _ _ _ _ c.self.invariant more.0 more.1).1
    ∙ ap (λ (q : Queued g.row.T.Denot). q.lists ++ [] ∷ []) c.self.view_is
