use Rattle.std.proofs.Common.{◌≡◌, ◌+◌, ◌-◌, ◌<◌, ◌∙◌, ◌++◌, ◌∷◌, [], ℕ, length, set, ap, arith}
use Rattle.std.proofs.lemmas.List.{length-set}
use Rattle.arenaqueue.specs.Numbers.{list_at}
use Rattle.arenaqueue.specs.Queued.{Queued}
use Rattle.arenaqueue.specs.inner.Cells.{nexts_of}
use Rattle.arenaqueue.specs.inner.Chains.{no_cell}
use Rattle.arenaqueue.proofs.CellLemmas.{as_many, long_nexts}
use Rattle.arenaqueue.proofs.QueueLemmas.{first_in, spare_first, last_there, pushes}
use Rattle.arenaqueue.proofs.queues.Queues.push_reserved.Goals as goal

pub next-self-inside-requires : goal.next-self-inside-requires
next-self-inside-requires g c =
    let some : 0 < c.self.inside.spare = omega (arith, c.requires.room, ap (λ (q : Queued g.row.T.Denot). q.spare) c.self.view_is) in
    omega (arith, (spare_first _ _ _ _ _ c.self.invariant some).2, long_nexts c.self.inside.cells.items)

pub put-requires : goal.put-requires
put-requires g c =
    let some : 0 < c.self.inside.spare = omega (arith, c.requires.room, ap (λ (q : Queued g.row.T.Denot). q.spare) c.self.view_is) in
    omega (arith, (spare_first _ _ _ _ _ c.self.invariant some).2, long_nexts c.self.inside.cells.items)

pub join-requires-clause-last : goal.join-requires-clause-last
join-requires-clause-last g c differs =
    let l_in = first_in _ _ _ _ _ (ap (λ (q : Queued g.row.T.Denot). q.lists) c.self.view_is) c.requires.list in
    let long : length (nexts_of c.put.new.cells.items) ≡ length (nexts_of c.self.inside.cells.items) = ap (length {A = ℕ}) c.put.ensures.nexts ∙ length-set (nexts_of c.self.inside.cells.items) c.self.inside.free no_cell in
    omega (arith, last_there _ _ _ _ _ c.args.list c.self.invariant l_in differs, long, long_nexts c.put.new.cells.items)

pub invariant_of-self : goal.invariant_of-self
invariant_of-self g c =
    let some : 0 < c.self.inside.spare = omega (arith, c.requires.room, ap (λ (q : Queued g.row.T.Denot). q.spare) c.self.view_is) in
    let one : c.self.inside.spare - 1 + 1 ≡ c.self.inside.spare = omega (arith, some) in
    let l_in = first_in _ _ _ _ _ (ap (λ (q : Queued g.row.T.Denot). q.lists) c.self.view_is) c.requires.list in
    (pushes _ _ _ _ _ _ _ c.args.list c.next-self-inside.result c.args.value _ _ _ _ _ c.self.invariant (as_many c.self.inside.cells.items) some one l_in c.next-self-inside.ensures c.put.ensures.nexts c.join.ensures.firsts c.join.ensures.lasts c.join.ensures.nexts (c.join.ensures.values ∙ c.put.ensures.values)).0

pub returns-clause-lists : goal.returns-clause-lists
returns-clause-lists g c =
    let some : 0 < c.self.inside.spare = omega (arith, c.requires.room, ap (λ (q : Queued g.row.T.Denot). q.spare) c.self.view_is) in
    let one : c.self.inside.spare - 1 + 1 ≡ c.self.inside.spare = omega (arith, some) in
    let l_in = first_in _ _ _ _ _ (ap (λ (q : Queued g.row.T.Denot). q.lists) c.self.view_is) c.requires.list in
    (pushes _ _ _ _ _ _ _ c.args.list c.next-self-inside.result c.args.value _ _ _ _ _ c.self.invariant (as_many c.self.inside.cells.items) some one l_in c.next-self-inside.ensures c.put.ensures.nexts c.join.ensures.firsts c.join.ensures.lasts c.join.ensures.nexts (c.join.ensures.values ∙ c.put.ensures.values)).1
    ∙ ap (λ (q : Queued g.row.T.Denot). set q.lists c.args.list (list_at q.lists c.args.list ++ c.args.value ∷ [])) c.self.view_is
