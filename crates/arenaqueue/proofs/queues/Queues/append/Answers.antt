use Rattle.std.proofs.Common.{◌≡◌, ◌∙◌, ◌++◌, [], ℕ, List, length, get_or, set, ap, sym, arith, get_or-set_other}
use Rattle.arenaqueue.specs.Numbers.{list_at}
use Rattle.arenaqueue.specs.Queued.{Queued}
use Rattle.arenaqueue.specs.inner.Cells.{firsts_of, nexts_of}
use Rattle.arenaqueue.specs.inner.Chains.{no_cell}
use Rattle.arenaqueue.proofs.CellLemmas.{long_nexts, all_valued}
use Rattle.arenaqueue.proofs.CountingLemmas.{steps_most}
use Rattle.arenaqueue.proofs.QueueLemmas.{first_in, front_none, last_there, leads_out, walk_count, appends, appends_none}
use Rattle.arenaqueue.proofs.queues.Queues.append.Goals as goal

pub returns-then-cell-clause-lists : goal.returns-then-cell-clause-lists
returns-then-cell-clause-lists g c =
    let from_in = first_in _ _ _ _ _ (ap (λ (q : Queued g.row.T.Denot). q.lists) c.self.view_is) c.requires.from in
    let none = front_none _ _ _ _ _ _ c.args.from c.self.invariant from_in (sym c.first-cell.ensures ∙ c.if-cell.true) in
    sym (appends_none c.args.self.now.lists c.args.to c.args.from (ap (λ (q : Queued g.row.T.Denot). list_at q.lists c.args.from) (sym c.self.view_is) ∙ none))

pub returns-then-cell-clause-work : goal.returns-then-cell-clause-work
returns-then-cell-clause-work g c =
    let from_in = first_in _ _ _ _ _ (ap (λ (q : Queued g.row.T.Denot). q.lists) c.self.view_is) c.requires.from in
    let none = front_none _ _ _ _ _ _ c.args.from c.self.invariant from_in (sym c.first-cell.ensures ∙ c.if-cell.true) in
    let empty : length (list_at c.args.self.now.lists c.args.from) ≡ 0 = ap (λ (q : Queued g.row.T.Denot). length (list_at q.lists c.args.from)) (sym c.self.view_is) ∙ ap (length {A = g.row.T.Denot}) none in
    omega (arith, empty, ap (λ (q : Queued g.row.T.Denot). q.work) c.self.view_is)

pub count-moved-requires : goal.count-moved-requires
count-moved-requires g c =
    let from_in = first_in _ _ _ _ _ (ap (λ (q : Queued g.row.T.Denot). q.lists) c.self.view_is) c.requires.from in
    leads_out _ _ _ _ _ c.args.from c.first-cell.result c.self.invariant from_in c.first-cell.ensures

pub join-requires-clause-last : goal.join-requires-clause-last
join-requires-clause-last g c differs =
    let to_in = first_in _ _ _ _ _ (ap (λ (q : Queued g.row.T.Denot). q.lists) c.self.view_is) c.requires.to in
    let same : get_or (firsts_of c.set_first.new.ends.items) c.args.to 0 ≡ get_or (firsts_of c.self.inside.ends.items) c.args.to 0 = ap (λ (xs : List ℕ). get_or xs c.args.to 0) c.set_first.ensures.firsts ∙ get_or-set_other (firsts_of c.self.inside.ends.items) c.args.from c.args.to no_cell 0 c.requires.differ in
    omega (arith, last_there _ _ _ _ _ c.args.to c.self.invariant to_in (λ e. differs (same ∙ e)), ap (λ (xs : List ℕ). get_or xs c.args.to 0) c.set_first.ensures.lasts, long_nexts c.self.inside.cells.items)

pub overflow_mul-moved : goal.overflow_mul-moved
overflow_mul-moved g c = omega (arith, c.count-moved.ensures, steps_most (nexts_of c.self.inside.cells.items) (length (nexts_of c.self.inside.cells.items)) c.first-cell.result, c.self.invariant.chained.small)

pub invariant_of-self : goal.invariant_of-self
invariant_of-self g c =
    let to_in = first_in _ _ _ _ _ (ap (λ (q : Queued g.row.T.Denot). q.lists) c.self.view_is) c.requires.to in
    let from_in = first_in _ _ _ _ _ (ap (λ (q : Queued g.row.T.Denot). q.lists) c.self.view_is) c.requires.from in
    (appends _ _ _ _ _ _ c.args.to c.args.from c.first-cell.result c.last.result _ _ _ _ _ _ c.self.invariant to_in from_in c.requires.differ c.first-cell.ensures c.if-cell.false c.last.ensures c.set_first.ensures.firsts c.set_first.ensures.lasts c.join.ensures.firsts c.join.ensures.lasts c.join.ensures.nexts c.join.ensures.values).0

pub returns-clause-lists : goal.returns-clause-lists
returns-clause-lists g c =
    let to_in = first_in _ _ _ _ _ (ap (λ (q : Queued g.row.T.Denot). q.lists) c.self.view_is) c.requires.to in
    let from_in = first_in _ _ _ _ _ (ap (λ (q : Queued g.row.T.Denot). q.lists) c.self.view_is) c.requires.from in
    (appends _ _ _ _ _ _ c.args.to c.args.from c.first-cell.result c.last.result _ _ _ _ _ _ c.self.invariant to_in from_in c.requires.differ c.first-cell.ensures c.if-cell.false c.last.ensures c.set_first.ensures.firsts c.set_first.ensures.lasts c.join.ensures.firsts c.join.ensures.lasts c.join.ensures.nexts c.join.ensures.values).1
    ∙ ap (λ (q : Queued g.row.T.Denot). set (set q.lists c.args.to (list_at q.lists c.args.to ++ list_at q.lists c.args.from)) c.args.from []) c.self.view_is

pub returns-clause-work : goal.returns-clause-work
returns-clause-work g c =
    let from_in = first_in _ _ _ _ _ (ap (λ (q : Queued g.row.T.Denot). q.lists) c.self.view_is) c.requires.from in
    let moved : c.count-moved.result ≡ length (list_at c.args.self.now.lists c.args.from) =
    c.count-moved.ensures
    ∙ walk_count _ _ _ _ _ _ c.args.from c.first-cell.result c.self.invariant (all_valued c.self.inside.cells.items) from_in c.first-cell.ensures
    ∙ ap (λ (q : Queued g.row.T.Denot). length (list_at q.lists c.args.from)) c.self.view_is in
    omega (arith, moved, c.saturating_add-self-inside.ensures, ap (λ (q : Queued g.row.T.Denot). q.work) c.self.view_is)
