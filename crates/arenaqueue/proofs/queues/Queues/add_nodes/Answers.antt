use Rattle.std.proofs.Common.{◌≡◌, ◌<◌, ◌∷◌, [], ◌∙◌, ℕ, length, ap, arith, length-append}
use Rattle.arenaqueue.specs.inner.Cells.{nexts_of}
use Rattle.arenaqueue.specs.inner.Chains.{no_cell}
use Rattle.arenaqueue.proofs.CellLemmas.{as_many, long_nexts}
use Rattle.arenaqueue.proofs.QueueLemmas.{spares_one, spares_are_few}
use Rattle.arenaqueue.proofs.queues.Queues.add_nodes.Goals as goal

pub overflow_add-self : goal.overflow_add-self
overflow_add-self g c = omega (arith, spares_are_few _ _ _ _ _ c.loop.invariant.queues)

pub loop-preserved : goal.loop-preserved
loop-preserved g c =
    let h = c.loop.invariant in
    let long : length (nexts_of c.loop.self-inside.cells.items) ≡ length c.loop.self-inside.cells.items = long_nexts c.loop.self-inside.cells.items in
    let few : length (nexts_of c.loop.self-inside.cells.items) < no_cell = omega (arith, long, h.long, h.few, c.loop-test.true) in
    let cell : c.len-cell.result ≡ length (nexts_of c.loop.self-inside.cells.items) = omega (arith, long, c.len-cell.ensures, c.loop.self-inside.cells.ok.0) in
    let more = spares_one _ _ _ _ _ _ c.len-cell.result _ _ _ h.queues (as_many c.loop.self-inside.cells.items) few cell c.add.ensures.nexts c.add.ensures.values in record {
      queues = more.0;
      ends = h.ends;
      lists = more.1 ∙ h.lists;
      made = omega (arith, h.made);
      long = omega (arith, long, h.long, long_nexts c.add.new.cells.items, ap (length {A = ℕ}) c.add.ensures.nexts, length-append (nexts_of c.loop.self-inside.cells.items) (c.loop.self-inside.free ∷ []));
      room = omega (arith, h.room, c.add.ensures.room);
      few = h.few;
      work = h.work;
    }
