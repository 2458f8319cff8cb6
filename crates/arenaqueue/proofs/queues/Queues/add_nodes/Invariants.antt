use Rattle.std.proofs.Common.{◌≡◌, ◌+◌, ◌≤◌, length}
use Rattle.std.specs.Vec.{vec_capacity}
use Rattle.arenaqueue.specs.inner.Cells.{firsts_of, lasts_of, nexts_of, values_of}
use Rattle.arenaqueue.specs.inner.Chains.{no_cell, queues_of, AreQueues}
use Rattle.arenaqueue.proofs.queues.Queues.add_nodes.Given as goal

-- so many nodes were made, and there is room for the others
abbrev pub invariant-loop : goal.invariant-loop
invariant-loop g l = record {
  queues : AreQueues (firsts_of l.self-inside.ends.items) (lasts_of l.self-inside.ends.items) (nexts_of l.self-inside.cells.items) l.self-inside.free l.self-inside.spare;
  ends : l.self-inside.ends ≡ l.initial.self-inside.ends;
  lists : queues_of (firsts_of l.self-inside.ends.items) (nexts_of l.self-inside.cells.items) (values_of l.self-inside.cells.items) ≡ queues_of (firsts_of l.initial.self-inside.ends.items) (nexts_of l.initial.self-inside.cells.items) (values_of l.initial.self-inside.cells.items);
  made : l.self-inside.spare ≡ l.initial.self-inside.spare + l.counter;
  long : length l.self-inside.cells.items ≡ length l.initial.self-inside.cells.items + l.counter;
  room : length l.initial.self-inside.cells.items + l.more ≤ vec_capacity l.self-inside.cells;
  few : length l.initial.self-inside.cells.items + l.more ≤ no_cell;
  work : l.self-inside.work ≡ l.initial.self-inside.work;
}
