use Rattle.std.proofs.Common.{length, ap, arith}
use Rattle.arenaqueue.specs.Queued.{Queued}
use Rattle.arenaqueue.specs.inner.Cells.{firsts_of, nexts_of, values_of}
use Rattle.arenaqueue.proofs.CellLemmas.{long_firsts}
use Rattle.arenaqueue.proofs.QueueLemmas.{queue_count}
use Rattle.arenaqueue.proofs.queues.Queues.list_count.Goals as goal

pub returns : goal.returns
returns g c = omega (arith, c.len.ensures, queue_count (firsts_of c.self.inside.ends.items) (nexts_of c.self.inside.cells.items) (values_of c.self.inside.cells.items), long_firsts c.self.inside.ends.items, ap (λ (q : Queued g.row.T.Denot). length q.lists) c.self.view_is)
