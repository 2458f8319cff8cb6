-- All was received of the ranks so far that have a receipt, and the first without one is known.
use Rattle.std.proofs.Common.{◌≡◌, length, drop}
use Rattle.std.specs.Vec.Iter.{into_iter_items, into_iter_len}
use Rattle.gather.proofs.FinishLemmas.{Finishes}
use Rattle.gather.proofs.collector.Collector.finish_all.Given as goal

abbrev pub invariant-loop-rank : goal.invariant-loop-rank
invariant-loop-rank l = record {
  finished : Finishes l.fn.self l.self l.fn.receipts.items l.rank l.missing;
  rest_len : into_iter_len l.receipts ≡ length (into_iter_items l.receipts);
  rest : into_iter_items l.receipts ≡ drop l.rank l.fn.receipts.items;
}
