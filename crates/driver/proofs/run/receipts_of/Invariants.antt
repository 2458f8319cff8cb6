-- The receipts so far, and those that are still to come, are all.
use Rattle.std.proofs.Common.{◌≡◌, ◌+◌, ◌≤◌, ◌++◌, map, length, vec_len, vec_capacity}
use Rattle.std.specs.Vec.Iter.{into_iter_items, into_iter_len}
use Rattle.driver.specs.inner.Runs.{receipt_of}
use Rattle.driver.proofs.run.receipts_of.Given as goal

abbrev pub invariant-loop-one : goal.invariant-loop-one
invariant-loop-one l = record {
  can_next : (goal.iterator-loop-one).can_next l.one-iterator;
  is_finite : (goal.iterator-loop-one).is_finite l.one-iterator;
  count : vec_len l.receipts + into_iter_len l.one-iterator ≡ vec_len l.fn.fed;
  rest_len : into_iter_len l.one-iterator ≡ length (into_iter_items l.one-iterator);
  room : vec_len l.fn.fed ≤ vec_capacity l.receipts;
  all : l.receipts.items ++ map receipt_of (into_iter_items l.one-iterator) ≡ map receipt_of l.fn.fed.items;
}
