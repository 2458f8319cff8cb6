-- What the threads that ended promised has come; the rest still promise it.
use Rattle.std.proofs.Common.{◌≡◌, ◌+◌, ◌≤◌, length, vec_len, vec_capacity}
use Rattle.std.specs.Vec.Iter.{into_iter_items, into_iter_len}
use Rattle.driver.proofs.ThreadLemmas.{Comes}
use Rattle.driver.proofs.threads.Started.finish_all.Given as goal

abbrev pub invariant-loop-thread : goal.invariant-loop-thread
invariant-loop-thread g l = record {
  can_next : (goal.iterator-loop-thread g).can_next l.thread-iterator;
  is_finite : (goal.iterator-loop-thread g).is_finite l.thread-iterator;
  threads : vec_len l.fed + into_iter_len l.thread-iterator ≡ vec_len l.fn.started;
  threads_len : into_iter_len l.thread-iterator ≡ length (into_iter_items l.thread-iterator);
  room : vec_len l.fn.started ≤ vec_capacity l.fed;
  comes : Comes g.I.Input.left g.G.Gate.may_answer l.fn.started.items l.fed.items (into_iter_items l.thread-iterator);
}
