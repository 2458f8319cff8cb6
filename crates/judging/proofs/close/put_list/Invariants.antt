-- With each entry less of the rank's journal is left.
use Rattle.std.proofs.Common.{◌<◌, ◌+◌, ◌^◌}
use Rattle.closing.specs.Recordings.{count_at}
use Rattle.judging.specs.inner.Closed.{IsUnbegun}
use Rattle.judging.proofs.CloseLemmas.{IsPutSoFar}
use Rattle.judging.proofs.close.put_list.Given as goal

abbrev pub invariant-loop-entry : goal.invariant-loop-entry
invariant-loop-entry g l = record {
  put : IsUnbegun l.rank l.fn.recording → IsPutSoFar (g.O.Output.written l.fn.out) (g.O.Output.written l.out) l.fn.page l.page l.rank l.fn.recording l.recording;
  few : 0 < l._entry → count_at l.recording.left l.rank + l._entry < 2 ^ 32;
}
