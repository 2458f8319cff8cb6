-- The lines of the calls so far are put.
use Rattle.std.proofs.Common.{take}
use Rattle.std.specs.List.{flat_map}
use Rattle.mpicall.specs.Spelling.{spelling}
use Rattle.judging.specs.inner.Closed.{IsPut}
use Rattle.judging.proofs.close.put_calls.Given as goal

abbrev pub invariant-loop-call : goal.invariant-loop-call
invariant-loop-call g l = IsPut (g.O.Output.written l.fn.out) (g.O.Output.written l.out) l.fn.page l.page (flat_map spelling (take l.call-index l.calls))
