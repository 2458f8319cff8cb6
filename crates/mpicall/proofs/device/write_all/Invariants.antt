-- What is done was written, without a failure.
use Rattle.std.proofs.Common.{◌≡◌, ◌≤◌, ◌-◌, length, take}
use Rattle.std.specs.Io.KnownBytes.{Appends}
use Rattle.mpicall.proofs.device.write_all.Given as goal

abbrev pub invariant-loop-done : goal.invariant-loop-done
invariant-loop-done g l = record {
  within : l.done ≤ length l.bytes;
  written : Appends (g.O.Output.written l.fn.output) (g.O.Output.written l.output) (take l.done l.bytes);
  count : g.O.Output.failures l.output ≡ g.O.Output.failures l.fn.output;
}

abbrev pub decreases-loop-done : goal.decreases-loop-done
decreases-loop-done g l = length l.bytes - l.done
