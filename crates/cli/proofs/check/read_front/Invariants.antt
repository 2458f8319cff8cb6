-- What was read and what is left are the input's bytes, and no read failed.
use Rattle.std.proofs.Common.{◌≡◌, ◌≤◌, ◌-◌, vec_len}
use Rattle.std.specs.Io.KnownBytes.{Keeps, prepend_known}
use Rattle.cli.specs.inner.Front.{deciding_bytes}
use Rattle.cli.proofs.check.read_front.Given as goal

abbrev pub invariant-pieces : goal.invariant-pieces
invariant-pieces g l = record {
  within : vec_len l.front ≤ deciding_bytes;
  known : Keeps (g.I.Input.left l.fn.input) (prepend_known l.front.items (g.I.Input.left l.input));
  failures : g.I.Input.failures l.input ≡ g.I.Input.failures l.fn.input;
}

abbrev pub decreases-pieces : goal.decreases-pieces
decreases-pieces g l = deciding_bytes - vec_len l.front
