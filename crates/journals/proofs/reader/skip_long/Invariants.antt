-- What came so far is too much for a line, and has no line feed; no read failed.
use Rattle.std.proofs.Common.{◌≡◌}
use Rattle.std.specs.Io.KnownBytes.{prepend_known}
use Rattle.journals.specs.Inputs.{input_within, text_left}
use Rattle.journals.specs.inner.Reader.{PassesOver}
use Rattle.journals.proofs.reader.skip_long.Given as goal

abbrev pub invariant-loop : goal.invariant-loop
invariant-loop g l = record {
  passes : PassesOver (prepend_known l.fn.window (text_left g.I.Input.left l.fn.text)) (text_left g.I.Input.left l.text);
  count : g.I.Input.failures (input_within l.text) ≡ g.I.Input.failures (input_within l.fn.text);
}
