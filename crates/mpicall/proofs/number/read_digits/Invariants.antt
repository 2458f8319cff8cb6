-- The value so far, followed by the bytes that are left, is the field's; what was read are digits.
use Rattle.std.proofs.Common.{◌≡◌, ◌≤◌, drop}
use Rattle.std.specs.Str.{all_ascii_digits}
use Rattle.mpicall.specs.Number.{value_after, value_of}
use Rattle.mpicall.proofs.number.read_digits.Given as goal

abbrev pub invariant-loop-byte : goal.invariant-loop-byte
invariant-loop-byte l = record {
  digits : all_ascii_digits (drop l.byte-index l.field) ≡ all_ascii_digits l.field;
  value : value_after l.value (drop l.byte-index l.field) ≡ value_of l.field;
  within : l.value ≤ l.limit;
}
