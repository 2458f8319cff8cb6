-- What is listed so far and the numbers of the other fields are those of all.
use Rattle.std.proofs.Common.{◌≡◌, ◌++◌, drop}
use Rattle.closing.specs.Called.{naturals_in}
use Rattle.closing.proofs.keys.push_naturals.Given as goal

abbrev pub invariant-loop-field : goal.invariant-loop-field
invariant-loop-field l = l.into.items ++ naturals_in (drop l.field-index l.fields) ≡ l.fn.into.items ++ naturals_in l.fields
