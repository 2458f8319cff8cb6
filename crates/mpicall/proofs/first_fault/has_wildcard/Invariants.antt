-- As many fields are left out as were counted.
use Rattle.std.proofs.Common.{◌≡◌, drop}
use Rattle.mpicall.proofs.first_fault.has_wildcard.Given as goal

abbrev pub invariant-loop : goal.invariant-loop
invariant-loop l = l.fields ≡ drop l.counter l.fn.fields
