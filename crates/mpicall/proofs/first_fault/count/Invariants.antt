-- The fields that were counted and those that are left are all.
use Rattle.std.proofs.Common.{◌≡◌, ◌+◌, length}
use Rattle.mpicall.proofs.first_fault.count.Given as goal

abbrev pub invariant-loop-fields : goal.invariant-loop-fields
invariant-loop-fields l = l.count + length l.fields ≡ length l.fn.fields

abbrev pub decreases-loop-fields : goal.decreases-loop-fields
decreases-loop-fields l = length l.fields
