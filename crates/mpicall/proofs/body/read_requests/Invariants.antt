-- The requests so far and the fields that are left are all the fields.
use Rattle.std.proofs.Common.{length}
use Rattle.mpicall.proofs.BodyLemmas.{SoFar}
use Rattle.mpicall.proofs.body.read_requests.Given as goal

abbrev pub invariant-loop-fields : goal.invariant-loop-fields
invariant-loop-fields l = SoFar l.fn.fields l.reqs l.fields

abbrev pub decreases-loop-fields : goal.decreases-loop-fields
decreases-loop-fields l = length l.fields
