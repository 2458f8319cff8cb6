use Rattle.std.proofs.Common.{◌≡◌, length, take}
use Rattle.mpicall.specs.declared.limits.TheConstants.{MOST_REQUESTS}
use Rattle.callstore.specs.inner.Packed.{reqs_at}
use Rattle.callstore.proofs.packing.reqs_at.Given as goal

-- the requests that the calls at the places so far start are written
abbrev pub invariant-loop-i : goal.invariant-loop-i
invariant-loop-i l = record {
  written : take l.i l.reqs ≡ reqs_at l.entries.items (take l.i l.places);
  room : length l.reqs ≡ MOST_REQUESTS;
}
