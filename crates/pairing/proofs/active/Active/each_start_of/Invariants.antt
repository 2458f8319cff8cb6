use Rattle.std.proofs.Common.{◌≡◌, Some, map, take}
use Rattle.pairing.specs.inner.Starts.{place_in}
use Rattle.pairing.proofs.active.Active.each_start_of.Given as goal

-- the requests so far are active, and what started them is written
abbrev pub invariant-loop-i : goal.invariant-loop-i
invariant-loop-i l = map Some (take l.i l.into) ≡ map (place_in l.self l.rank) (take l.i l.reqs)
