-- The numbers so far.
use Rattle.std.proofs.Common.{◌≡◌, take}
use Rattle.mpicall.proofs.reqs.Reqs.new.Given as goal

abbrev pub invariant-loop-at : goal.invariant-loop-at
invariant-loop-at l = l.reqs ≡ take l.at l.numbers
