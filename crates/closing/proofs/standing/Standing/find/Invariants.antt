-- What is listed so far and what the others are is what all are.
use Rattle.std.proofs.Common.{◌≡◌, ◌++◌, drop}
use Rattle.closing.specs.inner.Standings.{ids_in}
use Rattle.closing.proofs.standing.Standing.find.Given as goal

abbrev pub invariant-loop-field : goal.invariant-loop-field
invariant-loop-field l = l.into.items ++ ids_in l.self (drop l.field-index l.requests) ≡ ids_in l.self l.requests
