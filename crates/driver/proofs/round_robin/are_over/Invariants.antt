-- Those looked at are over.
use Rattle.std.proofs.Common.{◌≡◌, true, All, take}
use Rattle.driver.proofs.round_robin.are_over.Given as goal

abbrev pub invariant-loop-turn : goal.invariant-loop-turn
invariant-loop-turn l = All (λ turn. turn.over ≡ true) (take l.turn-index l.turns)
