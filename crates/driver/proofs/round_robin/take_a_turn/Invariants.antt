-- The turn is a later one.
use Rattle.driver.specs.inner.Turns.{at_turn, IsLater}
use Rattle.driver.proofs.round_robin.take_a_turn.Given as goal

abbrev pub invariant-loop : goal.invariant-loop
invariant-loop g l = IsLater g.I.Input.left (g.G.Gate.may_answer l.gate) l.rank (at_turn l.fn.source l.fn.turn) l.fn.ledger (at_turn l.source l.turn) l.ledger
