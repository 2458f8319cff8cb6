-- One turn more was looked at, or all were.
use Rattle.std.proofs.Common.{◌≡◌, true, arith}
use Rattle.std.proofs.lemmas.List.Elements.{All-more}
use Rattle.driver.specs.inner.Turns.{first_turn}
use Rattle.driver.proofs.TurnLemmas.{over_all}
use Rattle.driver.proofs.round_robin.are_over.Goals as goal

pub loop-turn-preserved : goal.loop-turn-preserved
loop-turn-preserved c = All-more (λ turn. turn.over ≡ true) c.args.turns.now c.loop-turn.turn-index first_turn (omega arith) c.loop-turn.invariant c.if-not-turn.false

pub returns : goal.returns
returns c h = over_all (λ turn. turn.over ≡ true) c.args.turns.now c.loop-turn.turn-index (omega arith) c.loop-turn.invariant
