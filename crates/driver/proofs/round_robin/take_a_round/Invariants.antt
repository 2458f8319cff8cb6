-- The turns are later ones.
use Rattle.std.proofs.Common.{◌≡◌, vec_len}
use Rattle.driver.specs.inner.Turns.{at_turns, AreLater}
use Rattle.driver.proofs.round_robin.take_a_round.Given as goal

abbrev pub invariant-loop-rank : goal.invariant-loop-rank
invariant-loop-rank g l = record {
  later : AreLater g.I.Input.left (g.G.Gate.may_answer l.gate) (at_turns l.fn.sources.items l.fn.turns.items) l.fn.ledger (at_turns l.sources.items l.turns.items) l.ledger;
  sources : vec_len l.sources ≡ vec_len l.fn.sources;
  turns : vec_len l.turns ≡ vec_len l.fn.turns;
}
