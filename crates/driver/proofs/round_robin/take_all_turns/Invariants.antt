-- The turns are later ones.
use Rattle.std.proofs.Common.{◌≡◌, vec_len}
use Rattle.driver.specs.inner.Turns.{at_turns, AreLater}
use Rattle.driver.proofs.round_robin.take_all_turns.Given as goal

abbrev pub invariant-loop : goal.invariant-loop
invariant-loop g l = record {
  can_next : (goal.iterator-loop g).can_next l.iterator';
  is_finite : (goal.iterator-loop g).is_finite l.iterator';
  turns : AreLater g.I.Input.left (g.G.Gate.may_answer l.gate) (at_turns l.fn.sources.items l.fn.turns.items) l.fn.ledger (at_turns l.sources.items l.turns.items) l.ledger;
  sources : vec_len l.sources ≡ vec_len l.fn.sources;
  one_a_source : vec_len l.turns ≡ vec_len l.sources;
}
