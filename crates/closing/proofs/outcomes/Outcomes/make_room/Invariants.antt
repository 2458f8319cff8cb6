-- Each request has what it had, and as many are near as the loop has come.
use Rattle.std.proofs.Common.{◌≡◌, ℕ, ◌≤◌, vec_len}
use Rattle.closing.specs.inner.Outcomes.{outcome_at}
use Rattle.closing.proofs.outcomes.Outcomes.make_room.Given as goal

abbrev pub invariant-loop-place : goal.invariant-loop-place
invariant-loop-place l = record {
  room : l.place ≤ vec_len l.self.near;
  most : l.self.most ≡ l.fn.self.most;
  same : (other : ℕ) → outcome_at l.self other ≡ outcome_at l.fn.self other;
}
