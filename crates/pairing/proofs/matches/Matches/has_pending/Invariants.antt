use Rattle.std.proofs.Common.{◌≡◌, ℕ, ◌<◌, []}
use Rattle.pairing.specs.inner.Matched.{pending_at}
use Rattle.pairing.proofs.matches.Matches.has_pending.Given as goal

-- none is pending of the envelopes so far
abbrev pub invariant-loop-number : goal.invariant-loop-number
invariant-loop-number l = (number : ℕ) → number < l.number → pending_at l.self.lists l.half number ≡ []
