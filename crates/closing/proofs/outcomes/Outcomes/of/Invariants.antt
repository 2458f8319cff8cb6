-- What the lines from here on leave of what is kept is what all lines leave.
use Rattle.std.proofs.Common.{◌≡◌, ℕ, drop}
use Rattle.closing.specs.inner.Outcomes.{outcome_after, outcome_at}
use Rattle.closing.specs.declared.outcomes.Outcome.TheVariants.{Unknown}
use Rattle.closing.proofs.outcomes.Outcomes.of.Given as goal

abbrev pub invariant-loop-line : goal.invariant-loop-line
invariant-loop-line l =
    (request : ℕ) → outcome_after (drop l.line l.lines) l.line request (outcome_at l.outcomes request) ≡ outcome_after l.lines 0 request Unknown
