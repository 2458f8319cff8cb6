-- The lines so far aren't free.
use Rattle.std.proofs.Common.{◌≡◌, ℕ, ◌+◌, List, drop}
use Rattle.closing.specs.inner.Prefaces.{AreRanks, IsPreface, Seated, first_free}
use Rattle.closing.proofs.numbers.Preface.first_free.Given as goal

abbrev pub invariant-loop-line : goal.invariant-loop-line
invariant-loop-line l = AreRanks l.self.ranks l.group → (next : ℕ) (lines : List (List Seated)) → IsPreface l.self next lines → first_free l.group lines ≡ l.line + first_free l.group (drop l.line lines)
