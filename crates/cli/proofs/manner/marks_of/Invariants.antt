use Rattle.std.proofs.Common.{◌≡◌, ℕ, ◌<◌, Bool, false, length, get_or, map}
use Rattle.cli.specs.Choices.{is_named}
use Rattle.cli.proofs.manner.marks_of.Given as goal

abbrev pub invariant-loop-rank : goal.invariant-loop-rank
invariant-loop-rank l = (length l.marks ≡ 1024) × ((k : ℕ) → k < l.rank → get_or l.marks k false ≡ is_named (map (λ text. text.now) l.texts) k)
