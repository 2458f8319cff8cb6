-- The end is that of the lemmas.
use Rattle.std.proofs.Common.{refl}
use Rattle.cli_memory.proofs.CloseInMemory.{closes}
use Rattle.cli_memory.proofs.InMemoryLemmas.{checks}
use Rattle.cli_memory.proofs.JudgeInMemory.{judges}
use Rattle.cli_memory.proofs.LintInMemory.{lints}
use Rattle.cli_memory.proofs.in_memory.program_in_memory.Goals as goal

pub returns-clause-check : goal.returns-clause-check
returns-clause-check g c other = checks _ _ _ _ _ _ _ _ _ _ _ c.program.ensures other

pub returns-clause-lint : goal.returns-clause-lint
returns-clause-lint g c other = lints _ _ _ _ _ _ _ _ _ _ _ c.program.ensures other

pub returns-clause-judge : goal.returns-clause-judge
returns-clause-judge g c other = judges _ _ _ _ _ _ _ _ _ _ _ c.program.ensures (λ path. refl) other

pub returns-clause-close : goal.returns-clause-close
returns-clause-close g c other = closes _ _ _ _ _ _ _ _ _ _ _ c.program.ensures (λ path. refl) refl other
