-- What a lint answers, by the text of its file where that is known.
use Rattle.std.specs.Prelude.{◌≡◌, ℕ, true, false, Option, Some, Ok, Err, IfSome, List, ⊤}
use Rattle.mpicall.specs.Lines.{lines_of}
use Rattle.mpicall.specs.Trace.{Trace, IsTraceOf}
use Rattle.mpicall.specs.Lint.{TellsTrace}
use Rattle.mpicall.specs.declared.lint.LintFault.{LintFault}
use Rattle.gather.specs.declared.fault.RankFault.TheVariants.{OfSource}
use Rattle.driver.specs.VerdictContract.{is_from_outside}
use Rattle.cli.specs.Texts.{IsUnopened}
use Rattle.cli.specs.declared.fault.Fault.{Fault}
use Rattle.cli.specs.declared.fault.Fault.TheVariants.{Open, LintRefused, LintFailed, Memory, Write}

-- the text is a trace without a fault, and has so many calls
abbrev pub IsCountOf : Option (List ℕ) → ℕ → Type 0
IsCountOf told count = IfSome told (λ text. (trace : Trace) → IsTraceOf (lines_of text) trace → TellsTrace (Some trace) (Ok count))

-- the fault is that of the text's trace, at its place, or that of a read that failed
abbrev pub IsTraceFault : Option (List ℕ) → LintFault → Type 0
IsTraceFault told fault = IfSome told (λ text. (trace : Trace) → IsTraceOf (lines_of text) trace → TellsTrace (Some trace) (Err fault))

-- the file couldn't be opened, or its trace has a fault
abbrev pub IsFaultOfTrace : (List ℕ → Option (List ℕ)) → List ℕ → Fault → Type 0
IsFaultOfTrace told file (Open path) = (path.now ≡ file) × IsUnopened told file
IsFaultOfTrace told file (LintRefused fault) = IsTraceFault (told file) fault × (is_from_outside (OfSource fault.fault) ≡ false)
IsFaultOfTrace told file (LintFailed fault) = IsTraceFault (told file) fault × (is_from_outside (OfSource fault.fault) ≡ true)
IsFaultOfTrace told file fault = ⊥

-- the same, or memory ran out, or the answer couldn't be written
abbrev pub IsFaultOfLint : (List ℕ → Option (List ℕ)) → List ℕ → Fault → Type 0
IsFaultOfLint told file Memory = ⊤
IsFaultOfLint told file Write = ⊤
IsFaultOfLint told file fault = IsFaultOfTrace told file fault
