-- What a lint tells of a source is told of the text that its input gives.
use Rattle.std.proofs.Common.{◌≡◌, ℕ, Bool, true, false, cond, Option, Some, None, Result, Ok, Err, IfSome, List, option_map, subst, sym, ap, ◌∙◌, refl}
use Rattle.mpicall.specs.Lines.{lines_of}
use Rattle.mpicall.specs.Trace.{Trace, IsTraceOf, trace_of}
use Rattle.mpicall.specs.Lint.{TellsTrace}
use Rattle.mpicall.specs.declared.lint.LintFault.{LintFault}
use Rattle.cli.proofs.TraceLemmas.{trace_read}
use Rattle.cli.specs.Faults.{of_lint}
use Rattle.cli.specs.Lints.{IsCountOf, IsTraceFault, IsFaultOfTrace}
use Rattle.cli.specs.declared.fault.Fault.{Fault}
use Rattle.cli.specs.declared.fault.Fault.TheVariants.{LintRefused, LintFailed}
use Rattle.driver.specs.VerdictContract.{is_from_outside}
use Rattle.gather.specs.declared.fault.RankFault.TheVariants.{OfSource}

told_is : (told : Option (List ℕ)) (known : Option Trace) (answer : Result ℕ LintFault) → known ≡ option_map trace_of told → TellsTrace known answer → IfSome told (λ text. (trace : Trace) → IsTraceOf (lines_of text) trace → TellsTrace (Some trace) answer)
told_is None known answer is tells = tt
told_is (Some text) known answer is tells = λ trace holds. subst (λ k. TellsTrace k answer) (is ∙ ap Some (sym (trace_read text trace holds))) tells

pub count_is : (told left : Option (List ℕ)) (known : Option Trace) (count : ℕ) → left ≡ told → known ≡ option_map trace_of left → TellsTrace known (Ok count) → IsCountOf told count
count_is told left known count same is tells = told_is told known (Ok count) (subst (λ l. known ≡ option_map trace_of l) same is) tells

by_failure : (told : List ℕ → Option (List ℕ)) (file : List ℕ) (fault : LintFault) (failure : Bool) → is_from_outside (OfSource fault.fault) ≡ failure → IsTraceFault (told file) fault → IsFaultOfTrace told file (cond failure (LintFailed fault) (LintRefused fault))
by_failure told file fault true is says = (says, is)
by_failure told file fault false is says = (says, is)

pub fault_is : (told : List ℕ → Option (List ℕ)) (file : List ℕ) (left : Option (List ℕ)) (known : Option Trace) (fault : LintFault) (answer : Fault) → left ≡ told file → known ≡ option_map trace_of left → TellsTrace known (Err fault) → answer ≡ of_lint fault → IsFaultOfTrace told file answer
fault_is told file left known fault answer same is tells of =
    subst (λ f. IsFaultOfTrace told file f) (sym of)
    (by_failure told file fault (is_from_outside (OfSource fault.fault)) refl (told_is (told file) known (Err fault) (subst (λ l. known ≡ option_map trace_of l) same is) tells))
