-- How a lint of a file in memory ends, by what the program ends with.
use Rattle.std.proofs.Common.{◌≡◌, ◌≢◌, ◌∙◌, ℕ, Bool, true, false, Option, Some, None, Ok, Err, IfSome, List, [], ◌∷◌, ◌++◌, ap, inl, inr, length, map, subst, sym, refl, Bor}
use Rattle.clap.specs.Faults.{fault_of}
use Rattle.clap.specs.Kinds.{IsAmong, Kinds}
use Rattle.clap.specs.declared.error.kind.ErrorKind.{ErrorKind}
use Rattle.clap.specs.Walk.{Text}
use Rattle.mpicall.specs.Devices.{bytes_written}
use Rattle.mpicall.specs.Lines.{lines_of}
use Rattle.mpicall.specs.Lint.{EndsWith, TellsTrace, capped}
use Rattle.mpicall.specs.Trace.{Trace, IsTraceOf, trace_of}
use Rattle.mpicall.specs.declared.fault.Ending.{Ending}
use Rattle.mpicall.specs.declared.fault.Ending.TheVariants.{Sealed, Torn}
use Rattle.mpicall.specs.declared.fault.SourceFault.{SourceFault}
use Rattle.mpicall.specs.declared.fault.SourceFault.TheVariants.{ReadFailed}
use Rattle.mpicall.specs.declared.lint.LintFault.{LintFault}
use Rattle.mpicall.specs.declared.memory.MemoryOutput.{MemoryOutput}
use Rattle.gather.specs.declared.fault.RankFault.TheVariants.{OfSource}
use Rattle.driver.specs.VerdictContract.{is_from_outside}
use Rattle.cli_memory.proofs.InMemoryLemmas.{into_memory, left, wrote}
use Rattle.cli.proofs.TraceLemmas.{holds_read}
use Rattle.cli.specs.CommandLine.{Answers, Asks, CheckRun, CloseJournals, JudgeJournals, LintTrace, Task, program}
use Rattle.cli.specs.ExitContract.{Ends, EndsBy, EndsInCount, EndsInFault, Made, TellsLine}
use Rattle.cli.specs.FaultTexts.{line_of_fault}
use Rattle.cli.specs.Faults.{status_of_fault}
use Rattle.cli_memory.specs.InMemory.{EndsLint, LintsText, lint_fault}
use Rattle.cli.specs.Lints.{IsCountOf, IsFaultOfLint, IsTraceFault}
use Rattle.cli.specs.Openings.{Fate}
use Rattle.cli.specs.Outputs.{Written, Becomes, lint_report}
use Rattle.cli.specs.declared.fault.Fault.{Fault}
use Rattle.cli.specs.declared.fault.Fault.TheVariants.{RefusedJournal, UncleanCut, Head, FileCount, Refused, LintRefused}
use Rattle.cli.specs.declared.status.Status.{Status}
use Rattle.cli.specs.declared.status.Status.TheVariants as status
use Rattle.cli.specs.declared.command_line.CommandLine.{CommandLine}
use Rattle.cli.specs.declared.command_line.CommandLine.TheVariants.{Check, Lint, Judge, Close, Said, NoMemory}

-- the file of a lint
abbrev file_in : Option Task → Text
file_in (Some (LintTrace file)) = file
file_in _ = []

abbrev is_lint : Option Task → Bool
is_lint (Some (LintTrace file)) = true
is_lint _ = false

-- a fault of the bytes is that with which the trace ends
own_end : (trace : Trace) (call : ℕ) (fault : SourceFault) → EndsWith trace call fault → is_from_outside (OfSource fault) ≡ false → (trace.end ≡ Torn fault) × (call ≡ capped (length trace.records))
own_end trace call ReadFailed ends own = let no : true ≡ false = own in cc
own_end trace call fault ends own = ends

abbrev fault_at : SourceFault → ℕ → LintFault
fault_at fault call = record { call = call; fault = fault }

not_sealed : (end : Ending) (fault : SourceFault) → end ≡ Sealed → end ≡ Torn fault → ⊥
not_sealed end fault p q = let e : Sealed ≡ Torn fault = sym p ∙ q in cc

one_end : (end : Ending) (a b : SourceFault) → end ≡ Torn a → end ≡ Torn b → a ≡ b
one_end end a b p q = let e : Torn a ≡ Torn b = sym p ∙ q in cc

-- a lint of a file with this text
module _ (told : Text → Option Text) (file text : Text) (is_file : told file ≡ Some text)
    (failures : MemoryOutput → ℕ) (old new old_errors new_errors : MemoryOutput) (ended : Status) (out err : Written) (output : Becomes into_memory failures old new out) (errors : Becomes into_memory failures old_errors new_errors err) where
  abbrev Linted : Type 0
  Linted = EndsLint text ended (bytes_written old) (bytes_written new) (bytes_written old_errors) (bytes_written new_errors)

  by_count : (path : Text) → path ≡ file → EndsInCount (told path) ended out err → Linted
  by_count path same ends =
      let counts : (trace : Trace) → IsTraceOf (lines_of text) trace → TellsTrace (Some trace) (Ok ends.count) = subst (λ (t : Option Text). IsCountOf t ends.count) (ap told same ∙ is_file) ends.is_count in
      let tells = counts (trace_of text) (holds_read text) in
      record {
        of_sealed = λ sealed. (
          ends.status_is,
          subst (λ (count : ℕ). bytes_written new ≡ bytes_written old ++ lint_report count) tells.1 (wrote failures old new out (lint_report ends.count) output ends.output),
          left failures old_errors new_errors err errors ends.errors,
        );
        of_torn = λ fault torn. absurd (not_sealed (trace_of text).end fault tells.0 torn);
      }

  by_fault : (path : Text) (fault : Fault) → path ≡ file → IsFaultOfLint told path fault → EndsInFault fault ended out err → ended ≢ status.Fault → Linted
  by_fault path (LintRefused fault) same says ends other =
      let faults : (trace : Trace) → IsTraceOf (lines_of text) trace → TellsTrace (Some trace) (Err fault) = subst (λ (t : Option Text). IsTraceFault t fault) (ap told same ∙ is_file) says.0 in
      let own = own_end (trace_of text) fault.call fault.fault (faults (trace_of text) (holds_read text)) says.1 in
      let tells = subst (λ (s : Status). TellsLine s (LintRefused fault) out err) ends.0 ends.1 in
      record {
        of_sealed = λ sealed. absurd (not_sealed (trace_of text).end fault.fault sealed own.0);
        of_torn = λ another torn.
            let same_call : fault ≡ lint_fault text fault.fault = ap (fault_at fault.fault) own.1 in
            let same_fault : lint_fault text fault.fault ≡ lint_fault text another = ap (lint_fault text) (one_end (trace_of text).end fault.fault another own.0 torn) in (
              ends.0,
              subst (λ (f : LintFault). bytes_written new ≡ bytes_written old ++ line_of_fault (LintRefused f)) (same_call ∙ same_fault) (wrote failures old new out (line_of_fault (LintRefused fault)) output tells.0),
              left failures old_errors new_errors err errors tells.1,
            );
      }
  by_fault path (Head fault) same says ends other = absurd says
  by_fault path (FileCount ranks count) same says ends other = absurd says
  by_fault path (Refused refusal) same says ends other = absurd says
  by_fault path (RefusedJournal rank fault) same says ends other = absurd says
  by_fault path (UncleanCut entry) same says ends other = absurd says
  by_fault path fault same says ends other = absurd (other ends.0)

  module _ (fate : Text → Fate → Type 0) (named : Text → Option Bool) (made : Made) (words : List Text) (asks : Asks words (LintTrace file)) where
    no_kind : (kind : ErrorKind) → IsAmong kind (fault_of program words) → ⊥
    no_kind kind among = subst (λ (kinds : Kinds). IsAmong kind kinds) asks.0 among

    by_asked : (asked : CommandLine) → Answers words asked → EndsBy fate told named made asked ended out err → ended ≢ status.Fault → Linted
    by_asked (Lint path) answers (inl done) other =
        let e : Some (LintTrace path.now) ≡ Some (LintTrace file) = sym answers.1 ∙ asks.1 in
        by_count path.now (ap file_in e) done
    by_asked (Lint path) answers (inr (fault, is_fault, ends)) other =
        let e : Some (LintTrace path.now) ≡ Some (LintTrace file) = sym answers.1 ∙ asks.1 in
        by_fault path.now fault (ap file_in e) is_fault ends other
    by_asked (Check path given its progress) answers by other =
        let e : Some (CheckRun path.now (map (λ file. file.now) given.items) its) ≡ Some (LintTrace file) = sym answers.1 ∙ asks.1 in
        let no : false ≡ true = ap is_lint e in cc
    by_asked (Judge folder manner progress) answers by other =
        let e : Some (JudgeJournals folder.now manner) ≡ Some (LintTrace file) = sym answers.1 ∙ asks.1 in
        let no : false ≡ true = ap is_lint e in cc
    by_asked (Close folder target choice) answers by other =
        let e : Some (CloseJournals folder.now target.now choice) ≡ Some (LintTrace file) = sym answers.1 ∙ asks.1 in
        let no : false ≡ true = ap is_lint e in cc
    by_asked (Said said false) (some, (kind, among, is)) by other = absurd (no_kind kind among)
    by_asked (Said said true) (some, inl found) by other = absurd (no_kind found.0 found.1)
    by_asked (Said said true) (some, inr none) by other = let e : None ≡ Some (LintTrace file) = sym none.1 ∙ asks.1 in cc
    by_asked NoMemory answers (inl done) other = absurd done
    by_asked NoMemory answers (inr (fault, is, ends)) other = absurd (other (ends.0 ∙ ap status_of_fault is))

pub lints : (fate : Text → Fate → Type 0) (told : Text → Option Text) (named : Text → Option Bool) (made : Made) (failures : MemoryOutput → ℕ) (old new old_errors new_errors : MemoryOutput) (words : List Text) (ended : Status) →
    Ends into_memory failures into_memory failures fate told named made old new old_errors new_errors words ended → ended ≢ status.Fault →
    LintsText told words ended (bytes_written old) (bytes_written new) (bytes_written old_errors) (bytes_written new_errors)
lints fate told named made failures old new old_errors new_errors words ended ends other file text asks is_file =
    by_asked told file text is_file failures old new old_errors new_errors ended ends.out ends.err ends.output ends.errors fate named made words asks ends.asked ends.answers ends.by other
