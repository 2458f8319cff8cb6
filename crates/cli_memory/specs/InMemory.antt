-- How a check and a lint over files in memory end, with outputs in memory. No premise is left: texts and outputs are
-- known.
use Rattle.std.specs.Prelude.{◌≡◌, ◌≢◌, ◌⊎◌, ℕ, Option, Some, None, Ok, Err, List, ◌++◌, length, map, take}
use Rattle.clap.specs.Walk.{Text}
use Rattle.mpicall.specs.Lint.{capped}
use Rattle.mpicall.specs.Trace.{trace_of}
use Rattle.mpicall.specs.declared.fault.Ending.TheVariants.{Sealed, Torn}
use Rattle.mpicall.specs.declared.fault.SourceFault.{SourceFault}
use Rattle.mpicall.specs.declared.lint.LintFault.{LintFault}
use Rattle.mpigroup.specs.Groups.{Groups, ranks_of}
use Rattle.mpigroup.specs.HeadText.{read_head}
use Rattle.mpigroup.specs.declared.fault.HeadFault.{HeadFault}
use Rattle.waitgraph.specs.declared.verdict.Verdict.{Verdict}
use Rattle.report.specs.Reports.{IsReport}
use Rattle.gather.specs.Outcomes.{recording_of_traces, refusal_of}
use Rattle.gather.specs.declared.fault.Refusal.{Refusal}
use Rattle.cli.specs.CommandLine.{Asks, CheckRun, LintTrace}
use Rattle.cli.specs.FaultTexts.{line_of_fault}
use Rattle.cli.specs.Outputs.{lint_report}
use Rattle.cli.specs.Statuses.{status_of_verdict}
use Rattle.cli.specs.declared.options.Options.{Options}
use Rattle.cli.specs.declared.fault.Fault.TheVariants.{Head, FileCount, Refused, LintRefused}
use Rattle.cli.specs.declared.status.Status.{Status}
use Rattle.cli.specs.declared.status.Status.TheVariants as status

-- the text was written, whole unless a write failed
abbrev pub IsTriedOn : Text → Text → Text → Type 0
IsTriedOn text old new = (new ≡ old ++ text) ⊎ ((count : ℕ) × (new ≡ old ++ take count text))

-- The end of a check by the texts of the head and of the ranks, by what standard output and standard error had before
-- and have then. One of the four holds of each texts: the head has a fault; it has another number of ranks; a rank has
-- a fault; or the report and its verdict are those of the texts.
pub record EndsCheck (options : Options) (head : Text) (texts : List Text) (ended : Status) (old_out new_out old_err new_err : Text) : Type 0 where
  pub of_head : (fault : HeadFault) → read_head head ≡ Err fault →
      (ended ≡ status.Refused) × (new_out ≡ old_out ++ line_of_fault (Head fault)) × (new_err ≡ old_err)
  pub of_count : (groups : Groups) → read_head head ≡ Ok groups → length texts ≢ ranks_of groups →
      (ended ≡ status.Usage) × (new_out ≡ old_out) × IsTriedOn (line_of_fault (FileCount (ranks_of groups) (length texts))) old_err new_err
  pub of_refusal : (groups : Groups) (refusal : Refusal) → read_head head ≡ Ok groups → length texts ≡ ranks_of groups → refusal_of groups (map trace_of texts) ≡ Some refusal →
      (ended ≡ status.Refused) × (new_out ≡ old_out ++ line_of_fault (Refused refusal)) × (new_err ≡ old_err)
  pub of_report : (groups : Groups) → read_head head ≡ Ok groups → length texts ≡ ranks_of groups → refusal_of groups (map trace_of texts) ≡ None →
      (verdict : Verdict) × (report : Text) × IsReport options.format options.reading groups (recording_of_traces (map trace_of texts)) verdict report
      × (ended ≡ status_of_verdict verdict) × (new_out ≡ old_out ++ report) × (new_err ≡ old_err)

-- where the words ask for a check of files that are there, it ends by their texts
abbrev pub ChecksTexts : (Text → Option Text) → List Text → Status → Text → Text → Text → Text → Type 0
ChecksTexts told words ended old_out new_out old_err new_err =
    (head : Text) (files : List Text) (options : Options) (text : Text) (texts : List Text) →
    Asks words (CheckRun head files options) → told head ≡ Some text → map told files ≡ map Some texts →
    EndsCheck options text texts ended old_out new_out old_err new_err

-- how many calls the trace of a text has
abbrev pub calls_of_text : Text → ℕ
calls_of_text text = capped (length (trace_of text).records)

-- a fault with which it ends
abbrev pub lint_fault : Text → SourceFault → LintFault
lint_fault text fault = record { call = calls_of_text text; fault = fault }

-- The end of a lint by the text of its file. One of the two holds of each text: its trace has no fault, or it ends with
-- its first one.
pub record EndsLint (text : Text) (ended : Status) (old_out new_out old_err new_err : Text) : Type 0 where
  pub of_sealed : (trace_of text).end ≡ Sealed →
      (ended ≡ status.Free) × (new_out ≡ old_out ++ lint_report (calls_of_text text)) × (new_err ≡ old_err)
  pub of_torn : (fault : SourceFault) → (trace_of text).end ≡ Torn fault →
      (ended ≡ status.Refused) × (new_out ≡ old_out ++ line_of_fault (LintRefused (lint_fault text fault))) × (new_err ≡ old_err)

-- where the words ask for a lint of a file that is there, it ends by its text
abbrev pub LintsText : (Text → Option Text) → List Text → Status → Text → Text → Text → Text → Type 0
LintsText told words ended old_out new_out old_err new_err =
    (file text : Text) → Asks words (LintTrace file) → told file ≡ Some text → EndsLint text ended old_out new_out old_err new_err
