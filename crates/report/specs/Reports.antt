-- The report of a recording: its bytes, in either format.
use Rattle.std.specs.Prelude.{◌≡◌, ℕ, Option, List}
use Rattle.mpicall.specs.Device.{one_more, AppendsBeginning}
use Rattle.moves.specs.declared.reading.Reading.{Reading}
use Rattle.mpigroup.specs.Groups.{Groups}
use Rattle.callstore.specs.Recordings.{Lists}
use Rattle.waitgraph.specs.Causes.{CauseView, AreCauses}
use Rattle.waitgraph.specs.Verdicts.{IsVerdictOf}
use Rattle.waitgraph.specs.declared.verdict.Verdict.{Verdict}
use Rattle.report.specs.JsonReport.{json_report}
use Rattle.report.specs.TextReport.{text_report}
use Rattle.report.specs.declared.write.Format.{Format}
use Rattle.report.specs.declared.write.Format.TheVariants.{Text, Json}
use Rattle.report.specs.declared.write.ReportFault.{ReportFault}
use Rattle.report.specs.declared.write.ReportFault.TheVariants.{Memory, Write}

unfoldable pub report_of : Format → Reading → Groups → Lists → Verdict → List CauseView → List ℕ
report_of Text reading groups recording verdict causes = text_report reading groups recording verdict causes
report_of Json reading groups recording verdict causes = json_report reading groups recording verdict causes

-- the report says the verdict over the recording and its causes
pub record IsReport (format : Format) (reading : Reading) (groups : Groups) (recording : Lists) (verdict : Verdict) (report : List ℕ) : Type 0 where
  pub is_verdict : IsVerdictOf reading groups recording verdict
  pub causes : List CauseView
  pub are_causes : AreCauses reading groups recording causes
  pub is_text : report ≡ report_of format reading groups recording verdict causes

-- Only JSON takes memory, and where there is none the output is as it was; a failed write leaves a prefix
-- of the report, and adds one to the count of failures.
abbrev pub LeavesReport : {O : Type 0} → (O → Option (List ℕ)) → (O → ℕ) → O → O → Format → List ℕ → ReportFault → Type 0
LeavesReport written failures old new format report Memory = (format ≡ Json) × (new ≡ old)
LeavesReport written failures old new format report Write =
    AppendsBeginning (written old) (written new) report × (failures new ≡ one_more (failures old))
