-- What a run over texts in memory answers. No premise is left: the texts are known.
use Rattle.moves.specs.declared.reading.Reading.{Reading}
use Rattle.std.specs.Prelude.{◌≡◌, ℕ, None, List, ◌++◌, map, take}
use Rattle.mpicall.specs.Trace.{trace_of}
use Rattle.mpigroup.specs.Groups.{Groups}
use Rattle.waitgraph.specs.declared.verdict.Verdict.{Verdict}
use Rattle.report.specs.Reports.{IsReport}
use Rattle.report.specs.declared.write.Format.{Format}
use Rattle.gather.specs.Outcomes.{recording_of_traces, refusal_of}
use Rattle.gather.specs.declared.fault.RunFault.{RunFault}
use Rattle.gather.specs.declared.fault.RunFault.TheVariants.{Refused, Write}
use Rattle.driver.specs.VerdictContract.{IsRefusalOver, IsVerdictOver}

-- a run by this reading over the texts of its ranks, with a report in this format; and what the output had before and
-- has now
module _ (reading : Reading) (groups : Groups) (format : Format) (texts : List (List ℕ)) (old new : List ℕ) where
  -- the report is that of the recording of the texts' traces, with this verdict
  abbrev pub IsReportOfTexts : Verdict → List ℕ → Type 0
  IsReportOfTexts verdict report = IsReport format reading groups (recording_of_traces (map trace_of texts)) verdict report

  -- the traces have no fault, the verdict is theirs, and just their report was written
  pub record EndsWell (verdict : Verdict) : Type 0 where
    pub accepted : refusal_of groups (map trace_of texts) ≡ None
    pub is_verdict : IsVerdictOver reading groups (map trace_of texts) verdict
    pub report : List ℕ
    pub is_report : IsReportOfTexts verdict report
    pub written : new ≡ old ++ report

  -- where no write failed nothing was written, and a refusal is that of the traces
  abbrev pub EndsBadly : RunFault → Type 0
  EndsBadly (Refused refusal) = IsRefusalOver groups (map trace_of texts) refusal × (new ≡ old)
  EndsBadly Write = (verdict : Verdict) × (report : List ℕ) × (count : ℕ) × IsReportOfTexts verdict report × (new ≡ old ++ take count report)
  EndsBadly fault = new ≡ old
