-- What a run leaves on its output: the report of a recording that its sources have.
use Rattle.moves.specs.declared.reading.Reading.{Reading}
use Rattle.std.specs.Prelude.{◌≡◌, ℕ, Option, Some, None, List, length, slice_get}
use Rattle.std.specs.Io.KnownBytes.{Appends}
use Rattle.mpicall.specs.declared.source.Source.{Source}
use Rattle.mpicall.specs.Trace.{Trace}
use Rattle.mpicall.specs.Device.{one_more, AppendsBeginning}
use Rattle.mpigroup.specs.Groups.{Groups, ranks_of}
use Rattle.callstore.specs.Recordings.{Lists, calls_of, IsClosed}
use Rattle.waitgraph.specs.declared.verdict.Verdict.{Verdict}
use Rattle.report.specs.Reports.{IsReport}
use Rattle.report.specs.declared.write.Format.{Format}
use Rattle.gather.specs.Outcomes.{fault_of_rank, recording_of_traces}
use Rattle.driver.specs.VerdictContract.{IsToCome, Tells}
use Rattle.gather.specs.declared.fault.RunFault.{RunFault}
use Rattle.gather.specs.declared.fault.RunFault.TheVariants.{Write}

-- the report of a run, and the verdict that it says: they are those of a recording, which is closed and has the
-- calls of each rank whose source has a known trace, in which there is no fault; where all of them have, it is the
-- recording of their traces
pub record IsReportOver {I : Type 0} (left : I → Option (List ℕ)) (sources : List (Source I)) (reading : Reading) (groups : Groups) (format : Format) (verdict : Verdict) (report : List ℕ) : Type 0 where
  pub recording : Lists
  pub one_a_rank : length recording ≡ ranks_of groups
  pub closed : IsClosed recording
  pub accepted : (rank : ℕ) (source : Source I) (trace : Trace) → slice_get sources rank ≡ Some source → IsToCome left source trace →
      (calls_of recording rank ≡ trace.records) × (fault_of_rank groups rank trace ≡ None)
  pub of_traces : (traces : List Trace) → Tells left sources traces → recording ≡ recording_of_traces traces
  pub is_report : IsReport format reading groups recording verdict report

-- what a run leaves on its output, by its sources, its reading, its head and the format of its report
module _ {I O : Type 0} (left : I → Option (List ℕ)) (written : O → Option (List ℕ)) (failures : O → ℕ) (sources : List (Source I)) (reading : Reading) (groups : Groups) (format : Format) (old new : O) where
  -- the report follows what was there
  abbrev pub WritesReport : Verdict → Type 0
  WritesReport verdict = (report : List ℕ) × IsReportOver left sources reading groups format verdict report × Appends (written old) (written new) report

  -- a prefix of the report follows what was there, and one more write failed
  abbrev pub FailsToReport : Type 0
  FailsToReport =
      ((verdict : Verdict) × (report : List ℕ) × IsReportOver left sources reading groups format verdict report × AppendsBeginning (written old) (written new) report)
      × (failures new ≡ one_more (failures old))

  -- but for a write that failed, the output is as it was
  abbrev pub LeavesOutput : RunFault → Type 0
  LeavesOutput Write = FailsToReport
  LeavesOutput fault = new ≡ old
