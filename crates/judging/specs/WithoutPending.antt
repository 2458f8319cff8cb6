-- Law of the report where no pending call and no sink is known: it is that of the recording alone.
use Rattle.mpicall.specs.Names.{Rank}
use Rattle.std.specs.Prelude.{◌≡◌, ℕ, List, []}
use Rattle.mpigroup.specs.Groups.{Groups}
use Rattle.callstore.specs.Recordings.{Lists}
use Rattle.waitgraph.specs.Causes.{CauseView, AreCauses}
use Rattle.waitgraph.specs.Pending.{Known as PendingKnown}
use Rattle.waitgraph.specs.PendingNeeds.{items_of}
use Rattle.waitgraph.specs.Verdicts.{IsVerdictOf}
use Rattle.waitgraph.specs.declared.verdict.Verdict.{Verdict}
use Rattle.report.specs.Judged.{judged_of}
use Rattle.report.specs.declared.judged.Judged.{Judged}
use Rattle.judging.specs.JournalTexts.{Known}
use Rattle.judging.specs.Judging.{IsJudgedReport}
use Rattle.judging.specs.NamedCalls.{HaveLines, calls_in, calls_named}
use Rattle.judging.specs.declared.judge.Manner.{Manner}

-- no rank has a pending call, and there is no sink
pub record IsNoneKnown (pending : PendingKnown) : Type 0 where
  pub no_calls : (rank : Rank) → items_of pending rank ≡ []
  pub no_sinks : pending.sinks ≡ []

-- by the reading, report and verdict are those of the recording
pub record IsPlainReport (manner : Manner) (groups : Groups) (recording : Lists) (judged : Judged) (verdict : Verdict) (report : List ℕ) : Type 0 where
  pub is_verdict : IsVerdictOf manner.reading groups recording verdict
  pub causes : List CauseView
  pub are_causes : AreCauses manner.reading groups recording causes
  pub is_text : report ≡ judged_of manner.format manner.reading groups recording verdict causes judged
  pub names : HaveLines (calls_in manner.format (calls_named manner.reading groups recording judged.findings.now)) judged.lines.now

-- Law: so it is where none is known.
abbrev pub WithoutPendingTheReportIsPlain : Type 0
WithoutPendingTheReportIsPlain =
    (known : Known) (manner : Manner) (verdict : Verdict) (report : List ℕ) → (is : IsJudgedReport known manner verdict report) →
    IsNoneKnown is.pending → IsPlainReport manner is.groups is.recording is.judged verdict report
