-- What is reported of the recording that an analyser has.
use Rattle.std.specs.Prelude.{◌≡◌, ℕ, Option, Ok, Err, List, [], ◌++◌, length, map, ⊤}
use Rattle.mpigroup.specs.Groups.{Groups, ranks_of}
use Rattle.callstore.specs.Recordings.{Lists, IsClosed}
use Rattle.findings.specs.declared.finding.Finding.{Finding}
use Rattle.moves.specs.Analysed.{Analysed}
use Rattle.moves.specs.declared.reading.Reading.{Reading}
use Rattle.waitgraph.specs.Causes.{CauseView}
use Rattle.waitgraph.specs.Pending.{Known as PendingKnown}
use Rattle.waitgraph.specs.PendingCauses.{AreCausesBy}
use Rattle.waitgraph.specs.PendingGraphs.{findings_by}
use Rattle.waitgraph.specs.PendingNeeds.{ListsAwaited}
use Rattle.waitgraph.specs.PendingVerdicts.{IsVerdictBy}
use Rattle.waitgraph.specs.declared.awaited.Awaited.{Awaited}
use Rattle.waitgraph.specs.declared.verdict.Verdict.{Verdict}
use Rattle.report.specs.PendingReport.{pending_report}
use Rattle.report.specs.declared.judged.Judged.{Judged}
use Rattle.report.specs.declared.judged.LineAt.{LineAt}
use Rattle.report.specs.declared.write.Format.{Format}
use Rattle.report.specs.declared.write.Format.TheVariants.{Text, Json}
use Rattle.journals.specs.declared.limits.TheConstants.{MOST_RANKS}
use Rattle.closing.specs.Entries.{Run}
use Rattle.closing.specs.Journals.{RankFault, run_of}
use Rattle.closing.specs.Recording.{recording_of}
use Rattle.closing.specs.Recordings.{RecordingView}
use Rattle.closing.specs.Left.{left_of}
use Rattle.judging.specs.HeldSaid.{IsHeldSaid}
use Rattle.judging.specs.JournalTexts.{Known, AreKnown}
use Rattle.judging.specs.Judging.{is_no_leak, left_said, left_words, reported_by}
use Rattle.judging.specs.declared.judge.JudgeFault.{JudgeFault}
use Rattle.judging.specs.declared.judge.JudgeFault.TheVariants as fault
use Rattle.judging.specs.declared.judge.Manner.{Manner}
use Rattle.judging.specs.declared.read.ReadFault.{ReadFault}
use Rattle.judging.specs.declared.read.ReadFault.TheVariants as read
use Rattle.judging.specs.KnownCalls.{calls_at_opens}
use Rattle.judging.specs.NamedCalls.{HaveLines, HaveNumbers, calls_in, calls_named}
use Rattle.judging.specs.inner.Turns.{IsDone}

abbrev pub fault_of_reading : ReadFault → JudgeFault
fault_of_reading read.Memory = fault.Memory
fault_of_reading it = fault.Read it

-- the fault of a report that is written
abbrev pub IsLate : JudgeFault → Type 0
IsLate fault.Memory = ⊤
IsLate fault.Write = ⊤
IsLate it = ⊥

-- by the reading and by what is known, report and verdict are those of a closed recording
pub record IsReported (reading : Reading) (format : Format) (groups : Groups) (recording : Lists) (pending : PendingKnown) (at_open : List (List Awaited)) (judged : Judged) (verdict : Verdict) (report : List ℕ) : Type 0 where
  pub one_a_rank : length recording ≡ ranks_of groups
  pub closed : IsClosed recording
  pub is_verdict : IsVerdictBy reading groups recording pending verdict
  pub are_awaited : ListsAwaited reading groups recording pending at_open
  pub causes : List CauseView
  pub are_causes : AreCausesBy reading groups recording pending causes
  pub is_text : report ≡ pending_report format reading groups recording verdict pending.pending at_open causes judged

-- the calls that are named have their lines, by the rows of the table
pub record IsLined (rows : List (List ℕ)) (manner : Manner) (analysed : Analysed) (pending : PendingKnown) (at_open : List (List Awaited)) (findings : List Finding) (lines : List LineAt) : Type 0 where
  pub names : HaveLines (calls_in manner.format (calls_named manner.reading analysed.groups analysed.recording findings
      ++ calls_at_opens manner.reading analysed.groups analysed.recording pending at_open)) lines
  pub numbers : manner.format ≡ Json → HaveNumbers rows lines
  pub none : manner.format ≡ Text → lines ≡ []

-- and what is said in addition is of the lists
pub record IsReportedOf (it : RecordingView) (rows : List (List ℕ)) (analysed : Analysed) (pending : PendingKnown) (manner : Manner) (verdict : Verdict) (report : List ℕ) : Type 0 where
  pub judged : Judged
  pub at_open : List (List Awaited)
  pub reported : IsReported manner.reading manner.format analysed.groups analysed.recording pending at_open judged verdict report
  pub findings : IsDone it → judged.findings.now
      ≡ reported_by manner.choice.calls (is_no_leak it.run it.choice) (findings_by analysed.groups analysed.recording pending.sinks)
  pub left : IsDone it → map left_said judged.left.now ≡ map left_words (left_of (recording_of it.run it.choice).lists)
  pub lines : IsLined rows manner analysed pending at_open judged.findings.now judged.lines.now
  pub held : IsHeldSaid manner.reading analysed.groups analysed.recording pending manner.held judged.findings.now judged.held

-- where the files are known to hold a run, it is this; and they are known to hold no other fault
pub record IsRunOf (known : Known) (own : Run) : Type 0 where
  pub same : (first : List ℕ) (texts : ℕ → Option (List ℕ)) (run : Run) → AreKnown known (length run) first texts → run_of first texts ≡ Ok run → own ≡ run
  pub none_refused : (first : List ℕ) (texts : ℕ → Option (List ℕ)) (fault : RankFault) → AreKnown known MOST_RANKS first texts → run_of first texts ≡ Err fault → ⊥
