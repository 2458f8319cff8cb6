-- How `judge` and `close` of journals in memory end, with folders and outputs in memory. No premise is left: texts and
-- outputs are known.
use Rattle.std.specs.Prelude.{◌≡◌, ℕ, Option, Some, None, Ok, Err, List, [], ◌++◌, length, map}
use Rattle.clap.specs.Walk.{Text}
use Rattle.mpigroup.specs.Groups.{Groups, ranks_of}
use Rattle.callstore.specs.Recordings.{Lists, IsClosed}
use Rattle.waitgraph.specs.Causes.{CauseView}
use Rattle.waitgraph.specs.Pending.{Known as PendingKnown}
use Rattle.waitgraph.specs.PendingCauses.{AreCausesBy}
use Rattle.waitgraph.specs.PendingNeeds.{ListsAwaited}
use Rattle.waitgraph.specs.PendingVerdicts.{IsVerdictBy}
use Rattle.waitgraph.specs.declared.awaited.Awaited.{Awaited}
use Rattle.waitgraph.specs.declared.verdict.Verdict.{Verdict}
use Rattle.report.specs.PendingReport.{pending_report}
use Rattle.report.specs.declared.judged.Judged.{Judged}
use Rattle.closing.specs.Entries.{Run}
use Rattle.closing.specs.Journals.{RankFault, run_of}
use Rattle.closing.specs.Recording.{recording_of}
use Rattle.closing.specs.Recordings.{choice_in}
use Rattle.closing.specs.declared.choice.Choice.{Choice}
use Rattle.judging.specs.Closing.{AreFilesOf}
use Rattle.judging.specs.HeldSaid.{IsHeldSaid}
use Rattle.judging.specs.Judging.{IsRecordingOfRun}
use Rattle.judging.specs.KnownCalls.{calls_at_opens, judged_choice}
use Rattle.judging.specs.NamedCalls.{HaveLines, calls_in, calls_named}
use Rattle.judging.specs.UnderWay.{EntryAt, unclean_at}
use Rattle.judging.specs.declared.close.FileName.{FileName}
use Rattle.judging.specs.declared.judge.Manner.{Manner}
use Rattle.cli.specs.CommandLine.{Asks, CloseJournals, JudgeJournals}
use Rattle.cli.specs.FaultTexts.{line_of_fault}
use Rattle.cli.specs.JournalFolders.{journal_path}
use Rattle.cli.specs.Statuses.{status_of_verdict}
use Rattle.cli.specs.declared.fault.Fault.TheVariants.{RefusedJournal, UncleanCut}
use Rattle.cli.specs.declared.status.Status.{Status}
use Rattle.cli.specs.declared.status.Status.TheVariants as status

-- the line of the first fault of journals, and that of the entry at which their cut isn't clean
abbrev pub line_of_first : RankFault → Text
line_of_first it = line_of_fault (RefusedJournal it.rank (record { line = it.fault.line; kind = it.fault.kind }))

abbrev pub line_of_cut : EntryAt → Text
line_of_cut it = line_of_fault (UncleanCut (record { rank = it.rank; line = it.line }))

-- by the manner's reading and by what is known of how lists go on, report and verdict are those of the run's recording
pub record IsReportOfRun (run : Run) (manner : Manner) (verdict : Verdict) (report : Text) : Type 0 where
  pub groups : Groups
  pub recording : Lists
  pub pending : PendingKnown
  pub judged : Judged
  pub of_run : IsRecordingOfRun run (judged_choice manner.choice) groups recording pending judged
  pub one_a_rank : length recording ≡ ranks_of groups
  pub closed : IsClosed recording
  pub is_verdict : IsVerdictBy manner.reading groups recording pending verdict
  pub at_open : List (List Awaited)
  pub are_awaited : ListsAwaited manner.reading groups recording pending at_open
  pub causes : List CauseView
  pub are_causes : AreCausesBy manner.reading groups recording pending causes
  pub is_text : report ≡ pending_report manner.format manner.reading groups recording verdict pending.pending at_open causes judged
  pub names : HaveLines (calls_in manner.format (calls_named manner.reading groups recording judged.findings.now ++ calls_at_opens manner.reading groups recording pending at_open)) judged.lines.now
  pub held_said : IsHeldSaid manner.reading groups recording pending manner.held judged.findings.now judged.held

-- The end of a judgement by the texts of the journals, that of rank 0 and those of other ranks. One of the three holds of
-- each texts: they have a fault; they hold a run whose cut isn't clean; or report and verdict are those of their run.
pub record EndsJudge (manner : Manner) (first : Text) (texts : ℕ → Option Text) (ended : Status) (old_out new_out old_err new_err : Text) : Type 0 where
  pub of_fault : (fault : RankFault) → run_of first texts ≡ Err fault →
      (ended ≡ status.Refused) × (new_out ≡ old_out ++ line_of_first fault) × (new_err ≡ old_err)
  pub of_cut : (run : Run) (entry : EntryAt) → run_of first texts ≡ Ok run → unclean_at run (judged_choice manner.choice) ≡ Some entry →
      (ended ≡ status.Refused) × (new_out ≡ old_out ++ line_of_cut entry) × (new_err ≡ old_err)
  pub of_report : (run : Run) → run_of first texts ≡ Ok run → unclean_at run (judged_choice manner.choice) ≡ None →
      (verdict : Verdict) × (report : Text) × IsReportOfRun run manner verdict report
      × (ended ≡ status_of_verdict verdict) × (new_out ≡ old_out ++ report) × (new_err ≡ old_err)

-- where the words ask to judge the journals in a folder, and that of rank 0 is there, this ends by their texts
abbrev pub JudgesJournals : (Text → Option Text) → List Text → Status → Text → Text → Text → Text → Type 0
JudgesJournals told words ended old_out new_out old_err new_err =
    (folder : Text) (manner : Manner) (first : Text) → Asks words (JudgeJournals folder manner) → told (journal_path folder 0) ≡ Some first →
    EndsJudge manner first (λ rank. told (journal_path folder rank)) ended old_out new_out old_err new_err

-- The end of `close` by these texts, and the texts of the files in the folder that it made, by their names. One of the two
-- holds of each texts: they have a fault; or the files are exactly the recording of their run.
pub record EndsClose (choice : Choice) (first : Text) (texts : ℕ → Option Text) (made : FileName → Option Text) (ended : Status) (old_out new_out old_err new_err : Text) : Type 0 where
  pub of_fault : (fault : RankFault) → run_of first texts ≡ Err fault →
      (ended ≡ status.Refused) × (new_out ≡ old_out ++ line_of_first fault) × (new_err ≡ old_err)
  pub of_run : (run : Run) → run_of first texts ≡ Ok run →
      AreFilesOf (Some []) made (recording_of run (choice_in choice)) × (ended ≡ status.Free) × (new_out ≡ old_out) × (new_err ≡ old_err)

-- where the words ask to close the journals in a folder, and that of rank 0 is there, this ends by their texts; `made` is
-- what a file that was made says, by its folder and its name
abbrev pub ClosesJournals : (Text → Option Text) → (Text → FileName → Option Text) → List Text → Status → Text → Text → Text → Text → Type 0
ClosesJournals told made words ended old_out new_out old_err new_err =
    (folder out : Text) (choice : Choice) (first : Text) → Asks words (CloseJournals folder out choice) → told (journal_path folder 0) ≡ Some first →
    EndsClose choice first (λ rank. told (journal_path folder rank)) (made out) ended old_out new_out old_err new_err
