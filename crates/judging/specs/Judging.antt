-- What `judge` reports: the report of a closed recording, and its verdict. Where the files of the journals are known, the
-- recording is that of the run that they hold, or the fault is theirs.
use Rattle.std.specs.Prelude.{◌≡◌, ℕ, ◌||◌, Bool, false, not, Option, Some, None, Ok, Err, List, [], ◌++◌, length, map, codes, ⊤}
use Rattle.std.specs.List.{filter}
use Rattle.mpicall.specs.Device.{one_more, AppendsBeginning}
use Rattle.mpigroup.specs.Groups.{Groups, ranks_of}
use Rattle.callstore.specs.Recordings.{Lists, IsClosed}
use Rattle.moves.specs.declared.reading.Reading.{Reading}
use Rattle.findings.specs.declared.finding.Finding.{Finding}
use Rattle.findings.specs.declared.finding.Finding.TheVariants.{Request}
use Rattle.waitgraph.specs.Causes.{CauseView}
use Rattle.waitgraph.specs.Pending.{Known as PendingKnown}
use Rattle.waitgraph.specs.PendingCauses.{AreCausesBy}
use Rattle.waitgraph.specs.PendingGraphs.{findings_by}
use Rattle.waitgraph.specs.PendingHeld.{IsHeldBy}
use Rattle.waitgraph.specs.PendingNeeds.{ListsAwaited}
use Rattle.waitgraph.specs.PendingStays.{StaysPutBy}
use Rattle.waitgraph.specs.PendingVerdicts.{IsVerdictBy}
use Rattle.waitgraph.specs.declared.awaited.Awaited.{Awaited}
use Rattle.waitgraph.specs.declared.verdict.Verdict.{Verdict}
use Rattle.waitgraph.specs.declared.verdict.Verdict.TheVariants.{Free}
use Rattle.lawful.specs.Free.{IsWhole}
use Rattle.report.specs.PendingReport.{pending_report}
use Rattle.report.specs.declared.judged.Judged.{Judged}
use Rattle.report.specs.declared.judged.LeftAt.{LeftAt}
use Rattle.journals.specs.declared.limits.TheConstants.{MOST_RANKS}
use Rattle.closing.specs.Entries.{Run, is_cut_off, journal_at}
use Rattle.closing.specs.Entry.{Choice}
use Rattle.closing.specs.Freed.{starts_freed}
use Rattle.closing.specs.Journals.{RankFault, run_of}
use Rattle.closing.specs.Recording.{recording_of, calls_of, list_of}
use Rattle.closing.specs.Left.{Left, left_of}
use Rattle.closing.specs.declared.choice.Choice.{Choice as ChoiceMade}
use Rattle.closing.specs.declared.choice.Calls.{Calls}
use Rattle.closing.specs.declared.choice.Calls.TheVariants.{Strict, Went}
use Rattle.closing.specs.declared.why.Why.{Why}
use Rattle.closing.specs.declared.why.Why.TheVariants as why
use Rattle.judging.specs.HeldSaid.{IsHeldSaid}
use Rattle.judging.specs.JournalTexts.{Known, AreKnown, IsFaultOfFiles}
use Rattle.judging.specs.KnownCalls.{calls_at_opens, judged_choice, known_of}
use Rattle.judging.specs.NamedCalls.{HaveLines, HaveNumbers, calls_in, calls_named, lines_of}
use Rattle.judging.specs.UnderWay.{unclean_at}
use Rattle.judging.specs.declared.judge.JudgeFault.{JudgeFault}
use Rattle.judging.specs.declared.judge.JudgeFault.TheVariants.{Read, Unclean, Memory, Write}
use Rattle.judging.specs.declared.judge.Manner.{Manner}
use Rattle.judging.specs.declared.under_way.EntryAt.{EntryAt}

-- ---- What the report of a run has in addition ----

-- the finding is of a request that is left out, by the rank and the place that started it
abbrev pub is_left_out : (ℕ → ℕ → Bool) → Finding → Bool
is_left_out left_out (Request rank place request) = left_out rank place
is_left_out left_out finding = false

-- the findings but these; as it went there is none
abbrev pub reported_by : Calls → (ℕ → ℕ → Bool) → List Finding → List Finding
reported_by Went left_out findings = []
reported_by Strict left_out findings = filter (λ finding. not (is_left_out left_out finding)) findings

-- the request that the rank's list starts at the place isn't leaked: the rank's program frees it, or goes on after a cut
abbrev pub is_no_leak : Run → Choice → ℕ → ℕ → Bool
is_no_leak run choice rank place = is_cut_off (journal_at run rank) || starts_freed run rank (list_of run choice rank) place

abbrev pub words_of : Why → List ℕ
words_of why.NeverCameBack = codes "never came back"
words_of why.NeverReported = codes "never told"
words_of why.Failed = codes "failed"
words_of why.NoNumber = codes "no number"
words_of why.TooLong = codes "too long"
words_of why.CannotBe = codes "cannot be"
words_of why.Stopped = codes "stopped"
words_of why.Aborted = codes "aborted"
words_of why.Full = codes "full"
words_of why.Cut = codes "cut"
words_of why.NotJudged = codes "not judged"
words_of why.NoJournal = codes "no journal"

-- at which line, and why, the list of a rank ends before its end
pub record LeftWords : Type 0 where
  pub rank : ℕ
  pub line : ℕ
  pub words : List ℕ

abbrev pub left_words : Left → LeftWords
left_words it = record { rank = it.rank; line = it.line; words = words_of it.why }

abbrev pub left_said : LeftAt → LeftWords
left_said it = record { rank = it.rank; line = it.line; words = it.why.now }

-- groups and lists are those of the run's recording, and what is known and said in addition is of it; each held rank
-- stays where it stands, whether sinks are met or not, however pending calls come back, and whatever comes after them;
-- where the journals of all ranks are cut, nothing is under way there
pub record IsRecordingOfRun (run : Run) (choice : Choice) (groups : Groups) (recording : Lists) (pending : PendingKnown) (judged : Judged) : Type 0 where
  pub groups_are : groups ≡ (recording_of run choice).groups
  pub lists_are : recording ≡ map calls_of (recording_of run choice).lists
  pub known_are : pending ≡ known_of run choice
  pub held_stay : (reading : Reading) (rank : ℕ) → IsHeldBy reading groups recording pending rank → StaysPutBy reading groups recording pending rank
  pub findings_are : judged.findings.now ≡ reported_by choice.calls (is_no_leak run choice) (findings_by groups recording pending.sinks)
  pub left_is : map left_said judged.left.now ≡ map left_words (left_of (recording_of run choice).lists)
  pub lines_are : HaveNumbers (map lines_of (recording_of run choice).lists) judged.lines.now
  pub is_clean : unclean_at run choice ≡ None

-- ---- Reports ----

-- by the manner's reading and by what is known of how lists go on, report and verdict are those of a closed recording;
-- where the files are known, they hold a run, and the recording is that of the run; what is reported free was called so
pub record IsJudgedReport (known : Known) (manner : Manner) (verdict : Verdict) (report : List ℕ) : Type 0 where
  pub groups : Groups
  pub recording : Lists
  pub judged : Judged
  pub one_a_rank : length recording ≡ ranks_of groups
  pub closed : IsClosed recording
  pub pending : PendingKnown
  pub is_verdict : IsVerdictBy manner.reading groups recording pending verdict
  pub at_open : List (List Awaited)
  pub are_awaited : ListsAwaited manner.reading groups recording pending at_open
  pub causes : List CauseView
  pub are_causes : AreCausesBy manner.reading groups recording pending causes
  pub is_text : report ≡ pending_report manner.format manner.reading groups recording verdict pending.pending at_open causes judged
  pub names : HaveLines (calls_in manner.format (calls_named manner.reading groups recording judged.findings.now ++ calls_at_opens manner.reading groups recording pending at_open)) judged.lines.now
  pub held_said : IsHeldSaid manner.reading groups recording pending manner.held judged.findings.now judged.held
  pub of_run : (first : List ℕ) (texts : ℕ → Option (List ℕ)) (run : Run) → AreKnown known (length run) first texts →
      run_of first texts ≡ Ok run → IsRecordingOfRun run (judged_choice manner.choice) groups recording pending judged
  pub of_none_refused : (first : List ℕ) (texts : ℕ → Option (List ℕ)) (fault : RankFault) → AreKnown known MOST_RANKS first texts →
      run_of first texts ≡ Err fault → ⊥
  pub free_is_whole : (first : List ℕ) (texts : ℕ → Option (List ℕ)) (run : Run) → AreKnown known (length run) first texts →
      run_of first texts ≡ Ok run → verdict ≡ Free → IsWhole run (recording_of run (judged_choice manner.choice))

-- ---- Faults ----

-- the files aren't known to hold a run
abbrev pub HoldNoRun : Known → Type 0
HoldNoRun known =
    (first : List ℕ) (texts : ℕ → Option (List ℕ)) (run : Run) → AreKnown known (length run) first texts → run_of first texts ≡ Ok run → ⊥

-- nor a fault, with which they aren't read
abbrev pub HoldNoFault : Known → Type 0
HoldNoFault known =
    (first : List ℕ) (texts : ℕ → Option (List ℕ)) (fault : RankFault) → AreKnown known MOST_RANKS first texts → run_of first texts ≡ Err fault → ⊥

-- where the files are known and hold a run, its cut isn't clean at this entry
abbrev pub IsUnclean : Known → ChoiceMade → EntryAt → Type 0
IsUnclean known choice entry =
    (first : List ℕ) (texts : ℕ → Option (List ℕ)) (run : Run) → AreKnown known (length run) first texts → run_of first texts ≡ Ok run →
    unclean_at run (judged_choice choice) ≡ Some (record { rank = entry.rank; line = entry.line })

-- the fault is that of reading the journals, or that of their cut, once they are read; no head, call or end of a recording
-- of known files has one
abbrev pub IsFaultOfJudge : Known → ChoiceMade → JudgeFault → Type 0
IsFaultOfJudge known choice (Read fault) = IsFaultOfFiles known fault
IsFaultOfJudge known choice (Unclean entry) = IsUnclean known choice entry × HoldNoFault known
IsFaultOfJudge known choice Memory = ⊤
IsFaultOfJudge known choice Write = ⊤
IsFaultOfJudge known choice fault = HoldNoRun known × HoldNoFault known

-- only a failed write leaves the output other than it was: with a prefix of a text, and one failure more
abbrev pub LeavesAt : {O : Type 0} → (O → Option (List ℕ)) → (O → ℕ) → O → O → JudgeFault → Type 0
LeavesAt written failures old new Write = (text : List ℕ) × AppendsBeginning (written old) (written new) text × (failures new ≡ one_more (failures old))
LeavesAt written failures old new fault = new ≡ old
