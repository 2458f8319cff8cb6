-- What a check says of the texts of its files.
use Rattle.std.specs.Prelude.{◌≡◌, ◌≢◌, ◌⊎◌, ◌<◌, ℕ, true, false, Option, Some, None, Ok, Err, IfSome, List, length, map, slice_get, ⊤}
use Rattle.std.specs.Borrow.{Bor}
use Rattle.std.specs.List.{AllWithin, AllZip}
use Rattle.mpicall.specs.Lines.{lines_of}
use Rattle.mpicall.specs.Trace.{Trace, IsTraceOf}
use Rattle.mpicall.specs.declared.fault.SourceFault.TheVariants.{GateStopped}
use Rattle.mpigroup.specs.Groups.{Groups, ranks_of}
use Rattle.mpigroup.specs.HeadText.{read_head}
use Rattle.waitgraph.specs.declared.verdict.Verdict.{Verdict}
use Rattle.moves.specs.declared.reading.Reading.{Reading}
use Rattle.callstore.specs.Recordings.{Lists, IsClosed}
use Rattle.report.specs.Reports.{IsReport}
use Rattle.cli.specs.Openings.{Fate, Opened, ReadFailed, Unopened}
use Rattle.cli.specs.declared.options.Options.{Options}
use Rattle.gather.specs.Outcomes.{recording_of_traces, refusal_of}
use Rattle.gather.specs.declared.fault.RankFault.TheVariants.{OfSource}
use Rattle.gather.specs.declared.fault.Refusal.{Refusal}
use Rattle.driver.specs.VerdictContract.{IsRefusalOver, IsVerdictOver, is_from_outside}
use Rattle.cli.specs.declared.fault.Fault.{Fault}
use Rattle.cli.specs.declared.fault.Fault.TheVariants.{Open, ReadHead, Head, FileCount, Refused, Failed, Memory, Unproved, Write}

-- the head is the one that the text gives, where it is known
abbrev pub IsHeadOf : Option (List ℕ) → Groups → Type 0
IsHeadOf told groups = IfSome told (λ text. read_head text ≡ Ok groups)

-- the file couldn't be opened, since an opener opens each file whose text is known
abbrev pub IsUnopened : (List ℕ → Option (List ℕ)) → List ℕ → Type 0
IsUnopened told path = told path ≡ None

-- the texts hold these traces
abbrev pub AreTracesOf : List (List ℕ) → List Trace → Type 0
AreTracesOf texts traces = AllZip (λ text trace. IsTraceOf (lines_of text) trace) texts traces

-- the text of the head gives groups, the traces which the other texts hold have no fault, and the verdict is theirs, by
-- the reading. Each text holds just one trace: `each_text_has_one_trace` of `mpicall` says so
pub record IsVerdictOfTexts (reading : Reading) (head : List ℕ) (texts : List (List ℕ)) (verdict : Verdict) : Type 0 where
  pub groups : Groups
  pub is_head : read_head head ≡ Ok groups
  pub accepted : (traces : List Trace) → AreTracesOf texts traces → refusal_of groups traces ≡ None
  pub of_traces : (traces : List Trace) → AreTracesOf texts traces → IsVerdictOver reading groups traces verdict

-- the text of the head gives the groups, and the recording is that of the traces which the other texts hold
pub record IsRunOfTexts (head : List ℕ) (texts : List (List ℕ)) (groups : Groups) (recording : Lists) : Type 0 where
  pub is_head : read_head head ≡ Ok groups
  pub is_recording : (traces : List Trace) → AreTracesOf texts traces → recording ≡ recording_of_traces traces

-- the report of a run, and the verdict that it says: by the options they are those of groups and a closed
-- recording of their ranks, and where the texts of the head and the files are known, these are of the texts
pub record IsReportOf (options : Options) (head : Option (List ℕ)) (files : List (Option (List ℕ))) (verdict : Verdict) (report : List ℕ) : Type 0 where
  pub groups : Groups
  pub recording : Lists
  pub one_a_rank : length recording ≡ ranks_of groups
  pub closed : IsClosed recording
  pub of_texts : (text : List ℕ) (texts : List (List ℕ)) → head ≡ Some text → files ≡ map Some texts → IsRunOfTexts text texts groups recording
  pub is_report : IsReport options.format options.reading groups recording verdict report

-- the head was read and gives groups, and the number of the files is another than that of their ranks
pub record IsWrongCount (told : List ℕ → Option (List ℕ)) (head : List ℕ) (ranks count : ℕ) (files : List (Bor (List ℕ))) : Type 0 where
  pub groups : Groups
  pub is_head : IsHeadOf (told head) groups
  pub ranks_are : ranks ≡ ranks_of groups
  pub files_are : count ≡ length files
  pub differ : count ≢ ranks

-- the head was read and gives the groups, and there is one file a rank
pub record IsCounted (told : List ℕ → Option (List ℕ)) (head : List ℕ) (files : List (Bor (List ℕ))) (groups : Groups) : Type 0 where
  pub is_head : IsHeadOf (told head) groups
  pub one_a_rank : length files ≡ ranks_of groups

-- there is one file a rank, the refused rank is one of these, and no gate stopped the reading; and where the files'
-- texts are known, the refusal is that of the traces which these hold
pub record IsRefusalOfRun (told : List ℕ → Option (List ℕ)) (head : List ℕ) (files : List (Bor (List ℕ))) (refusal : Refusal) : Type 0 where
  pub groups : Groups
  pub counted : IsCounted told head files groups
  pub is_rank : refusal.rank < length files
  pub unstopped : refusal.fault ≢ OfSource GateStopped
  pub of_traces : (texts : List (List ℕ)) → map (λ file. told file.now) files ≡ map Some texts →
      (traces : List Trace) → AreTracesOf texts traces → IsRefusalOver groups traces refusal

-- of these files, in their order, this one is the first that can't be opened: each before it was opened
pub record IsFirstUnopened (fate : List ℕ → Fate → Type 0) (files : List (Bor (List ℕ))) (path : Bor (List ℕ)) : Type 0 where
  pub place : ℕ
  pub is_there : slice_get files place ≡ Some path
  pub unopened : fate path.now Unopened
  pub before : AllWithin (λ file. fate file.now Opened) files 0 place

-- Which fault a check reports: of the head, before its ranks are counted; of their number, before a file of
-- theirs is opened; of opening these in their order, before one is read; of the run. `fate` is what may become of
-- files, and `told` their texts, where they are known.
abbrev pub IsFaultOfCheck : (List ℕ → Fate → Type 0) → (List ℕ → Option (List ℕ)) → List ℕ → List (Bor (List ℕ)) → Fault → Type 0
IsFaultOfCheck fate told head files (Open path) =
    IsUnopened told path.now × (((path.now ≡ head) × fate head Unopened)
    ⊎ (fate head Opened × IsFirstUnopened fate files path × ((groups : Groups) × IsCounted told head files groups)))
IsFaultOfCheck fate told head files ReadHead = fate head ReadFailed
IsFaultOfCheck fate told head files (Head fault) = IfSome (told head) (λ text. read_head text ≡ Err fault)
IsFaultOfCheck fate told head files (FileCount ranks count) = IsWrongCount told head ranks count files
IsFaultOfCheck fate told head files (Refused refusal) = IsRefusalOfRun told head files refusal × (is_from_outside refusal.fault ≡ false)
IsFaultOfCheck fate told head files (Failed refusal) = IsRefusalOfRun told head files refusal × (is_from_outside refusal.fault ≡ true)
IsFaultOfCheck fate told head files Memory = ⊤
IsFaultOfCheck fate told head files (Unproved rank) = (rank < length files) × ((groups : Groups) × IsCounted told head files groups)
IsFaultOfCheck fate told head files Write = ⊤
IsFaultOfCheck fate told head files fault = ⊥
