-- Laws of journals in which more is reported: what a list has so far stays, too, where messages are reported among its
-- lines.
use Rattle.std.specs.Prelude.{◌≡◌, ◌⊎◌, ℕ, true, Option, Some, None, is_some, List, [], ◌∷◌, length}
use Rattle.journals.specs.Lines.{Line}
use Rattle.journals.specs.declared.word.Word.TheVariants.{Report}
use Rattle.journals.specs.declared.word.ReportWord.TheVariants as report
use Rattle.closing.specs.Keys.{Key}
use Rattle.closing.specs.Entries.{Run, lines_at, entries_at}
use Rattle.closing.specs.Reported.{done_in, done_of}
use Rattle.closing.specs.Numbers.{number_of, preface_of}
use Rattle.closing.specs.Steps.{Id, Whole, Written}
use Rattle.closing.specs.Entry.{Choice}
use Rattle.closing.specs.Recording.{whole_list}
use Rattle.closing.specs.declared.choice.Calls.TheVariants.{Strict}
use Rattle.closing.specs.declared.choice.Unreported.TheVariants as unreported
use Rattle.lawful.specs.Laws.{IsRead}
use Rattle.lawful.specs.Longer.{NoneIsGone, NoneIsMoved, AllKept, IsWithoutSinks, Stays}
use Rattle.lawful.specs.LongerSinks.{NoneIsFromNobody, StaysWithSinks}

-- ---- The longer run ----

-- the line reports the message of a request of which the others report none
pub record IsTold (lines : List Line) (line : Line) : Type 0 where
  pub word : line.word ≡ Report report.Done
  pub untold : (request : ℕ) → is_some (done_in request line.word line.fields) ≡ true → done_of lines request ≡ None

-- these lines are among others in their order: in front of each are such reports alone, and any lines come after
abbrev pub AreAmong : List Line → List Line → List Line → Type 0
AreAmong all [] others = Unit {0}
AreAmong all (line ∷ lines) [] = ⊥
AreAmong all (line ∷ lines) (other ∷ others) =
    ((other ≡ line) × AreAmong all lines others) ⊎ (IsTold all other × AreAmong all (line ∷ lines) others)

-- each journal goes on so; the rest is as where lines come after alone
pub record IsToldMore (run longer : Run) : Type 0 where
  pub ranks : length longer ≡ length run
  pub more : (rank : ℕ) → AreAmong (lines_at run rank) (lines_at run rank) (lines_at longer rank)
  pub none_gone : (rank : ℕ) → NoneIsGone run longer rank
  pub none_moved : (rank : ℕ) → NoneIsMoved run longer rank
  pub numbers : (key : Key) → number_of longer key ≡ number_of run key
  pub prefaces : (rank : ℕ) → preface_of longer rank ≡ preface_of run rank

-- ---- The list ----

-- the same request, or that of a blocking call, which has the number of its line
abbrev pub StartsSame : Option Id → Option Id → Type 0
StartsSame (Some (Whole line)) (Some (Whole other)) = Unit {0}
StartsSame one other = other ≡ one

-- the same record, but for the number of its line
pub record IsSame (one other : Written) : Type 0 where
  pub call : other.call ≡ one.call
  pub starts : StartsSame one.starts other.starts

abbrev pub AreSame : List Written → List Written → Type 0
AreSame [] [] = Unit {0}
AreSame (one ∷ old) (other ∷ new) = IsSame one other × AreSame old new
AreSame old new = ⊥

-- Law: the list of the longer run is one that has the records so far, but for the numbers of lines.
abbrev pub WhatIsToldBetweenStays : Type 0
WhatIsToldBetweenStays =
    (run longer : Run) (choice : Choice) (rank : ℕ) → choice.calls ≡ Strict → IsWithoutSinks run choice rank →
    IsRead run → IsRead longer → IsToldMore run longer → AllKept run longer (entries_at run rank) (entries_at longer rank) →
    (list : List Written) × (Stays (entries_at run rank) (whole_list run choice rank).records list)
    × AreSame list (whole_list longer choice rank).records

-- Law: so it is where lists have sinks, but in their places.
abbrev pub WhatIsToldBetweenStaysWithSinks : Type 0
WhatIsToldBetweenStaysWithSinks =
    (run longer : Run) (choice : Choice) (rank : ℕ) → choice.calls ≡ Strict → choice.unreported ≡ unreported.Sinks →
    IsRead run → IsRead longer → IsToldMore run longer →
    AllKept run longer (entries_at run rank) (entries_at longer rank) →
    NoneIsFromNobody (entries_at run rank) (entries_at longer rank) →
    (list : List Written) × (StaysWithSinks (entries_at run rank) (whole_list run choice rank).records list)
    × AreSame list (whole_list longer choice rank).records
