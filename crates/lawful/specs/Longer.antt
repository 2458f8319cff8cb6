-- Law of journals that go on: what a list has so far stays as it is, whatever its calls.
use Rattle.std.specs.Prelude.{◌≡◌, ◌⊎◌, ℕ, Bool, true, false, ◌&&◌, ◌==◌, is_none, List, [], ◌∷◌, ◌++◌, length}
use Rattle.std.specs.List.{list_all}
use Rattle.mpicall.specs.declared.call.Call.{Call}
use Rattle.mpicall.specs.declared.call.Call.TheVariants.{Dup, Split, Coll}
use Rattle.mpicall.specs.declared.call.Kind.TheVariants.{Barrier}
use Rattle.journals.specs.Lines.{Line}
use Rattle.journals.specs.Faults.{is_free}
use Rattle.journals.specs.Known.{has_report, report_of}
use Rattle.journals.specs.declared.word.ReportWord.TheVariants as report
use Rattle.closing.specs.Keys.{Key}
use Rattle.closing.specs.RankComms.{makes_comm}
use Rattle.closing.specs.Entries.{Run, Placed, lines_at, entries_at}
use Rattle.closing.specs.Reported.{is_gone, is_moved}
use Rattle.closing.specs.Numbers.{number_of, preface_of}
use Rattle.closing.specs.Steps.{Written}
use Rattle.closing.specs.Endings.{can_be, why_at}
use Rattle.closing.specs.Entry.{Choice}
use Rattle.closing.specs.Recording.{whole_list}
use Rattle.closing.specs.declared.choice.Calls.TheVariants.{Strict}
use Rattle.closing.specs.declared.choice.Unreported.TheVariants as unreported
use Rattle.lawful.specs.Laws.{IsRead}

-- ---- The longer run ----

-- the rank's journal has more lines in it
pub record HasMore (run longer : Run) (rank : ℕ) : Type 0 where
  pub more : List Line
  pub lines : lines_at longer rank ≡ lines_at run rank ++ more

-- of a request so far it isn't reported later that it was cancelled
abbrev pub NoneIsGone : Run → Run → ℕ → Type 0
NoneIsGone run longer rank =
    (request : ℕ) → is_free (lines_at run rank) request ≡ false →
    is_gone (lines_at longer rank) request ≡ is_gone (lines_at run rank) request

-- nor is it reported later that it is moved, as a journal does that ends with a cut
abbrev pub NoneIsMoved : Run → Run → ℕ → Type 0
NoneIsMoved run longer rank =
    (request : ℕ) → is_free (lines_at run rank) request ≡ false →
    is_moved (lines_at longer rank) request ≡ is_moved (lines_at run rank) request

-- each journal goes on, whatever its header says; communicators have the same numbers
pub record IsLonger (run longer : Run) : Type 0 where
  pub ranks : length longer ≡ length run
  pub more : (rank : ℕ) → HasMore run longer rank
  pub none_gone : (rank : ℕ) → NoneIsGone run longer rank
  pub none_moved : (rank : ℕ) → NoneIsMoved run longer rank
  pub numbers : (key : Key) → number_of longer key ≡ number_of run key
  pub prefaces : (rank : ℕ) → preface_of longer rank ≡ preface_of run rank

-- of a call so far it isn't reported later that it failed, or a message that can't be
pub record IsKept (run longer : Run) (placed later : Placed) : Type 0 where
  pub failed : has_report report.Failed placed.entry ≡ false → has_report report.Failed later.entry ≡ false
  pub can : can_be run placed ≡ true → can_be longer later ≡ true

-- so it is of each of them
abbrev pub AllKept : Run → Run → List Placed → List Placed → Type 0
AllKept run longer (placed ∷ entries) (later ∷ others) = IsKept run longer placed later × AllKept run longer entries others
AllKept run longer entries others = Unit {0}

-- lists have no sinks, or no call so far ends the list
abbrev pub IsWithoutSinks : Run → Choice → ℕ → Type 0
IsWithoutSinks run choice rank =
    (choice.unreported ≡ unreported.Ends) ⊎ (list_all (λ placed. is_none (why_at run placed)) (entries_at run rank) ≡ true)

-- ---- The list ----

abbrev pub Begins : List Written → List Written → Type 0
Begins old new = (rest : List Written) × (new ≡ old ++ rest)

-- the call stands for one that may make a communicator of that with this number
abbrev pub is_maker : ℕ → Call → Bool
is_maker comm (Dup parent new) = parent == comm
is_maker comm (Split parent colour key new) = parent == comm
is_maker comm (Coll parent Barrier) = parent == comm
is_maker comm call = false

-- one begins with the other, but that the last record there is may be another such call
pub record BeginsButLast (old new : List Written) : Type 0 where
  pub before : List Written
  pub last : Written
  pub other : Written
  pub rest : List Written
  pub comm : ℕ
  pub makes : is_maker comm last.call ≡ true
  pub also : is_maker comm other.call ≡ true
  pub old_is : old ≡ before ++ last ∷ []
  pub new_is : new ≡ before ++ other ∷ rest

-- the call may make a communicator, and none is reported
abbrev pub is_silent : Placed → Bool
is_silent placed = makes_comm placed.called && is_none (report_of report.Comm placed.entry)

-- so it is with the last call
abbrev pub last_is_silent : List Placed → Bool
last_is_silent [] = false
last_is_silent (placed ∷ []) = is_silent placed
last_is_silent (placed ∷ others) = last_is_silent others

abbrev pub Stays : List Placed → List Written → List Written → Type 0
Stays entries old new = Begins old new ⊎ ((last_is_silent entries ≡ true) × BeginsButLast old new)

-- Law: the list of the longer run begins with the records so far, of calls of all kinds; up to its end, where it ends
-- early. Only the record of a last call that may make a communicator, of which none is reported so far, may be that of
-- another such call.
abbrev pub WhatIsToldStays : Type 0
WhatIsToldStays =
    (run longer : Run) (choice : Choice) (rank : ℕ) → choice.calls ≡ Strict → IsWithoutSinks run choice rank →
    IsRead run → IsRead longer → IsLonger run longer → AllKept run longer (entries_at run rank) (entries_at longer rank) →
    Stays (entries_at run rank) (whole_list run choice rank).records (whole_list longer choice rank).records
