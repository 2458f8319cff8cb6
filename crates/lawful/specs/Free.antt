-- Laws of how lists end, and of what is reported free.
use Rattle.std.specs.Prelude.{◌≡◌, ◌↔◌, ◌⊎◌, ◌<◌, ℕ, false, true, Option, Some, None, is_some, is_none, List, [], ◌∷◌, ◌++◌, length, map, slice_get}
use Rattle.std.specs.List.{list_any, list_all, range_with_len}
use Rattle.mpicall.specs.declared.call.Call.TheVariants.{Finalize, Open}
use Rattle.callstore.specs.Recordings.{Lists}
use Rattle.pairing.specs.LeftOpen.{is_left_open}
use Rattle.journals.specs.Lines.{Line}
use Rattle.journals.specs.Journal.{Journal}
use Rattle.journals.specs.Faults.{ends_journal}
use Rattle.closing.specs.Entries.{Run, Placed, journal_at, entries_at}
use Rattle.closing.specs.Entry.{Choice}
use Rattle.closing.specs.Endings.{why_at}
use Rattle.closing.specs.Left.{Left, left_of}
use Rattle.closing.specs.Recording.{Recording, Listed, calls_of, is_end, outcome_in, most_records, list_from, progress_first, whole_list, list_of, recording_of}
use Rattle.closing.specs.Sinks.{Outcome, GoesOn, Ends, sink_in}
use Rattle.closing.specs.Steps.{Written}
use Rattle.closing.specs.declared.choice.Unreported.TheVariants as unreported
use Rattle.closing.specs.declared.why.Why.{Why}
use Rattle.closing.specs.declared.why.Why.TheVariants.{NeverReported, NotJudged}
use Rattle.lawful.specs.Laws.{IsRead}

-- ---- How a list ends ----

-- one of the entries is a finalize, an exit or a cut, and none up to it breaks the list off
pub record AreGoneThrough (run : Run) (entries : List Placed) : Type 0 where
  pub before : List Placed
  pub last : Placed
  pub after : List Placed
  pub are : entries ≡ before ++ last ∷ after
  pub ends : is_end last.called ≡ true
  pub none_breaks : list_all (λ placed. is_none (why_at run placed)) (before ++ last ∷ []) ≡ true

-- Law: where lists have no sinks, one ends with Finalize exactly if its rank's journal was gone through, and the list
-- isn't too long.
abbrev pub EachFinalizeIsAnEnd : Type 0
EachFinalizeIsAnEnd =
    (run : Run) (choice : Choice) (rank : ℕ) → choice.unreported ≡ unreported.Ends →
    ((list_of run choice rank).end ≡ Finalize) ↔
    (AreGoneThrough run (entries_at run rank) × (length (whole_list run choice rank).records < most_records))

-- Law: where they may have some too, one ends with Finalize if its rank's journal was gone through so, and the list
-- isn't too long.
abbrev pub WhatIsGoneThroughEnds : Type 0
WhatIsGoneThroughEnds =
    (run : Run) (choice : Choice) (rank : ℕ) → AreGoneThrough run (entries_at run rank) →
    length (whole_list run choice rank).records < most_records → (list_of run choice rank).end ≡ Finalize

-- why what comes of an entry ends its rank's list before its end
abbrev pub why_of : Outcome → Option Why
why_of (GoesOn steps) = None
why_of (Ends steps end why) = why

-- one of the entries is a finalize, an exit or a cut, and none up to it ends the list before its end, by the sinks before
-- each
pub record AreListedThrough (run : Run) (choice : Choice) (rank : ℕ) (entries : List Placed) : Type 0 where
  pub before : List Placed
  pub last : Placed
  pub after : List Placed
  pub are : entries ≡ before ++ last ∷ after
  pub ends : is_end last.called ≡ true
  pub none_ends : (earlier : List Placed) (placed : Placed) (later : List Placed) → before ++ last ∷ [] ≡ earlier ++ placed ∷ later →
      why_of (outcome_in run choice (list_from run choice (progress_first run rank) earlier).records placed) ≡ None

-- Law: with sinks or without, a list ends with Finalize exactly if its rank's journal was gone through by the sinks
-- before each entry, and the list isn't too long.
abbrev pub EachFinalizeIsListedThrough : Type 0
EachFinalizeIsListedThrough =
    (run : Run) (choice : Choice) (rank : ℕ) →
    ((list_of run choice rank).end ≡ Finalize) ↔
    (AreListedThrough run choice rank (entries_at run rank) × (length (whole_list run choice rank).records < most_records))

-- Law: a list of which it is reported why it ends is left open.
abbrev pub WhatIsLeftIsOpen : Type 0
WhatIsLeftIsOpen =
    (run : Run) (choice : Choice) (rank : ℕ) (why : Why) →
    (list_of run choice rank).why ≡ Some why → (list_of run choice rank).end ≡ Open

-- Law: a list of which that isn't reported ends with Finalize, if its rank's journal has a finalize, an exit or a cut.
abbrev pub WhatIsNotLeftIsAnEnd : Type 0
WhatIsNotLeftIsAnEnd =
    (run : Run) (choice : Choice) (rank : ℕ) → (list_of run choice rank).why ≡ None →
    list_any (λ placed. is_end placed.called) (entries_at run rank) ≡ true →
    (list_of run choice rank).end ≡ Finalize

-- ---- What is reported free ----

-- a free verdict means that no list is left open
abbrev pub IsNoneLeftOpen : Lists → Type 0
IsNoneLeftOpen lists = list_any (is_left_open lists) (range_with_len 0 (length lists)) ≡ false

-- the rank has a journal, and its last line is a finalize, an exit or a cut
pub record HasCalledItsEnd (run : Run) (rank : ℕ) : Type 0 where
  pub journal : Journal
  pub is_there : journal_at run rank ≡ Some journal
  pub before : List Line
  pub last : Line
  pub are : journal.lines ≡ before ++ last ∷ []
  pub ends : ends_journal last.word ≡ true

-- each rank has called its end, and of no list is it reported why it ends before that
pub record IsWhole (run : Run) (it : Recording) : Type 0 where
  pub called : (rank : ℕ) → rank < length run → HasCalledItsEnd run rank
  pub none_left : list_all (λ list. is_none list.why) it.lists ≡ true

-- Law: what is reported free was called so: each rank's journal goes to its end, and nothing of it is left.
abbrev pub WhatIsFreeIsWhole : Type 0
WhatIsFreeIsWhole =
    (run : Run) (choice : Choice) → IsRead run →
    IsNoneLeftOpen (map calls_of (recording_of run choice).lists) → IsWhole run (recording_of run choice)

-- the line is that of a sink of its rank's list
pub record IsOfSink (it : Recording) (left : Left) : Type 0 where
  pub list : Listed
  pub is_list : slice_get it.lists left.rank ≡ Some list
  pub place : ℕ
  pub written : Written
  pub is_written : slice_get list.records place ≡ Some written
  pub is_sink : is_some (sink_in written.starts) ≡ true
  pub is_line : left.line ≡ written.line
  pub why : (left.why ≡ NeverReported) ⊎ (left.why ≡ NotJudged)

-- Law: sinks alone are left of what is reported free.
abbrev pub SinksAloneAreLeft : Type 0
SinksAloneAreLeft =
    (run : Run) (choice : Choice) → IsRead run → IsNoneLeftOpen (map calls_of (recording_of run choice).lists) →
    (place : ℕ) (left : Left) → slice_get (left_of (recording_of run choice).lists) place ≡ Some left →
    IsOfSink (recording_of run choice) left

-- Law: where lists have no sinks, nothing is left of it.
abbrev pub NothingIsLeft : Type 0
NothingIsLeft =
    (run : Run) (choice : Choice) → choice.unreported ≡ unreported.Ends → IsRead run →
    IsNoneLeftOpen (map calls_of (recording_of run choice).lists) → left_of (recording_of run choice).lists ≡ []
