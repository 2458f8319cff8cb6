-- The journals of a run and their entries: each with what its call line says, what the rank has before its call, and
-- whether the call came back.
use Rattle.std.specs.Prelude.{ℕ, ◌+◌, Bool, true, false, ◌||◌, Option, Some, None, List, [], ◌∷◌, length, slice_get}
use Rattle.std.specs.List.{list_any, list_all, flat_map, range_with_len}
use Rattle.journals.specs.Lines.{Line}
use Rattle.journals.specs.Faults.{ends_with_cut}
use Rattle.journals.specs.Words.{is_call}
use Rattle.journals.specs.Journal.{Journal}
use Rattle.journals.specs.Entries.{Entry, listing_of}
use Rattle.journals.specs.declared.word.Word.{Word}
use Rattle.journals.specs.declared.word.Word.TheVariants.{Call, Report}
use Rattle.journals.specs.declared.word.CallWord.{CallWord}
use Rattle.journals.specs.declared.word.CallWord.TheVariants as call
use Rattle.journals.specs.declared.word.ReportWord.TheVariants as report
use Rattle.closing.specs.Called.{Called, called}
use Rattle.closing.specs.RankComms.{RankComms, comms_first, after_line}

-- the journal of each rank; None of one without
abbrev pub Run : Type 0
Run = List (Option Journal)

abbrev pub ranks_of : Run → List ℕ
ranks_of run = range_with_len 0 (length run)

abbrev pub journal_at : Run → ℕ → Option Journal
journal_at run rank = joined (slice_get run rank)
  where
    joined : Option (Option Journal) → Option Journal
    joined None = None
    joined (Some journal) = journal

abbrev pub lines_in : Option Journal → List Line
lines_in None = []
lines_in (Some journal) = journal.lines

-- the lines of a rank's journal, but its header
abbrev pub lines_at : Run → ℕ → List Line
lines_at run rank = lines_in (journal_at run rank)

pub record Placed : Type 0 where
  pub rank : ℕ
  pub journal : Journal
  -- the number of its call line in the journal
  pub line : ℕ
  pub entry : Entry
  pub called : Called
  pub comms : RankComms
  pub came_back : Bool

-- the journal ends where nothing is under way
abbrev pub is_cut_off : Option Journal → Bool
is_cut_off None = false
is_cut_off (Some journal) = ends_with_cut journal.lines

-- so do the journals of all ranks
abbrev pub is_window : Run → Bool
is_window run = list_all is_cut_off run

-- ---- Whether a call came back ----

-- the report says that the call before it came back
abbrev pub says_back : Word → Bool
says_back (Report report.Done) = false
says_back (Report report.Gone) = false
says_back (Report report.Kept) = false
says_back (Report report.Moved) = false
says_back (Report report.Apart) = false
says_back word = true

abbrev pub comes_always : CallWord → Bool
comes_always call.Test = true
comes_always call.Iprobe = true
comes_always call.Improbe = true
comes_always _ = false

-- the rank has a later call line, or the header says so, or a report of the entry does; a test always did
abbrev pub did_come_back : Journal → Entry → List Line → Bool
did_come_back journal entry later =
    list_any (λ line. is_call line.word) later || journal.heading.is_outside
    || list_any (λ line. says_back line.word) entry.reports || comes_always entry.word

-- ---- Entries ----

abbrev pub placed_at : ℕ → Journal → ℕ → RankComms → Entry → List Line → Placed
placed_at rank journal number comms entry later = record {
  rank = rank;
  journal = journal;
  line = number;
  entry = entry;
  called = called entry.word entry.fields;
  comms = comms;
  came_back = did_come_back journal entry later;
}

abbrev pub put_line : ℕ → Journal → ℕ → RankComms → Line → List Line → List Placed → List Placed
put_line rank journal number comms line later others = put_word line.word
  where
    put_word : Word → List Placed
    put_word (Call word) =
        placed_at rank journal number comms (record { word = word; fields = line.fields; reports = (listing_of later).early }) later
        ∷ others
    put_word (Report word) = others

-- those of some of the rank's lines, the first of which has this number, with what the rank has before them
abbrev pub entries_from : ℕ → Journal → ℕ → RankComms → List Line → List Placed
entries_from rank journal number comms [] = []
entries_from rank journal number comms (line ∷ lines) =
    put_line rank journal number comms line lines (entries_from rank journal (number + 1) (after_line comms line) lines)

abbrev pub entries_in : ℕ → Option Journal → List Placed
entries_in rank None = []
entries_in rank (Some journal) = entries_from rank journal 2 (comms_first rank) journal.lines

-- those of a rank, and those of all ranks
abbrev pub entries_at : Run → ℕ → List Placed
entries_at run rank = entries_in rank (journal_at run rank)

abbrev pub all_entries : Run → List Placed
all_entries run = flat_map (entries_at run) (ranks_of run)
