-- What is known of the journals of a run, by their files, and what the reading of all of them answers.
use Rattle.std.specs.Prelude.{◌≡◌, ◌<◌, ◌≤◌, ℕ, ◌+◌, Option, Some, None, option_map, Ok, Err, List, length, ⊤}
use Rattle.journals.specs.Text.{text_of}
use Rattle.journals.specs.JournalAnswers.{fault_in, IsCut}
use Rattle.journals.specs.declared.journal.Journal.{Journal as JournalRead}
use Rattle.journals.specs.declared.limits.TheConstants.{MOST_RANKS}
use Rattle.closing.specs.Entries.{Run}
use Rattle.closing.specs.Journals.{RankFault, run_of, run_in}
use Rattle.judging.specs.declared.read.ReadFault.{ReadFault}
use Rattle.judging.specs.declared.read.ReadFault.TheVariants.{Open, Refused, ReadFailed, Memory}

-- of each rank what is known of its file: nothing; that there is none; or its bytes
abbrev pub Known : Type 0
Known = ℕ → Option (Option (List ℕ))

-- the bytes, where they are known
abbrev pub bytes_in : Option (Option (List ℕ)) → Option (List ℕ)
bytes_in None = None
bytes_in (Some bytes) = bytes

-- the files of so many ranks are known: that of rank 0, and those of other ranks, which may not be there
pub record AreKnown (known : Known) (ranks : ℕ) (first : List ℕ) (texts : ℕ → Option (List ℕ)) : Type 0 where
  pub first_is : 0 < ranks → known 0 ≡ Some (Some first)
  pub others_are : (rank : ℕ) → 0 < rank → rank < ranks → known rank ≡ Some (texts rank)

-- these journals are the run that the files hold: as many as it has ranks, by the file of rank 0
pub record AreOfFiles (known : Known) (journals : List (Option JournalRead)) : Type 0 where
  pub run : (first : List ℕ) (texts : ℕ → Option (List ℕ)) → AreKnown known (length journals) first texts →
      run_of first texts ≡ Ok (run_in journals)
  pub as_many : (first : List ℕ) (texts : ℕ → Option (List ℕ)) (run : Run) → known 0 ≡ Some (Some first) →
      run_of first texts ≡ Ok run → length journals ≡ length run
  pub few : length journals ≤ MOST_RANKS

-- no rank before this one has a fault
abbrev pub IsItsTurn : Known → ℕ → Type 0
IsItsTurn known rank =
    (first : List ℕ) (texts : ℕ → Option (List ℕ)) (fault : RankFault) → AreKnown known rank first texts →
    run_of first texts ≡ Err fault → rank ≤ fault.rank

-- what came of a file until a read failed has so many whole lines
abbrev pub IsCutAt : Known → ℕ → ℕ → Type 0
IsCutAt known rank count =
    (left : Option (List ℕ)) × IsCut (option_map text_of (bytes_in (known rank))) left count

-- Which fault is reported: that of the lowest rank that has one. A file whose bytes are known can be opened, and of a
-- rank after the first none is asked for that isn't there.
abbrev pub IsFaultOfFiles : Known → ReadFault → Type 0
IsFaultOfFiles known (Open rank) = (bytes_in (known rank) ≡ None) × (0 < rank → known rank ≡ None) × IsItsTurn known rank
IsFaultOfFiles known (Refused rank fault) =
    (first : List ℕ) (texts : ℕ → Option (List ℕ)) → AreKnown known (rank + 1) first texts →
    run_of first texts ≡ Err (record { rank = rank; fault = fault_in fault })
IsFaultOfFiles known (ReadFailed rank line) =
    ((count : ℕ) × (line ≡ 1 + count) × IsCutAt known rank count) × IsItsTurn known rank
IsFaultOfFiles known Memory = ⊤
