-- What `close` writes, and which fault it reports.
use Rattle.std.specs.Prelude.{◌≡◌, ℕ, Option, Some, Ok, Err, List, length, slice_get, ⊤}
use Rattle.std.specs.Io.KnownBytes.{Appends}
use Rattle.journals.specs.declared.limits.TheConstants.{MOST_RANKS}
use Rattle.closing.specs.Entries.{Run}
use Rattle.closing.specs.Entry.{Choice}
use Rattle.closing.specs.Journals.{RankFault, run_of}
use Rattle.closing.specs.Recording.{Recording, Listed, recording_of}
use Rattle.closing.specs.Texts.{head_text, trace_text}
use Rattle.judging.specs.JournalTexts.{Known, AreKnown, IsFaultOfFiles}
use Rattle.judging.specs.declared.close.CloseFault.{CloseFault}
use Rattle.judging.specs.declared.close.CloseFault.TheVariants.{Read, Make, Memory}
use Rattle.judging.specs.declared.close.FileName.{FileName}
use Rattle.judging.specs.declared.close.FileName.TheVariants.{Head, Trace}
use Rattle.judging.specs.declared.read.ReadFault.{ReadFault}
use Rattle.judging.specs.declared.read.ReadFault.TheVariants as read

-- ---- Files ----

-- by what is known of a file when it is made, and of those with a name: these are the texts of a recording, of its head
-- and of each rank's list
pub record AreFilesOf (empty : Option (List ℕ)) (text : FileName → Option (List ℕ)) (recording : Recording) : Type 0 where
  pub head : Appends empty (text Head) (head_text recording)
  pub traces : (rank : ℕ) (list : Listed) → slice_get recording.lists rank ≡ Some list →
      Appends empty (text (Trace rank)) (trace_text list)

-- where the files of journals are known, they hold a run, and the files that were written are its recording
pub record IsWritten (known : Known) (choice : Choice) (empty : Option (List ℕ)) (text : FileName → Option (List ℕ)) : Type 0 where
  pub of_run : (first : List ℕ) (texts : ℕ → Option (List ℕ)) (run : Run) → AreKnown known (length run) first texts →
      run_of first texts ≡ Ok run → AreFilesOf empty text (recording_of run choice)
  pub of_none_refused : (first : List ℕ) (texts : ℕ → Option (List ℕ)) (fault : RankFault) →
      AreKnown known MOST_RANKS first texts → run_of first texts ≡ Err fault → ⊥

-- ---- Faults ----

-- what is reported where the journals aren't read
abbrev pub close_fault : ReadFault → CloseFault
close_fault read.Memory = Memory
close_fault it = Read it

-- a fault of reading the journals is that of their files; what makes or writes a file may fail
abbrev pub IsFaultOfClose : Known → CloseFault → Type 0
IsFaultOfClose known (Read fault) = IsFaultOfFiles known fault
IsFaultOfClose known fault = ⊤

-- journals that aren't read, and a folder that can't be made, leave all as it was
abbrev pub LeavesFolder : {F : Type 0} → F → F → CloseFault → Type 0
LeavesFolder old new (Read fault) = new ≡ old
LeavesFolder old new Make = new ≡ old
LeavesFolder old new fault = ⊤
