-- Laws of the recordings that journals stand for.
use Rattle.std.specs.Prelude.{◌≡◌, ℕ, Option, Ok, List, map, Contains}
use Rattle.mpicall.specs.Trace.{trace_of}
use Rattle.mpicall.specs.declared.fault.Ending.TheVariants.{Sealed}
use Rattle.mpigroup.specs.HeadText.{read_head}
use Rattle.pairing.specs.Faults.{IsLawful}
use Rattle.closing.specs.Entries.{Run}
use Rattle.closing.specs.Entry.{Choice}
use Rattle.closing.specs.Journals.{run_of}
use Rattle.closing.specs.Recording.{Recording, Listed, calls_of, recording_of}
use Rattle.closing.specs.Texts.{head_text, trace_text}

-- the run is what the bytes of some files hold
pub record IsRead (run : Run) : Type 0 where
  pub first : List ℕ
  pub texts : ℕ → Option (List ℕ)
  pub is_read : run_of first texts ≡ Ok run

-- no call of a rank has a fault
abbrev pub IsLawfulRecording : Recording → Type 0
IsLawfulRecording it = IsLawful it.groups (map calls_of it.lists)

-- Law: nothing that comes of journals is refused.
abbrev pub EachRecordingIsLawful : Type 0
EachRecordingIsLawful =
    (run : Run) (choice : Choice) → IsRead run → IsLawfulRecording (recording_of run choice)

-- its texts read as the recording again
pub record ReadsBack (it : Recording) : Type 0 where
  pub head : read_head (head_text it) ≡ Ok it.groups
  pub traces : (list : Listed) → Contains it.lists list →
      trace_of (trace_text list) ≡ record { records = calls_of list; end = Sealed }

-- Law: what is written of a recording is that recording.
abbrev pub EachRecordingReadsBack : Type 0
EachRecordingReadsBack = (run : Run) (choice : Choice) → IsRead run → ReadsBack (recording_of run choice)
