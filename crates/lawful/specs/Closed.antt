-- Laws of the lists of recordings, and of the numbers of communicators.
use Rattle.std.specs.Prelude.{◌≡◌, ◌⊎◌, ◌<◌, ◌≤◌, ℕ, true, Some, length, map, take, slice_get, Contains}
use Rattle.std.specs.List.{list_all}
use Rattle.mpicall.specs.Limits.{in_ranges}
use Rattle.mpicall.specs.Trace.{trace_of}
use Rattle.mpicall.specs.declared.fault.Ending.TheVariants.{Sealed}
use Rattle.mpicall.specs.declared.call.Call.{Call}
use Rattle.mpigroup.specs.Groups.{ranks_of}
use Rattle.mpigroup.specs.HeadText.{is_group}
use Rattle.mpigroup.specs.declared.limits.TheConstants.{MOST_RANKS, MOST_COMMS}
use Rattle.callstore.specs.Recordings.{IsClosed, calls_of as calls_of_rank}
use Rattle.pairing.specs.Faults.{fault_of}
use Rattle.pairing.specs.declared.fault.CallFault.{CallFault}
use Rattle.pairing.specs.declared.fault.CallFault.TheVariants.{CommunicatorNotHeld, WrongNewCommunicator}
use Rattle.closing.specs.Entries.{Run}
use Rattle.closing.specs.Entry.{Choice}
use Rattle.closing.specs.Keys.{Key}
use Rattle.closing.specs.Numbers.{number_of}
use Rattle.closing.specs.Recording.{Recording, Listed, calls_of, recording_of}
use Rattle.closing.specs.Texts.{trace_text}
use Rattle.lawful.specs.Laws.{IsRead}

-- there is a list for each rank of the head, and each is closed
pub record IsClosedRecording (it : Recording) : Type 0 where
  pub one_a_rank : length it.lists ≡ ranks_of it.groups
  pub closed : IsClosed (map calls_of it.lists)

-- Law: each recording of journals is closed.
abbrev pub EachRecordingIsClosed : Type 0
EachRecordingIsClosed = (run : Run) (choice : Choice) → IsClosedRecording (recording_of run choice)

-- Law: two communicators with one number are the same.
abbrev pub OneNumberIsOneCommunicator : Type 0
OneNumberIsOneCommunicator =
    (run : Run) (key other : Key) (number : ℕ) → number_of run key ≡ Some number →
    number_of run other ≡ Some number → key ≡ other

-- no call has another fault than one of the communicators that its rank holds
abbrev pub FaultsAreOfHolding : Recording → Type 0
FaultsAreOfHolding it =
    (rank place : ℕ) (call : Call) (fault : CallFault) → rank < length it.lists →
    slice_get (calls_of_rank (map calls_of it.lists) rank) place ≡ Some call →
    fault_of it.groups rank (take place (calls_of_rank (map calls_of it.lists) rank)) call ≡ Some fault →
    (fault ≡ CommunicatorNotHeld) ⊎ (fault ≡ WrongNewCommunicator)

-- Law: each call of a recording names a communicator and ranks that there are, starts a request that isn't
-- active and waits for those that are; none comes after the end or is one too many.
abbrev pub NoOtherFault : Type 0
NoOtherFault = (run : Run) (choice : Choice) → FaultsAreOfHolding (recording_of run choice)

-- Law: a list of a recording whose calls are all in their ranges is what its text reads as.
abbrev pub EachListInRangesReadsBack : Type 0
EachListInRangesReadsBack =
    (run : Run) (choice : Choice) (list : Listed) → Contains (recording_of run choice).lists list →
    list_all in_ranges (calls_of list) ≡ true →
    trace_of (trace_text list) ≡ record { records = calls_of list; end = Sealed }

-- a head may have so many ranks and communicators, and each group is some ranks of the run, none twice
pub record IsHead (it : Recording) : Type 0 where
  pub ranks_fit : (1 ≤ ranks_of it.groups) × (ranks_of it.groups ≤ MOST_RANKS)
  pub few : length it.groups ≤ MOST_COMMS
  pub are_groups : list_all (is_group (ranks_of it.groups)) it.groups ≡ true

-- Law: the groups of a recording are those of a head.
abbrev pub EachHeadIsAHead : Type 0
EachHeadIsAHead = (run : Run) (choice : Choice) → IsRead run → IsHead (recording_of run choice)

-- Law: each call of a recording is in its ranges.
abbrev pub EachListIsInRanges : Type 0
EachListIsInRanges =
    (run : Run) (choice : Choice) → IsRead run →
    (list : Listed) → Contains (recording_of run choice).lists list →
    list_all in_ranges (calls_of list) ≡ true
