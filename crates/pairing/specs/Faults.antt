-- Faults: which call a rank may not have made after the calls before it. A fault looks at nothing of
-- another rank. MPI 4.0 calls such programs erroneous: no call after MPI_Finalize (section 11.2.2); a
-- communicator that exists and that the rank holds (section 7.2.4), and a rank of its group as peer or root
-- (sections 3.2.3, 3.2.4 and 6.2); a request completed once (section 3.7.3). The most calls of a rank, the
-- numbers of requests and those of new communicators are this project's own.
use Rattle.mpicall.specs.Names.{Rank, Place, Comm, Request}
use Rattle.std.specs.Prelude.{◌≡◌, ℕ, ◌==◌, Bool, true, false, not, ◌&&◌, nat_lt, is_some, Option, Some, None, List, [], ◌∷◌, length, take, slice_get, ◌<◌, if◌then◌else◌}
use Rattle.std.specs.List.{list_all}
use Rattle.std.specs.Option.{option_map_or}
use Rattle.mpicall.specs.declared.call.Peer.{Peer}
use Rattle.mpicall.specs.declared.call.Peer.TheVariants as peer
use Rattle.mpicall.specs.Effect.{effect_of}
use Rattle.mpicall.specs.declared.effect.Side.{Side}
use Rattle.mpicall.specs.declared.effect.Effect.{Effect}
use Rattle.mpicall.specs.declared.effect.Effect.TheVariants.{PointToPoint, Joins, Local}
use Rattle.mpicall.specs.declared.call.Call.{Call}
use Rattle.mpicall.specs.declared.call.Call.TheVariants.{Dup, Split}
use Rattle.mpigroup.specs.Groups.{Groups, size_of, group_rank_of}
use Rattle.callstore.specs.Limits.{most_calls}
use Rattle.callstore.specs.Recordings.{Lists, calls_of, has_end, is_ended, IsClosedList}
use Rattle.callstore.specs.Requests.{starts, waits_for, does_start, does_complete, is_among, is_active, started_of}
use Rattle.callstore.specs.Communicators.{comm_of, holds}
use Rattle.pairing.specs.declared.fault.CallFault.{CallFault}
use Rattle.pairing.specs.declared.fault.CallFault.TheVariants.{CallAfterFinalize, TooManyCalls, UnknownCommunicator, CommunicatorNotHeld, PeerOutOfGroup, RequestInUse, RequestRepeated, RequestNotActive, WrongNewCommunicator}

-- the communicator exists
abbrev pub is_comm : Groups → Comm → Bool
is_comm groups comm = is_some (size_of groups comm)

-- the number is a rank of the communicator's group
abbrev pub is_group_rank : Groups → Comm → Rank → Bool
is_group_rank groups comm g = option_map_or (nat_lt g) (size_of groups comm) false

-- the peer is null, or a rank of the communicator's group
abbrev pub is_peer : Groups → Comm → Peer → Bool
is_peer groups comm peer.Null = true
is_peer groups comm (peer.Rank g) = is_group_rank groups comm g

-- the rank of the world is in the communicator's group
abbrev pub is_member : Groups → Rank → Comm → Bool
is_member groups rank comm = is_some (group_rank_of groups comm rank)

-- the communicator that the call names exists
abbrev pub comm_exists : Groups → Call → Bool
comm_exists groups call = option_map_or (is_comm groups) (comm_of call) true

-- the rank is in the group of the communicator that the call names, and holds that communicator
abbrev pub holds_comm : Groups → Rank → List Call → Call → Bool
holds_comm groups rank calls call = option_map_or (λ comm. is_member groups rank comm && holds calls comm) (comm_of call) true

-- each peer and root that the call names is a rank of its communicator's group
abbrev pub peers_exist : Groups → Call → Bool
peers_exist groups call = by_what (effect_of call)
  where
    is_side : Comm → Side → Bool
    is_side comm side = is_peer groups comm side.peer

    by_what : Effect → Bool
    by_what (PointToPoint comm sent received probed) =
        option_map_or (is_side comm) sent true && option_map_or (is_side comm) received true && option_map_or (is_side comm) probed true
    by_what (Joins comm root made) = option_map_or (is_group_rank groups comm) root true
    by_what Local = true

-- the request that the call starts isn't active before
abbrev pub starts_afresh : List Call → Call → Bool
starts_afresh calls call = option_map_or (λ req. not (is_active calls req)) (starts call) true

-- no number is in the list twice
abbrev pub are_distinct : List ℕ → Bool
are_distinct [] = true
are_distinct (number ∷ numbers) = not (is_among number numbers) && are_distinct numbers

-- each request that the wait names is active
abbrev pub waits_for_active : List Call → Call → Bool
waits_for_active calls call = list_all (is_active calls) (waits_for call)

-- the new communicator is not the world, has the rank in its group by the head, and isn't held before
abbrev pub is_fresh_comm : Groups → Rank → List Call → Comm → Bool
is_fresh_comm groups rank calls comm = not (comm == 0) && is_member groups rank comm && not (holds calls comm)

-- what the call makes is such a communicator; a split makes one just where it has a colour
abbrev pub makes_afresh : Groups → Rank → List Call → Call → Bool
makes_afresh groups rank calls (Dup comm new) = is_fresh_comm groups rank calls new
makes_afresh groups rank calls (Split comm None key None) = true
makes_afresh groups rank calls (Split comm (Some colour) key (Some new)) = is_fresh_comm groups rank calls new
makes_afresh groups rank calls (Split comm colour key new) = false
makes_afresh groups rank calls _ = true

-- the fault of the first test that fails, if one does
abbrev pub first_failed : List (CallFault × Bool) → Option CallFault
first_failed [] = None
first_failed ((fault, passes) ∷ rest) = if passes then first_failed rest else Some fault

-- The first fault of a call that the rank makes after the calls: the tests in their order, each with the
-- fault of a call that fails it.
unfoldable pub fault_of : Groups → Rank → List Call → Call → Option CallFault
fault_of groups rank calls call = first_failed (
    (CallAfterFinalize, not (has_end calls)) ∷
    ((TooManyCalls, nat_lt (length calls) most_calls) ∷
    ((UnknownCommunicator, comm_exists groups call) ∷
    ((CommunicatorNotHeld, holds_comm groups rank calls call) ∷
    ((PeerOutOfGroup, peers_exist groups call) ∷
    ((RequestInUse, starts_afresh calls call) ∷
    ((RequestRepeated, are_distinct (waits_for call)) ∷
    ((RequestNotActive, waits_for_active calls call) ∷
    ((WrongNewCommunicator, makes_afresh groups rank calls call) ∷ [])))))))))

-- a rank's list is lawful if no call of it has a fault after those before it
abbrev pub IsLawfulList : Groups → Rank → List Call → Type 0
IsLawfulList groups rank calls =
    (place : ℕ) (call : Call) → slice_get calls place ≡ Some call → fault_of groups rank (take place calls) call ≡ None

-- a recording is lawful if each rank's list is
abbrev pub IsLawful : Groups → Lists → Type 0
IsLawful groups recording = (rank : ℕ) → rank < length recording → IsLawfulList groups rank (calls_of recording rank)

-- Law: a lawful list whose last call ends it is closed.
abbrev pub AnEndedLawfulListIsClosed : Type 0
AnEndedLawfulListIsClosed =
    (groups : Groups) (rank : Rank) (calls : List Call) → IsLawfulList groups rank calls →
    is_ended calls ≡ true → IsClosedList calls

-- Law: each request that a wait of a lawful list names has its start, which starts that request.
abbrev pub EachWaitHasItsStarts : Type 0
EachWaitHasItsStarts =
    (groups : Groups) (recording : Lists) (rank : Rank) (place : Place) (call : Call) (req : Request) →
    IsLawfulList groups rank (calls_of recording rank) →
    slice_get (calls_of recording rank) place ≡ Some call → is_among req (waits_for call) ≡ true →
    (start : Place) × (started_of recording rank place req ≡ Some start) × (start < place)
    × ((starter : Call) × (slice_get (calls_of recording rank) start ≡ Some starter) × (does_start req starter ≡ true))

-- Law: no two starts of one request are active at once. Between two calls of a lawful list that start it
-- there is one that completes it.
abbrev pub NoTwoStartsAreActive : Type 0
NoTwoStartsAreActive =
    (groups : Groups) (rank : ℕ) (calls : List Call) (req start later : ℕ) (starter restarter : Call) →
    IsLawfulList groups rank calls → start < later →
    slice_get calls start ≡ Some starter → does_start req starter ≡ true →
    slice_get calls later ≡ Some restarter → does_start req restarter ≡ true →
    (between : Place) × (start < between) × (between < later)
    × ((wait : Call) × (slice_get calls between ≡ Some wait) × (does_complete req wait ≡ true))
