-- What a rank waits for that cannot move on: the partner of one of its messages, the send that its probe sees,
-- or a wave.
use Rattle.moves.specs.declared.reading.Reading.{Reading}
use Rattle.std.specs.Prelude.{min, ◌≡◌, ℕ, ◌+◌, ◌-◌, ◌*◌, ◌<◌, ◌≤◌, ◌⊎◌, Bool, true, false, ◌&&◌, nat_le, nat_lt, Option, Some, None, is_some, option_and_then, if◌then◌else◌, List, [], ◌∷◌, ◌++◌, length, flat_map, slice_get, slice_index, slice_set, ◌==◌}
use Rattle.std.specs.List.{list_all}
use Rattle.std.specs.Option.{option_map_or}
use Rattle.mpicall.specs.declared.call.Call.{Call}
use Rattle.mpigroup.specs.Groups.{Groups, group_of, world_rank_of}
use Rattle.callstore.specs.declared.envelope.Half.{Half}
use Rattle.callstore.specs.declared.envelope.Half.TheVariants.{Send as SendHalf, Recv as RecvHalf}
use Rattle.callstore.specs.Limits.{most_calls}
use Rattle.callstore.specs.Recordings.{Lists, calls_of, appended}
use Rattle.pairing.specs.Partners.{partner_of}
use Rattle.callstore.specs.Envelopes.{message_of}
use Rattle.pairing.specs.Probed.{probed_of}
use Rattle.pairing.specs.Pairs.{completed_of}
use Rattle.callstore.specs.Requests.{starts, completes}
use Rattle.callstore.specs.Waves.{place_in_wave, wave_of}
use Rattle.moves.specs.declared.look.Look.{Look}
use Rattle.moves.specs.declared.look.Look.TheVariants.{Over, Moves, Partner, Wave}
use Rattle.moves.specs.declared.need.Need.{Need}
use Rattle.moves.specs.declared.progress.Progress.{Progress}
use Rattle.moves.specs.inner.Links.{linked_ranks, AreListed}
use Rattle.moves.specs.Needs.{half_needs, probe_needs, sends_freely, operation_needs_at, request_needs, needs_of_call, is_met, may_pass, can_move}
use Rattle.moves.specs.Runs.{State, IsReached, total}
use Rattle.moves.specs.Stands.{call_count}
use Rattle.arenaqueue.specs.Numbers.{list_at, sum_to, counted}
use Rattle.arenaqueue.specs.inner.Numbers.{in_all}

-- what the messages of the call at a place need: the partners of its halves, and the send that it probes for
abbrev pub message_needs : Reading → Groups → Lists → ℕ → ℕ → Call → List Need
message_needs reading groups recording rank place call =
    (if sends_freely reading call then [] else half_needs groups recording rank place SendHalf call)
    ++ half_needs groups recording rank place RecvHalf call
    ++ probe_needs groups recording rank place call

abbrev pub message_needs_at : Reading → Groups → Lists → ℕ → ℕ → List Need
message_needs_at reading groups recording rank place =
    option_map_or (message_needs reading groups recording rank place) (slice_get (calls_of recording rank) place) []

-- the call at the place waits for the operation that the call at `start` is or starts
pub record IsAwaited (recording : Lists) (rank place start : ℕ) : Type 0 where
  pub call : Call
  pub is_present : slice_get (calls_of recording rank) place ≡ Some call
  pub starts_none : is_some (starts call) ≡ false
  pub which : (start ≡ place) ⊎ ((index : ℕ) × (completed_of recording rank place index ≡ Some start))

-- the rank has reached its call of the wave
abbrev pub HasJoined : Lists → State → ℕ → ℕ → ℕ → Type 0
HasJoined recording stands comm wave rank = (place : ℕ) × (place_in_wave recording comm wave rank ≡ Some place) × (place ≤ slice_index stands rank)

-- how many waves of the communicator are complete, and how many members, from the first on, have reached
-- their calls of the next one
abbrev pub complete_of : Progress → ℕ → ℕ
complete_of progress comm = slice_index progress.complete.items comm

abbrev pub met_of : Progress → ℕ → ℕ
met_of progress comm = slice_index progress.met.items comm

-- Each member has reached its calls of the complete waves, and so many members theirs of the next wave. The
-- member after those has not, unless it is excepted.
pub record AreWaves (groups : Groups) (recording : Lists) (stands : State) (progress : Progress) (IsExcepted : ℕ → ℕ → Type 0) : Type 0 where
  pub completes : length progress.complete.items ≡ length groups
  pub meets : length progress.met.items ≡ length groups
  pub done : (comm wave g member : ℕ) → wave < complete_of progress comm → world_rank_of groups comm g ≡ Some member → HasJoined recording stands comm wave member
  pub met : (comm g member : ℕ) → g < met_of progress comm → world_rank_of groups comm g ≡ Some member → HasJoined recording stands comm (complete_of progress comm) member
  pub next : (comm : ℕ) → 0 < length (group_of groups comm) →
      (member : ℕ) × (world_rank_of groups comm (met_of progress comm) ≡ Some member)
      × (HasJoined recording stands comm (complete_of progress comm) member → IsExcepted comm member)

abbrev pub IsNoException : ℕ → ℕ → Type 0
IsNoException comm member = ⊥

-- the wave isn't complete
abbrev pub is_open : Groups → Progress → ℕ → ℕ → Bool
is_open groups progress comm wave = nat_le (complete_of progress comm) wave && nat_lt 0 (length (group_of groups comm))

-- the communicator of the wave that a call joins, where that wave isn't complete
abbrev pub open_wave_by : Groups → Progress → Option (ℕ × ℕ) → Option ℕ
open_wave_by groups progress joined = option_and_then (λ wave. if is_open groups progress wave.0 wave.1 then Some wave.0 else None) joined

abbrev pub open_wave : Groups → Lists → Progress → ℕ → ℕ → Option ℕ
open_wave groups recording progress rank place = open_wave_by groups progress (wave_of recording rank place)

-- Touches, and what pays for them. A call that is accepted pays 3, one that is reached 13, one that is passed 2,
-- and one whose wave is complete 4.
abbrev pub done_in : Progress → Option (ℕ × ℕ) → ℕ
done_in progress None = 0
done_in progress (Some wave) = if nat_lt wave.1 (complete_of progress wave.0) then 1 else 0

abbrev pub done_of : Lists → Progress → ℕ → ℕ
done_of recording progress rank = sum_to (length (calls_of recording rank)) (λ place. done_in progress (wave_of recording rank place))

abbrev pub reached_of : Lists → State → ℕ → ℕ
reached_of recording stands rank = min (length (calls_of recording rank)) (slice_index stands rank + 1)

abbrev pub paid_by : Lists → State → Progress → ℕ → ℕ
paid_by recording stands progress rank =
    3 * length (calls_of recording rank) + 13 * reached_of recording stands rank + 2 * slice_index stands rank + 4 * done_of recording progress rank

abbrev pub paid : Lists → State → Progress → ℕ
paid recording stands progress = sum_to (length recording) (paid_by recording stands progress)

-- what the reaching of a place spends: less where no call is there
abbrev pub cost_of : Option Call → ℕ
cost_of None = 3
cost_of (Some call) = 16

-- what a look answers of the operation of the call at a place: that its needs are met, or what it waits for
abbrev pub TellsOperation : Reading → Groups → Lists → State → Progress → ℕ → ℕ → Look → Type 0
TellsOperation reading groups recording stands progress rank place Over = ⊥
TellsOperation reading groups recording stands progress rank place Moves = list_all (is_met stands) (operation_needs_at reading groups recording rank place) ≡ true
TellsOperation reading groups recording stands progress rank place (Partner start) = (start ≡ place) × (list_all (is_met stands) (message_needs_at reading groups recording rank place) ≡ false)
TellsOperation reading groups recording stands progress rank place (Wave comm) = open_wave groups recording progress rank place ≡ Some comm

-- the same of the operation that the call at a place completes with that index
abbrev pub TellsRequest : Reading → Groups → Lists → State → Progress → ℕ → ℕ → ℕ → Look → Type 0
TellsRequest reading groups recording stands progress rank place index Over = ⊥
TellsRequest reading groups recording stands progress rank place index Moves =
    list_all (is_met stands) (option_map_or (operation_needs_at reading groups recording rank) (completed_of recording rank place index) []) ≡ true
TellsRequest reading groups recording stands progress rank place index (Partner start) =
    (completed_of recording rank place index ≡ Some start) × (list_all (is_met stands) (message_needs_at reading groups recording rank start) ≡ false)
TellsRequest reading groups recording stands progress rank place index (Wave comm) =
    (start : ℕ) × (completed_of recording rank place index ≡ Some start) × (open_wave groups recording progress rank start ≡ Some comm)

-- the same of the operations that the call at a place completes
abbrev pub TellsCompleted : Reading → Groups → Lists → State → Progress → ℕ → ℕ → Call → Look → Type 0
TellsCompleted reading groups recording stands progress rank place call Over = ⊥
TellsCompleted reading groups recording stands progress rank place call Moves = list_all (is_met stands) (flat_map (request_needs reading groups recording rank place) (completes call)) ≡ true
TellsCompleted reading groups recording stands progress rank place call (Partner start) =
    (index : ℕ) × (completed_of recording rank place index ≡ Some start) × (list_all (is_met stands) (message_needs_at reading groups recording rank start) ≡ false)
TellsCompleted reading groups recording stands progress rank place call (Wave comm) =
    (index start : ℕ) × (completed_of recording rank place index ≡ Some start) × (open_wave groups recording progress rank start ≡ Some comm)

-- the same of the call at a place
abbrev pub TellsCall : Reading → Groups → Lists → State → Progress → ℕ → ℕ → Call → Look → Type 0
TellsCall reading groups recording stands progress rank place call Over = ⊥
TellsCall reading groups recording stands progress rank place call Moves = list_all (is_met stands) (needs_of_call reading groups recording rank place call) ≡ true
TellsCall reading groups recording stands progress rank place call (Partner start) =
    IsAwaited recording rank place start × (list_all (is_met stands) (message_needs_at reading groups recording rank start) ≡ false)
TellsCall reading groups recording stands progress rank place call (Wave comm) =
    (start : ℕ) × (IsAwaited recording rank place start) × (open_wave groups recording progress rank start ≡ Some comm)

-- a message of an operation that the rank's present call waits for has no partner that is reached, or a probe sees
-- no send that is reached
pub record NeedsPartner (reading : Reading) (groups : Groups) (recording : Lists) (stands : State) (rank start : ℕ) : Type 0 where
  pub is_awaited : IsAwaited recording rank (slice_index stands rank) start
  pub is_unmet : list_all (is_met stands) (message_needs_at reading groups recording rank start) ≡ false

-- such an operation joins a wave of the communicator that isn't complete
pub record NeedsWave (groups : Groups) (recording : Lists) (stands : State) (progress : Progress) (rank comm : ℕ) : Type 0 where
  pub start : ℕ
  pub is_awaited : IsAwaited recording rank (slice_index stands rank) start
  pub is_joined : open_wave groups recording progress rank start ≡ Some comm

-- what a look answers of a rank where it stands: that it can move on, what it waits for, or that it rests, as it
-- has no call there or the one that ends its list
abbrev pub Rests : Lists → State → ℕ → Type 0
Rests recording stands rank = may_pass (slice_get (calls_of recording rank) (slice_index stands rank)) ≡ false

abbrev pub TellsRank : Reading → Groups → Lists → State → Progress → ℕ → Look → Type 0
TellsRank reading groups recording stands progress rank Over = Rests recording stands rank
TellsRank reading groups recording stands progress rank Moves = can_move reading groups recording stands rank ≡ true
TellsRank reading groups recording stands progress rank (Partner start) = NeedsPartner reading groups recording stands rank start
TellsRank reading groups recording stands progress rank (Wave comm) = NeedsWave groups recording stands progress rank comm

-- What the waiting ranks are seen as: the lists, how many more ranks have room in them, how much was done in the
-- lists, and for each rank the place of the operation for whose partner it waits, or waited last; at a probe its own.
pub record WaitLists : Type 0 where
  pub lists : List (List ℕ)
  pub spare : ℕ
  pub work : ℕ
  pub awaited : List ℕ

-- the list of a rank that waits for a partner, and that of the ranks that wait for a wave
abbrev pub own_list : ℕ → ℕ
own_list rank = 1 + rank

abbrev pub comm_list : ℕ → ℕ → ℕ
comm_list ranks comm = 1 + ranks + comm

-- the waiting ranks once those of a list are to be looked at
abbrev pub woken : WaitLists → ℕ → WaitLists
woken w list = record {
  lists = slice_set (slice_set w.lists 0 (list_at w.lists 0 ++ list_at w.lists list)) list [];
  spare = w.spare;
  work = counted w.work (2 * length (list_at w.lists list));
  awaited = w.awaited;
}

-- once a rank is put into a list
abbrev pub with_rank : WaitLists → ℕ → ℕ → WaitLists
with_rank w list rank = record {
  lists = slice_set w.lists list (list_at w.lists list ++ rank ∷ []);
  spare = w.spare - 1;
  work = counted w.work 1;
  awaited = w.awaited;
}

-- and once it is said for which operation's partner the rank waits
abbrev pub with_awaited : WaitLists → ℕ → ℕ → WaitLists
with_awaited w rank place = record { lists = w.lists; spare = w.spare; work = w.work; awaited = slice_set w.awaited rank place }

-- the rank is known to wait, or to have waited last, for the partner of its operation at that place
abbrev pub awaits : WaitLists → ℕ → ℕ → Bool
awaits w rank place = option_map_or (λ awaited. awaited == place) (slice_get w.awaited rank) false

-- the waiting ranks once the one is to be looked at that waits for a call as the partner of its own
abbrev pub woken_at : WaitLists → ℕ × ℕ → WaitLists
woken_at w partner = if awaits w partner.0 partner.1 then woken w (own_list partner.0) else w

abbrev pub woken_partner : WaitLists → Option (ℕ × ℕ) → WaitLists
woken_partner w partner = option_map_or (woken_at w) partner w

-- the rank of the world that the call at the place sends its message to
abbrev pub sent_to : Groups → Lists → ℕ → ℕ → Option ℕ
sent_to groups recording rank place =
    option_and_then (λ m. world_rank_of groups m.comm m.peer) (option_and_then (message_of SendHalf) (slice_get (calls_of recording rank) place))

-- the rank's probe at `start` sees the call at the place of the other
abbrev pub sees : Groups → Lists → ℕ → ℕ → ℕ → ℕ → Bool
sees groups recording prober start rank place =
    option_map_or (λ sent. sent.0 == rank && sent.1 == place) (probed_of groups recording prober start) false

-- the rank that waits at a probe which sees the call at the place, with the probe's place; it is the one that the
-- call sends to
abbrev pub prober_of : Groups → Lists → List ℕ → ℕ → ℕ → Option (ℕ × ℕ)
prober_of groups recording awaited rank place =
    option_and_then
    (λ prober. option_and_then (λ start. if sees groups recording prober start rank place then Some (prober, start) else None) (slice_get awaited prober))
    (sent_to groups recording rank place)

-- the waiting ranks once that one is to be looked at
abbrev pub woken_prober : Groups → Lists → ℕ → ℕ → WaitLists → WaitLists
woken_prober groups recording rank place w = woken_partner w (prober_of groups recording w.awaited rank place)

-- the waiting ranks once those are to be looked at that wait for a message of the call at the place
abbrev pub woken_peers : Groups → Lists → ℕ → ℕ → WaitLists → WaitLists
woken_peers groups recording rank place w =
    woken_prober groups recording rank place
    (woken_partner (woken_partner w (partner_of groups recording rank place SendHalf)) (partner_of groups recording rank place RecvHalf))

-- and once those are to be looked at that wait for the waves of a communicator, if it is one
abbrev pub woken_comm : WaitLists → Option ℕ → WaitLists
woken_comm w comm = option_map_or (λ comm. woken w (comm_list (length w.awaited) comm)) comm w

-- The other rank waits for the call at the place: as the partner of its operation at `start`, or as the send that
-- its probe there sees.
abbrev pub WaitsFor : Groups → Lists → ℕ → ℕ → ℕ → ℕ → Type 0
WaitsFor groups recording rank place other start =
    ((half : Half) × (partner_of groups recording rank place half ≡ Some (other, start)))
    ⊎ (probed_of groups recording other start ≡ Some (rank, place))

-- the rank waits in that list, for a partner or for a wave
abbrev pub WaitsIn : Reading → Groups → Lists → State → Progress → List ℕ → ℕ → ℕ → Type 0
WaitsIn reading groups recording stands progress awaited rank list =
    ((list ≡ own_list rank) × (rank < length recording) × NeedsPartner reading groups recording stands rank (slice_index awaited rank))
    ⊎ ((comm : ℕ) × (list ≡ comm_list (length recording) comm) × NeedsWave groups recording stands progress rank comm)

-- there is a list for each rank and for each communicator, and room for each rank; what is in a list was
-- counted when it was put there
pub record HasLists (groups : Groups) (recording : Lists) (waiting : WaitLists) : Type 0 where
  pub lists : length waiting.lists ≡ 1 + length recording + length groups
  pub nodes : waiting.spare + linked_ranks waiting.lists ≡ length recording
  pub awaited : length waiting.awaited ≡ length recording
  pub counts : counted (linked_ranks waiting.lists) 0 ≤ waiting.work

-- the touches: what was done in the lists, and each change of how far a wave is
abbrev pub touches_of : Progress → WaitLists → ℕ
touches_of progress waiting = counted waiting.work progress.changes

-- what is spent: the touches, and two for each rank that is to be looked at
abbrev pub spent : Progress → WaitLists → ℕ
spent progress waiting = waiting.work + progress.changes + 2 * length (list_at waiting.lists 0)

-- What holds between looks: each rank is to be looked at, or waits rightly, or rests. Some may be excepted
-- from resting. What is spent is paid, and so much more is left.
pub record HoldsBetweenLooks (reading : Reading) (groups : Groups) (recording : Lists) (stands : State) (progress : Progress) (waiting : WaitLists) (IsExcepted : ℕ → Type 0) (left : ℕ) : Type 0 where
  pub has_lists : HasLists groups recording waiting
  pub linked : AreListed (length recording) waiting.lists (WaitsIn reading groups recording stands progress waiting.awaited) (λ rank. Rests recording stands rank ⊎ IsExcepted rank)
  pub are_waves : AreWaves groups recording stands progress IsNoException
  pub is_reached : IsReached (can_move reading groups recording) (length recording) stands
  pub is_paid : spent progress waiting + left ≤ paid recording stands progress

abbrev pub IsNobody : ℕ → Type 0
IsNobody rank = ⊥

-- the rank was taken off the worklist to be looked at
pub record IsInHand (reading : Reading) (groups : Groups) (recording : Lists) (stands : State) (progress : Progress) (waiting : WaitLists) (rank : ℕ) : Type 0 where
  pub kept : HoldsBetweenLooks reading groups recording stands progress waiting (λ other. other ≡ rank) 1
  pub is_rank : rank < length recording
  pub in_none : in_all rank waiting.lists ≡ 0

-- no rank is to be looked at
pub record IsSettled (reading : Reading) (groups : Groups) (recording : Lists) (stands : State) (progress : Progress) (waiting : WaitLists) : Type 0 where
  pub kept : HoldsBetweenLooks reading groups recording stands progress waiting IsNobody 0
  pub is_empty : list_at waiting.lists 0 ≡ []

-- The rank has just reached its call at the place: the ranks that wait for it are still to be woken.
pub record IsReaching (reading : Reading) (groups : Groups) (recording : Lists) (stands : State) (progress : Progress) (waiting : WaitLists) (rank place : ℕ) : Type 0 where
  pub has_lists : HasLists groups recording waiting
  pub linked : AreListed (length recording) waiting.lists
      (λ other list. WaitsIn reading groups recording stands progress waiting.awaited other list
      ⊎ ((list ≡ own_list other) × (other < length recording) × (WaitsFor groups recording rank place other (slice_index waiting.awaited other))))
      (λ other. Rests recording stands other ⊎ (other ≡ rank))
  pub are_waves : AreWaves groups recording stands progress (λ comm member. (member ≡ rank) × (wave_of recording rank place ≡ Some (comm, complete_of progress comm)))
  pub is_reached : IsReached (can_move reading groups recording) (length recording) stands
  pub is_rank : rank < length recording
  pub in_none : in_all rank waiting.lists ≡ 0
  pub is_there : place ≡ slice_index stands rank
  pub few : place ≤ most_calls
  pub is_paid : spent progress waiting + cost_of (slice_get (calls_of recording rank) place) ≤ paid recording stands progress

-- The rank's call has arrived at the place, and no rank was to be looked at before.
pub record HasArrived (reading : Reading) (groups : Groups) (recording : Lists) (stands : State) (progress : Progress) (waiting : WaitLists) (rank place : ℕ) : Type 0 where
  pub before : Lists
  pub call : Call
  pub is : recording ≡ appended before rank call
  pub settled : IsSettled reading groups before stands progress waiting
  pub is_rank : rank < length before
  pub is_next : place ≡ length (calls_of before rank)
  pub few : place ≤ most_calls

-- what settling still has to do, at most: a call that is not passed makes each rank be looked at
abbrev pub to_do : Lists → State → WaitLists → ℕ
to_do recording stands waiting = (call_count recording - total stands) * (length recording + 1) + length (list_at waiting.lists 0)
