-- Findings: what is wrong with a recorded run besides what makes it hang. They are over the whole recording,
-- whether its calls are reached or not. Each list here is in the order of the report.
use Rattle.mpicall.specs.Names.{Rank, Place, Comm, Wave, Request}
use Rattle.std.specs.Prelude.{ℕ, ℤ, pos, ◌-◌, ◌==◌, Bool, true, false, not, ◌&&◌, Option, Some, None, is_some, is_none, option_and_then, if◌then◌else◌, List, [], ◌∷◌, ◌++◌, flat_map, length, map, slice_get, slice_index}
use Rattle.std.specs.List.{list_all, list_any, range_with_len}
use Rattle.std.specs.Option.{option_map_or}
use Rattle.std.specs.Str.{bytes_eq}
use Rattle.mpicall.specs.declared.call.Call.{Call}
use Rattle.mpicall.specs.declared.call.Call.TheVariants.{Coll, Icoll, Dup, Split}
use Rattle.mpicall.specs.Spelling.{word_of_call, root_of}
use Rattle.mpicall.specs.Word.{text_of}
use Rattle.mpigroup.specs.Groups.{Groups, group_of, world_rank_of}
use Rattle.mpigroup.specs.Splits.{Choices, colour_group}
use Rattle.callstore.specs.declared.envelope.Half.TheVariants.{Send as SendHalf}
use Rattle.callstore.specs.Recordings.{Lists, calls_of}
use Rattle.callstore.specs.Places.{places}
use Rattle.callstore.specs.Envelopes.{message_of}
use Rattle.pairing.specs.Partners.{partner_of}
use Rattle.callstore.specs.Requests.{starts, does_complete, started_before}
use Rattle.callstore.specs.Communicators.{does_make}
use Rattle.callstore.specs.Waves.{does_join, wave_of}
use Rattle.pairing.specs.LeftOpen.{is_left_open}
use Rattle.findings.specs.Places.{call_at, call_of_member, over_ranks}
use Rattle.findings.specs.declared.finding.Finding.{Finding}
use Rattle.findings.specs.declared.finding.Finding.TheVariants.{Kind, Root, Unreceived, Group}
use Rattle.findings.specs.declared.finding.Finding.TheVariants as finding

-- the finding, where there is one
abbrev pub where_so : Bool → Finding → List Finding
where_so is_so finding = if is_so then finding ∷ [] else []

-- Kinds and roots. All members of a communicator make the same call in a wave, with the same root (MPI 4.0,
-- chapter 6), so each member's call is compared with that of group rank 0.

-- what is found of the communicator, the wave, the member's group rank, the call of group rank 0 and the
-- member's call
abbrev pub Comparison : Type 0
Comparison = ℕ → ℕ → ℕ → Call → Call → List Finding

-- nothing where one of the calls is lacking
abbrev pub compared : (Call → Call → List Finding) → Option Call → Option Call → List Finding
compared compare (Some first) (Some call) = compare first call
compared compare _ _ = []

-- what is found of a member's call in a wave
abbrev pub found_of_member : Comparison → Groups → Lists → Comm → Wave → Rank → List Finding
found_of_member compare groups recording comm wave g =
    compared (compare comm wave g) (call_of_member groups recording comm wave 0) (call_of_member groups recording comm wave g)

-- of the members from group rank 1 on
abbrev pub found_in_wave : Comparison → Groups → Lists → Comm → Wave → List Finding
found_in_wave compare groups recording comm wave =
    flat_map (found_of_member compare groups recording comm wave) (range_with_len 1 (length (group_of groups comm) - 1))

-- how many waves of the communicator group rank 0 has a call in
abbrev pub waves_in : Groups → Lists → Comm → ℕ
waves_in groups recording comm =
    option_map_or (λ rank. length (places (does_join comm) (calls_of recording rank))) (world_rank_of groups comm 0) 0

-- of these waves
abbrev pub found_in_comm : Comparison → Groups → Lists → Comm → List Finding
found_in_comm compare groups recording comm =
    flat_map (found_in_wave compare groups recording comm) (range_with_len 0 (waves_in groups recording comm))

-- of all communicators
abbrev pub found_in_waves : Comparison → Groups → Lists → List Finding
found_in_waves compare groups recording = flat_map (found_in_comm compare groups recording) (range_with_len 0 (length groups))

-- the calls are spelled with the same word, so that a call and one that starts the same differ
abbrev pub same_word : Call → Call → Bool
same_word first call = bytes_eq (text_of (word_of_call first)) (text_of (word_of_call call))

-- a member makes another call than group rank 0
unfoldable pub kind_found : Comparison
kind_found comm wave g first call =
    where_so (not (same_word first call)) (Kind comm wave g (word_of_call first) (word_of_call call))

unfoldable pub kinds_of : Groups → Lists → List Finding
kinds_of groups recording = found_in_waves kind_found groups recording

-- the root that a call names, if it has one
abbrev pub root_of_call : Call → Option Rank
root_of_call (Coll comm kind) = root_of kind
root_of_call (Icoll req comm kind) = root_of kind
root_of_call _ = None

-- the two roots differ
abbrev pub roots_found : Comm → Wave → Rank → Option ℕ → Option ℕ → List Finding
roots_found comm wave g (Some first) (Some root) = where_so (not (first == root)) (Root comm wave g first root)
roots_found comm wave g _ _ = []

-- a member names another root than group rank 0, in the same call
unfoldable pub root_found : Comparison
root_found comm wave g first call =
    if same_word first call then roots_found comm wave g (root_of_call first) (root_of_call call) else []

unfoldable pub roots_of : Groups → Lists → List Finding
roots_of groups recording = found_in_waves root_found groups recording

-- Messages that nobody receives (MPI 4.0, section 11.2.2: each has its receive before MPI_Finalize).

-- the rank to which the call at the place sends
abbrev pub receiver_of : Groups → Lists → Rank → Place → Option Rank
receiver_of groups recording rank place =
    option_and_then (λ message. world_rank_of groups message.comm message.peer) (option_and_then (message_of SendHalf) (call_at recording rank place))

-- its list was left open, so that the receive may yet come
abbrev pub may_yet_receive : Groups → Lists → Rank → Place → Bool
may_yet_receive groups recording rank place = option_map_or (is_left_open recording) (receiver_of groups recording rank place) false

-- the call sends a message, and that half has no partner
abbrev pub is_unreceived : Groups → Lists → Rank → Place → Bool
is_unreceived groups recording rank place =
    is_some (option_and_then (message_of SendHalf) (call_at recording rank place))
    && is_none (partner_of groups recording rank place SendHalf)

unfoldable pub unreceived_at : Groups → Lists → Rank → Place → List Finding
unreceived_at groups recording rank place = where_so (is_unreceived groups recording rank place && not (may_yet_receive groups recording rank place)) (Unreceived rank place)

unfoldable pub unreceived_of : Groups → Lists → List Finding
unreceived_of groups recording = over_ranks (unreceived_at groups recording) recording

-- Requests that no wait completes (MPI 4.0, section 11.2.2: who starts an operation completes it before
-- MPI_Finalize).

-- the wait at a place completes the request as the call at `start` started it
abbrev pub completes_start : Lists → Rank → Request → Place → Place → Bool
completes_start recording rank req start wait =
    option_map_or (does_complete req) (call_at recording rank wait) false
    && option_map_or (λ place. place == start) (started_before recording rank wait req) false

-- some wait of the rank does
abbrev pub is_completed : Lists → Rank → Request → Place → Bool
is_completed recording rank req start =
    list_any (completes_start recording rank req start) (range_with_len 0 (length (calls_of recording rank)))

-- none does, and none can come after the rank's list
abbrev pub is_lost : Lists → Rank → Request → Place → Bool
is_lost recording rank req start = not (is_completed recording rank req start) && not (is_left_open recording rank)

unfoldable pub lost_at : Lists → Rank → Place → List Finding
lost_at recording rank place =
    option_map_or (λ req. where_so (is_lost recording rank req place) (finding.Request rank place req))
    (option_and_then starts (call_at recording rank place)) []

unfoldable pub lost_requests : Lists → List Finding
lost_requests recording = over_ranks (lost_at recording) recording

-- Groups of new communicators (MPI 4.0, section 7.4.2). MPI_Comm_dup gives the group of the old one, and
-- MPI_Comm_split the members with the same colour, by their keys; the head says which group the
-- communicator has whose number is recorded.

-- the ranks of the communicator's group
abbrev pub group_ranks : Groups → Comm → List Rank
group_ranks groups comm = range_with_len 0 (length (group_of groups comm))

-- each member has a call of the wave with the call's word
abbrev pub all_call_alike : Groups → Lists → Comm → Wave → Call → Bool
all_call_alike groups recording comm wave call =
    list_all (λ g. option_map_or (same_word call) (call_of_member groups recording comm wave g) false) (group_ranks groups comm)

-- the colour and the key that a call gives
abbrev pub choice_of : Option Call → Option ℕ × ℤ
choice_of (Some (Split comm colour key new)) = (colour, key)
choice_of _ = (None, pos 0)

-- what the members give in a wave, by their group ranks
abbrev pub choices_in : Groups → Lists → Comm → Wave → Choices
choices_in groups recording comm wave = map (λ g. choice_of (call_of_member groups recording comm wave g)) (group_ranks groups comm)

-- the members with a colour in their new order, as ranks of the old group
abbrev pub split_ranks : Groups → Lists → Comm → Wave → ℕ → List Rank
split_ranks groups recording comm wave colour = colour_group (choices_in groups recording comm wave) colour

-- members of the communicator as ranks of the world
abbrev pub in_world : Groups → Comm → List Rank → List Rank
in_world groups comm ranks = map (λ g. slice_index (group_of groups comm) g) ranks

-- a member's call in the wave makes the communicator
abbrev pub member_makes : Groups → Lists → Comm → Wave → Comm → Rank → Bool
member_makes groups recording comm wave new g =
    option_map_or (does_make new) (call_of_member groups recording comm wave g) false

-- the new communicator has the given group by the head, and the group's first member names it as well; that
-- member is given by its rank in the old group
abbrev pub is_given : Groups → Lists → Comm → Wave → Comm → List Rank → Option ℕ → Bool
is_given groups recording comm wave new group first =
    bytes_eq (group_of groups new) group && option_map_or (member_makes groups recording comm wave new) first false

-- what the call makes in the wave has the group that the wave gives; true of a call that makes nothing
abbrev pub makes_given : Groups → Lists → Comm → Wave → Call → Bool
makes_given groups recording comm wave (Dup old new) =
    is_given groups recording comm wave new (group_of groups comm) (Some 0)
makes_given groups recording comm wave (Split old (Some colour) key (Some new)) =
    is_given groups recording comm wave new (in_world groups comm (split_ranks groups recording comm wave colour))
    (slice_get (split_ranks groups recording comm wave colour) 0)
makes_given groups recording comm wave _ = true

-- what the call makes in its wave has another group, and all members make the same call there
abbrev pub is_wrong_group : Groups → Lists → Call → ℕ × ℕ → Bool
is_wrong_group groups recording call wave =
    not (makes_given groups recording wave.0 wave.1 call) && all_call_alike groups recording wave.0 wave.1 call

-- the same of the call at a place
abbrev pub is_wrong_at : Groups → Lists → Rank → Place → Bool
is_wrong_at groups recording rank place =
    option_map_or (λ call. option_map_or (is_wrong_group groups recording call) (wave_of recording rank place) false)
    (call_at recording rank place) false

unfoldable pub group_at : Groups → Lists → Rank → Place → List Finding
group_at groups recording rank place = where_so (is_wrong_at groups recording rank place) (Group rank place)

unfoldable pub wrong_groups_of : Groups → Lists → List Finding
wrong_groups_of groups recording = over_ranks (group_at groups recording) recording

-- all findings: kinds, roots, messages, requests and groups, each by rising numbers
unfoldable pub findings_of : Groups → Lists → List Finding
findings_of groups recording =
    kinds_of groups recording ++ roots_of groups recording ++ unreceived_of groups recording ++ lost_requests recording
    ++ wrong_groups_of groups recording
