-- Clean cuts: nothing is under way at them. Each message that was sent before the cut was received before it, and each
-- collective that a rank called before it has the calls of all members before it.
use Rattle.mpicall.specs.Names.{Rank, Place, Comm, Request}
use Rattle.std.specs.Prelude.{◌≡◌, ◌<◌, Bool, true, false, not, ◌&&◌, ◌||◌, ◌==◌, nat_lt, Some, None, List, [], ◌∷◌, length, take, slice_get}
use Rattle.std.specs.List.{list_any, list_all, range_with_len}
use Rattle.std.specs.Option.{option_map_or}
use Rattle.mpicall.specs.declared.call.Call.{Call}
use Rattle.mpicall.specs.declared.call.Call.TheVariants.{Split}
use Rattle.mpigroup.specs.Groups.{Groups, group_of}
use Rattle.callstore.specs.declared.envelope.Envelope.{Envelope}
use Rattle.callstore.specs.declared.envelope.Half.TheVariants.{Send as SendHalf, Recv as RecvHalf}
use Rattle.callstore.specs.Recordings.{Lists, calls_of, has_end, IsClosed}
use Rattle.callstore.specs.Envelopes.{envelope_of, has_envelope, same_envelope}
use Rattle.callstore.specs.Places.{places}
use Rattle.callstore.specs.Requests.{waits_for, is_among}
use Rattle.callstore.specs.Communicators.{comm_of, makes}
use Rattle.callstore.specs.Waves.{does_join}
use Rattle.pairing.specs.Faults.{comm_exists, is_member, peers_exist, starts_afresh, are_distinct, waits_for_active}
use Rattle.pairing.specs.Matched.{halves_of}
use Rattle.pairing.specs.Met.{sees_its_send, has_all}
use Rattle.pairing.specs.Probed.{probed_envelope}
use Rattle.windows.specs.Cuts.{Cut, before_cut, is_moved, first_calls, first_window}

-- ---- What is cut ----

-- a split makes a communicator just where it has a colour
abbrev pub has_its_colour : Call → Bool
has_its_colour (Split comm None key None) = true
has_its_colour (Split comm (Some colour) key (Some new)) = true
has_its_colour (Split comm colour key new) = false
has_its_colour _ = true

-- the communicator that the call makes, if it makes one, is not the world and has the rank in its group
abbrev pub makes_own : Groups → Rank → Call → Bool
makes_own groups rank call = has_its_colour call && option_map_or (λ comm. not (comm == 0) && is_member groups rank comm) (makes call) true

-- the call has no fault after the calls but that it is one too many, or that the rank doesn't hold a communicator yet,
-- or holds it already
abbrev pub is_right : Groups → Rank → List Call → Call → Bool
is_right groups rank calls call =
    not (has_end calls) && comm_exists groups call && option_map_or (is_member groups rank) (comm_of call) true
    && peers_exist groups call && starts_afresh calls call && are_distinct (waits_for call) && waits_for_active calls call
    && makes_own groups rank call

-- a recording of any length: each rank is one of the world, its list is closed, and each of its calls is right
pub record IsRightRecording (groups : Groups) (recording : Lists) : Type 0 where
  pub of_world : (rank : Rank) → rank < length recording → is_member groups rank 0 ≡ true
  pub is_closed : IsClosed recording
  pub are_right : (rank : Rank) (place : Place) (call : Call) → slice_get (calls_of recording rank) place ≡ Some call → is_right groups rank (take place (calls_of recording rank)) call ≡ true

-- ---- Where it may be cut ----

-- the rank's call receives a message of the envelope, or probes for one
abbrev pub takes : Groups → Rank → Envelope → Call → Bool
takes groups rank e call = has_envelope groups rank RecvHalf e call || option_map_or (same_envelope e) (probed_envelope groups rank call) false

-- none of the calls takes what the receive would
abbrev pub none_overtakes : Groups → Rank → Call → List Call → Bool
none_overtakes groups rank call rest =
    option_map_or (λ e. not (list_any (takes groups rank e) rest)) (envelope_of groups rank RecvHalf call) true

-- no receive or probe of the first window stands after a moved receive of its envelope
abbrev pub are_in_turn : Groups → Rank → (Request → Bool) → List Call → Bool
are_in_turn groups rank moves [] = true
are_in_turn groups rank moves (call ∷ rest) =
    (not (is_moved moves call rest) || none_overtakes groups rank call (first_calls moves rest)) && are_in_turn groups rank moves rest

-- the cut is clean at the rank: it is before the call that ends the rank's list, no receive or probe that stays overtakes
-- a moved receive, and all whom its calls before the cut meet are in the first window
abbrev pub is_clean_at : Groups → Lists → Cut → Rank → Bool
is_clean_at groups whole cut rank =
    nat_lt (cut.place rank) (length (calls_of whole rank))
    && are_in_turn groups rank (cut.moves rank) (before_cut whole cut rank)
    && list_all (has_all groups (first_window whole cut) rank) (range_with_len 0 (cut.place rank))

-- a cut is clean if it is so at each rank
abbrev pub is_clean : Groups → Lists → Cut → Bool
is_clean groups whole cut = list_all (is_clean_at groups whole cut) (range_with_len 0 (length whole))

-- A cut is even if it is before the call that ends each list, no receive or probe that stays overtakes a moved receive, and
-- by numbers nothing is under way: the first window has as many sends of each envelope as receives, each member of a
-- communicator has as many calls of its waves there, and each probe there sees its send.
pub record IsEven (groups : Groups) (whole : Lists) (cut : Cut) : Type 0 where
  pub within : (rank : Rank) → rank < length whole → cut.place rank < length (calls_of whole rank)
  pub in_turn : (rank : Rank) → rank < length whole → are_in_turn groups rank (cut.moves rank) (before_cut whole cut rank) ≡ true
  pub messages : (e : Envelope) → length (halves_of groups (first_window whole cut) SendHalf e) ≡ length (halves_of groups (first_window whole cut) RecvHalf e)
  pub waves : (comm : Comm) (rank other : Rank) → is_among rank (group_of groups comm) ≡ true → is_among other (group_of groups comm) ≡ true →
      length (places (does_join comm) (calls_of (first_window whole cut) rank)) ≡ length (places (does_join comm) (calls_of (first_window whole cut) other))
  pub probes : (rank : Rank) (place : Place) → sees_its_send groups (first_window whole cut) rank place ≡ true
