-- A call that is seen in its place, and what it means for the others.
use Rattle.std.specs.Prelude.{◌≡◌, ℕ, Option, option_map, option_and_then, slice_get}
use Rattle.mpicall.specs.declared.call.Call.{Call}
use Rattle.mpigroup.specs.Groups.{Groups, world_rank_of}
use Rattle.callstore.specs.declared.envelope.Half.{Half}
use Rattle.callstore.specs.CachedMatch.{partner_in, wave_in}
use Rattle.callstore.specs.Envelopes.{message_of}
use Rattle.callstore.specs.Notes.{Noted, completed_starts}
use Rattle.callstore.specs.Recordings.{Lists}
use Rattle.callstore.specs.Waves.{joins, wave_of}
use Rattle.pairing.specs.declared.call_at.CallAt.{CallAt}
use Rattle.pairing.specs.Pairs.{completed_of}
use Rattle.pairing.specs.Partners.{partner_of}

-- the rank and place of a half's partner, by the place that is kept with the call
abbrev pub partner_by : Groups → Half → Noted → Option (ℕ × ℕ)
partner_by groups half noted =
    option_and_then
    (λ there. option_and_then (λ m. option_map (λ other. (other, there)) (world_rank_of groups m.comm m.peer)) (message_of half noted.call))
    (partner_in half noted.cached)

-- what is seen: the call, the partner of a half, the wave that it joins, and what started a request that it completes
abbrev pub call_seen : CallAt → Call
call_seen seen = seen.note.call

abbrev pub partner_seen : CallAt → Half → Option (ℕ × ℕ)
partner_seen seen half = partner_by seen.head.now half seen.note

abbrev pub wave_seen : CallAt → Option (ℕ × ℕ)
wave_seen seen = option_map (λ comm. (comm, wave_in seen.note.cached)) (joins seen.note.call)

abbrev pub start_seen : CallAt → ℕ → Option ℕ
start_seen seen index = slice_get (completed_starts seen.note) index

-- what a call means for the others is seen as the recording has it at the place
pub record IsSeen (groups : Groups) (recording : Lists) (rank place : ℕ) (seen : CallAt) : Type 0 where
  pub partner : (half : Half) → partner_seen seen half ≡ partner_of groups recording rank place half
  pub wave : wave_seen seen ≡ wave_of recording rank place
  pub start : (index : ℕ) → start_seen seen index ≡ completed_of recording rank place index
