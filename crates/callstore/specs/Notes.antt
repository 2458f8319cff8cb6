-- Notes: the calls of each rank, each with what is kept with it and, at a wait, the places that started the
-- requests which it names.
use Rattle.mpicall.specs.Names.{Rank, Place, Request}
use Rattle.std.specs.Prelude.{◌≡◌, ℕ, ◌≤◌, ◌==◌, Option, Some, unwrap_or, option_and_then, List, [], ◌∷◌, ◌++◌, map, length, take, drop, slice_get, slice_set}
use Rattle.std.specs.List.{position}
use Rattle.mpicall.specs.declared.call.Call.{Call}
use Rattle.mpicall.specs.declared.call.Call.TheVariants.{Waitall, Waitany}
use Rattle.std.specs.Option.{option_map_or}
use Rattle.mpigroup.specs.Groups.{or_empty}
use Rattle.callstore.specs.declared.cached_match.CachedMatch.{CachedMatch}
use Rattle.callstore.specs.declared.envelope.Half.{Half}
use Rattle.callstore.specs.CachedMatch.{with_partner}
use Rattle.callstore.specs.Requests.{starts, waits_for}

-- a call, what is kept with it, and the places that started the requests which it names: one place
-- for each request, in its order
pub record Noted : Type 0 where
  pub call : Call
  pub cached : CachedMatch
  pub starts : List Place

-- how many more calls of a rank can be noted without memory, and how many more starts of waits for several
-- requests
pub record NoteRoom : Type 0 where
  pub calls : ℕ
  pub starts : ℕ

-- the noted calls of each rank
pub record Notebook : Type 0 where
  pub lists : List (List Noted)
  pub rooms : List NoteRoom

-- the noted calls of a rank
abbrev pub notes_of : List (List Noted) → Rank → List Noted
notes_of lists rank = or_empty lists rank

-- the notes with one more noted call at the end of the rank's list
abbrev pub with_note : List (List Noted) → Rank → Noted → List (List Noted)
with_note lists rank note = slice_set lists rank (notes_of lists rank ++ note ∷ [])

-- the calls that were noted, as a recording
abbrev pub calls_in : List Noted → List Call
calls_in notes = map (λ note. note.call) notes

-- a note with the place of a half's partner
abbrev pub note_with : Half → Place → Noted → Noted
note_with half there note = record { call = note.call; cached = with_partner half there note.cached; starts = note.starts }

-- the notes of a rank with the place of a partner with the call at the place, if there is one
abbrev pub partnered_in : List Noted → Place → Half → Place → List Noted
partnered_in notes place half there = option_map_or (λ note. slice_set notes place (note_with half there note)) (slice_get notes place) notes

-- and those of all ranks
abbrev pub partnered : List (List Noted) → Rank → Place → Half → Place → List (List Noted)
partnered lists rank place half there = slice_set lists rank (partnered_in (notes_of lists rank) place half there)

-- the requests of a wait that may name several
abbrev pub listed : Call → List Request
listed (Waitall reqs) = reqs
listed (Waitany chosen reqs) = reqs
listed _ = []

-- the call can be noted without memory
pub record Holds (room : NoteRoom) (call : Call) : Type 0 where
  pub calls : 1 ≤ room.calls
  pub starts : length (listed call) ≤ room.starts

abbrev pub no_room : NoteRoom
no_room = record { calls = 0; starts = 0 }

-- and so can the rank's call
abbrev pub HasRoom : Notebook → Rank → Call → Type 0
HasRoom notes rank call = Holds (unwrap_or (slice_get notes.rooms rank) no_room) call

-- the request that the call at the place starts
abbrev pub request_among : List Call → Place → Option Request
request_among calls place = option_and_then starts (slice_get calls place)

-- the places are starts of the wait after the calls: at each is the call that starts the request which
-- the wait names there
abbrev pub AreStarts : List Call → Call → List Place → Type 0
AreStarts calls wait places = map (request_among calls) places ≡ map (λ req. Some req) (waits_for wait)

-- what is kept with the requests that a wait completes, of what is kept with those that it names
abbrev pub completed_among : Call → List ℕ → List ℕ
completed_among (Waitany chosen reqs) cached = take 1 (drop chosen cached)
completed_among _ cached = cached

-- the places that started the requests which a wait completes
abbrev pub completed_starts : Noted → List Place
completed_starts note = completed_among note.call note.starts

-- the place that started a request which a wait names: it is kept with the first such number
abbrev pub start_of : Noted → Request → Option Place
start_of note req = option_and_then (slice_get note.starts) (position (λ other. other == req) (waits_for note.call))
