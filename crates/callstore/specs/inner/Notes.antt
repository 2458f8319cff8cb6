-- What proofs and private contracts cite, in addition to the definitions of `specs/Notes.antt`.
use Rattle.std.specs.Prelude.{ℕ, Option, option_and_then, List, map, slice_get}
use Rattle.callstore.specs.declared.envelope.Half.{Half}
use Rattle.callstore.specs.CachedMatch.{partner_in}
use Rattle.callstore.specs.Recordings.{Lists}
use Rattle.callstore.specs.Notes.{Noted, NoteRoom, notes_of, calls_in}

-- the noted calls of one rank
pub record NotedList : Type 0 where
  pub calls : List Noted
  pub room : NoteRoom

abbrev pub recording_of : List (List Noted) → Lists
recording_of lists = map calls_in lists

-- the place of a half's partner that is kept with the rank's call at the place
abbrev pub kept_at : List (List Noted) → Half → ℕ → ℕ → Option ℕ
kept_at lists half rank place = option_and_then (λ note. partner_in half note.cached) (slice_get (notes_of lists rank) place)
