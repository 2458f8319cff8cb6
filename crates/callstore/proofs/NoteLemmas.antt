-- The lists of all ranks, of which one is another.
use Rattle.std.proofs.Common.{◌≡◌, ℕ, ◌<◌, List, [], ◌∷◌, ◌++◌, length, map, set, get_or, sym, ap, ◌∙◌, arith, get_or-set_same}
use Rattle.std.specs.Prelude.{slice_get}
use Rattle.std.specs.Option.{unwrap_or}
use Rattle.std.proofs.lemmas.List.{map-set, get_or-map, length-map}
use Rattle.std.proofs.lemmas.Option.{unwrap_or-slice_get}
use Rattle.callstore.specs.declared.envelope.Half.{Half}
use Rattle.callstore.specs.Notes.{Noted, NoteRoom, no_room, notes_of, with_note, partnered_in, partnered}
use Rattle.callstore.specs.inner.Notes.{NotedList}

-- the rank's room is that of its list
pub room_set : (lists : List NotedList) (rank : ℕ) (list : NotedList) → rank < length lists → unwrap_or (slice_get (map (λ (it : NotedList). it.room) (set lists rank list)) rank) no_room ≡ list.room
room_set lists rank list is_rank =
    unwrap_or-slice_get (map (λ (it : NotedList). it.room) (set lists rank list)) rank no_room
    ∙ ap (λ (rooms : List NoteRoom). get_or rooms rank no_room) (map-set (λ (it : NotedList). it.room) lists rank list)
    ∙ get_or-set_same (map (λ (it : NotedList). it.room) lists) rank list.room no_room (omega (arith, length-map lists (λ (it : NotedList). it.room)))

-- the rank's list has one more note
pub with_note_set : (lists : List NotedList) (rank : ℕ) (old new : NotedList) (note : Noted) → rank < length lists → old ≡ get_or lists rank old → new.calls ≡ old.calls ++ note ∷ [] → map (λ (it : NotedList). it.calls) (set lists rank new) ≡ with_note (map (λ (it : NotedList). it.calls) lists) rank note
with_note_set lists rank old new note is_rank read more =
    let before : notes_of (map (λ (it : NotedList). it.calls) lists) rank ≡ old.calls =
    unwrap_or-slice_get (map (λ (it : NotedList). it.calls) lists) rank []
    ∙ get_or-map (λ (it : NotedList). it.calls) lists rank old [] is_rank
    ∙ ap (λ (it : NotedList). it.calls) (sym read) in
    map-set (λ (it : NotedList). it.calls) lists rank new
    ∙ ap (λ (calls : List Noted). set (map (λ (it : NotedList). it.calls) lists) rank calls) (more ∙ ap (λ (calls : List Noted). calls ++ note ∷ []) (sym before))

-- the rank's list has another partner with a call
pub partnered_set : (lists : List NotedList) (rank place : ℕ) (half : Half) (there : ℕ) (old new : NotedList) → rank < length lists → old ≡ get_or lists rank old → new.calls ≡ partnered_in old.calls place half there → map (λ (it : NotedList). it.calls) (set lists rank new) ≡ partnered (map (λ (it : NotedList). it.calls) lists) rank place half there
partnered_set lists rank place half there old new is_rank read more =
    let before : notes_of (map (λ (it : NotedList). it.calls) lists) rank ≡ old.calls =
    unwrap_or-slice_get (map (λ (it : NotedList). it.calls) lists) rank []
    ∙ get_or-map (λ (it : NotedList). it.calls) lists rank old [] is_rank
    ∙ ap (λ (it : NotedList). it.calls) (sym read) in
    map-set (λ (it : NotedList). it.calls) lists rank new
    ∙ ap (λ (calls : List Noted). set (map (λ (it : NotedList). it.calls) lists) rank calls) (more ∙ ap (λ (calls : List Noted). partnered_in calls place half there) (sym before))
