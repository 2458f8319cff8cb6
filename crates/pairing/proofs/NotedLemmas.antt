-- The calls that are noted, and one more.
use Rattle.std.proofs.Common.{◌≡◌, ◌≢◌, ℕ, zero, suc, ◌<◌, ◌≤◌, Some, List, [], ◌∷◌, ◌++◌, length, take, refl, sym, ap, subst, ◌∙◌, ⊎_elim, arith, get_or-set_same, get_or-set_other}
use Rattle.std.specs.Prelude.{slice_set}
use Rattle.std.specs.List.{slice_get}
use Rattle.std.proofs.lemmas.List.{map-set, take-append-le, take_all, map_push, length-map}
use Rattle.std.proofs.lemmas.Option.{unwrap_or-slice_get}
use Rattle.std.proofs.lemmas.Bool.{cases_eq, cases_lt}
use Rattle.mpicall.specs.declared.call.Call.{Call}
use Rattle.callstore.specs.Notes.{Noted, notes_of, with_note, calls_in}
use Rattle.callstore.specs.inner.Notes.{recording_of}
use Rattle.pairing.specs.inner.Kept.{IsNoted, AreNoted}
use Rattle.callstore.specs.Recordings.{calls_of, appended}
use Rattle.pairing.proofs.MeetingLemmas.{get_last}
use Rattle.callstore.proofs.PlaceLemmas.{slice_get-front}

-- the rank's calls in the recording are those noted of it
pub calls_of-recorded : (notes : List (List Noted)) (rank : ℕ) → calls_of (recording_of notes) rank ≡ calls_in (notes_of notes rank)
calls_of-recorded [] rank = refl
calls_of-recorded (first ∷ notes) zero = refl
calls_of-recorded (first ∷ notes) (suc rank) = calls_of-recorded notes rank

pub recording_of-more : (notes : List (List Noted)) (rank : ℕ) (noted : Noted) → recording_of (with_note notes rank noted) ≡ appended (recording_of notes) rank noted.call
recording_of-more notes rank noted =
    map-set calls_in notes rank (notes_of notes rank ++ noted ∷ [])
    ∙ ap (λ (list : List Call). slice_set (recording_of notes) rank list)
    (map_push (λ n. n.call) (notes_of notes rank) noted ∙ ap (λ (calls : List Call). calls ++ noted.call ∷ []) (sym (calls_of-recorded notes rank)))

pub notes_of-same : (notes : List (List Noted)) (rank : ℕ) (noted : Noted) → rank < length notes → notes_of (with_note notes rank noted) rank ≡ notes_of notes rank ++ noted ∷ []
notes_of-same notes rank noted is_rank =
    unwrap_or-slice_get (with_note notes rank noted) rank [] ∙ get_or-set_same notes rank (notes_of notes rank ++ noted ∷ []) [] is_rank

pub notes_of-other : (notes : List (List Noted)) (rank other : ℕ) (noted : Noted) → other ≢ rank → notes_of (with_note notes rank noted) other ≡ notes_of notes other
notes_of-other notes rank other noted differs =
    unwrap_or-slice_get (with_note notes rank noted) other []
    ∙ get_or-set_other notes rank other (notes_of notes rank ++ noted ∷ []) [] differs
    ∙ sym (unwrap_or-slice_get notes other [])

-- what is before a place of a list stays as one more is added
before_stays : (list : List Noted) (noted : Noted) (place : ℕ) → place ≤ length list → take place (calls_in (list ++ noted ∷ [])) ≡ take place (calls_in list)
before_stays list noted place within =
    ap (take place) (map_push (λ n. n.call) list noted)
    ∙ take-append-le place (calls_in list) (noted.call ∷ []) (omega (arith, within, length-map list (λ (n : Noted). n.call)))

among_more : (list : List Noted) (noted : Noted) → ((place : ℕ) (found : Noted) → slice_get list place ≡ Some found → IsNoted (take place (calls_in list)) found) → IsNoted (calls_in list) noted → (place : ℕ) (found : Noted) → slice_get (list ++ noted ∷ []) place ≡ Some found → IsNoted (take place (calls_in (list ++ noted ∷ []))) found
among_more list noted are_noted is_noted place found h =
    ⊎_elim
    (λ (within : place < length list).
    subst (λ (before : List Call). IsNoted before found) (sym (before_stays list noted place (omega (arith, within))))
    (are_noted place found (sym (slice_get-front list (noted ∷ []) place within) ∙ h)))
    (λ (behind : length list ≤ place).
    let last = get_last list noted found place behind h in
    let all : take place (calls_in (list ++ noted ∷ [])) ≡ calls_in list =
    before_stays list noted place (omega (arith, last.0)) ∙ take_all place (calls_in list) (omega (arith, last.0, length-map list (λ (n : Noted). n.call))) in
    subst (λ (before : List Call). IsNoted before found) (sym all)
    (subst (λ (n : Noted). IsNoted (calls_in list) n) last.1 is_noted))
    (cases_lt place (length list))

-- one more note that is right leaves all right
pub are_noted-more : (notes : List (List Noted)) (rank : ℕ) (noted : Noted) → rank < length notes → AreNoted notes → IsNoted (calls_in (notes_of notes rank)) noted → AreNoted (with_note notes rank noted)
are_noted-more notes rank noted is_rank are_noted is_noted other place found h =
    ⊎_elim
    (λ (same : other ≡ rank).
    subst (λ (r : ℕ). slice_get (notes_of (with_note notes rank noted) r) place ≡ Some found → IsNoted (take place (calls_in (notes_of (with_note notes rank noted) r))) found) (sym same)
    (λ h'.
    subst (λ (list : List Noted). IsNoted (take place (calls_in list)) found) (sym (notes_of-same notes rank noted is_rank))
    (among_more (notes_of notes rank) noted (are_noted rank) is_noted place found
    (subst (λ (list : List Noted). slice_get list place ≡ Some found) (notes_of-same notes rank noted is_rank) h'))) h)
    (λ (differs : other ≢ rank).
    subst (λ (list : List Noted). IsNoted (take place (calls_in list)) found) (sym (notes_of-other notes rank other noted differs))
    (are_noted other place found (subst (λ (list : List Noted). slice_get list place ≡ Some found) (notes_of-other notes rank other noted differs) h)))
    (cases_eq other rank)
