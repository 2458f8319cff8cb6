-- Notes of which one has another partner with it.
use Rattle.std.proofs.Common.{◌≡◌, ◌≢◌, ℕ, zero, suc, ◌<◌, ◌≤◌, Option, Some, None, List, [], ◌∷◌, length, set, take, refl, sym, ap, subst, ◌∙◌, ⊎_elim, arith}
use Rattle.std.specs.Prelude.{unwrap_or}
use Rattle.std.specs.List.{slice_get}
use Rattle.std.specs.Option.{option_map, option_map_or}
use Rattle.std.proofs.lemmas.List.{map-set}
use Rattle.std.proofs.lemmas.Option.{slice_get_within, slice_get_past, slice_get-map, none-some, same_Some}
use Rattle.std.proofs.lemmas.Bool.{cases_eq, cases_lt}
use Rattle.mpicall.specs.declared.call.Call.{Call}
use Rattle.mpigroup.proofs.ListLemmas.{slice_get-set_same, slice_get-set_other}
use Rattle.callstore.specs.declared.envelope.Half.{Half}
use Rattle.callstore.specs.declared.envelope.Half.TheVariants.{Send as SendHalf, Recv as RecvHalf}
use Rattle.callstore.specs.declared.cached_match.CachedMatch.{CachedMatch}
use Rattle.callstore.specs.declared.cached_match.CachedMatch.TheVariants.{Nothing, Wave, Sent, Received, Exchanged}
use Rattle.callstore.specs.CachedMatch.{partner_in, with_partner}
use Rattle.callstore.specs.Envelopes.{other_half}
use Rattle.pairing.specs.inner.Kept.{IsNoted, AreNoted}
use Rattle.callstore.specs.Notes.{Noted, notes_of, calls_in, note_with, partnered_in, partnered}
use Rattle.callstore.specs.inner.Notes.{recording_of, kept_at}
use Rattle.callstore.specs.Waves.{joins}
use Rattle.callstore.proofs.NumberLemmas.{set_past}

-- the partner that is set is kept, and the other half's stays
pub partner_set : (half : Half) (there : ℕ) (cached : CachedMatch) → partner_in half (with_partner half there cached) ≡ Some there
partner_set SendHalf there Nothing = refl
partner_set SendHalf there (Wave number) = refl
partner_set SendHalf there (Sent to) = refl
partner_set SendHalf there (Received from) = refl
partner_set SendHalf there (Exchanged to from) = refl
partner_set RecvHalf there Nothing = refl
partner_set RecvHalf there (Wave number) = refl
partner_set RecvHalf there (Sent to) = refl
partner_set RecvHalf there (Received from) = refl
partner_set RecvHalf there (Exchanged to from) = refl

pub partner_stays : (half : Half) (there : ℕ) (cached : CachedMatch) → partner_in (other_half half) (with_partner half there cached) ≡ partner_in (other_half half) cached
partner_stays SendHalf there Nothing = refl
partner_stays SendHalf there (Wave number) = refl
partner_stays SendHalf there (Sent to) = refl
partner_stays SendHalf there (Received from) = refl
partner_stays SendHalf there (Exchanged to from) = refl
partner_stays RecvHalf there Nothing = refl
partner_stays RecvHalf there (Wave number) = refl
partner_stays RecvHalf there (Sent to) = refl
partner_stays RecvHalf there (Received from) = refl
partner_stays RecvHalf there (Exchanged to from) = refl

set_same : {A : Type 0} (xs : List A) (i : ℕ) (x : A) → slice_get xs i ≡ Some x → set xs i x ≡ xs
set_same [] i x h = refl
set_same (y ∷ ys) zero x h = ap (λ z. z ∷ ys) (sym (same_Some y x h))
set_same (y ∷ ys) (suc i) x h = ap (λ zs. y ∷ zs) (set_same ys i x h)

-- the calls stay
pub calls_partnered : (notes : List Noted) (place : ℕ) (half : Half) (there : ℕ) → calls_in (partnered_in notes place half there) ≡ calls_in notes
calls_partnered notes place half there = by_option (slice_get notes place) refl
  where
    by_option : (o : Option Noted) → slice_get notes place ≡ o → calls_in (option_map_or (λ note. set notes place (note_with half there note)) o notes) ≡ calls_in notes
    by_option None is = refl
    by_option (Some note) is =
        map-set (λ (n : Noted). n.call) notes place (note_with half there note)
        ∙ set_same (calls_in notes) place note.call (slice_get-map (λ (n : Noted). n.call) notes place ∙ ap (option_map (λ (n : Noted). n.call)) is)

pub partnered_past : (lists : List (List Noted)) (rank place : ℕ) (half : Half) (there : ℕ) → length lists ≤ rank → partnered lists rank place half there ≡ lists
partnered_past lists rank place half there past = set_past lists rank (partnered_in (notes_of lists rank) place half there) past

notes_of-same : (lists : List (List Noted)) (rank : ℕ) (notes : List Noted) → rank < length lists → notes_of (set lists rank notes) rank ≡ notes
notes_of-same lists rank notes within = ap (λ (o : Option (List Noted)). unwrap_or o []) (slice_get-set_same lists rank notes within)

notes_of-other : (lists : List (List Noted)) (rank other : ℕ) (notes : List Noted) → other ≢ rank → notes_of (set lists rank notes) other ≡ notes_of lists other
notes_of-other lists rank other notes differs = ap (λ (o : Option (List Noted)). unwrap_or o []) (slice_get-set_other lists rank other notes differs)

notes_of-past : (lists : List (List Noted)) (rank : ℕ) → length lists ≤ rank → notes_of lists rank ≡ []
notes_of-past lists rank past = ap (λ (o : Option (List Noted)). unwrap_or o []) (slice_get_past lists rank past)

-- the notes of each rank
pub notes_partnered : (lists : List (List Noted)) (rank place : ℕ) (half : Half) (there : ℕ) → notes_of (partnered lists rank place half there) rank ≡ partnered_in (notes_of lists rank) place half there
notes_partnered lists rank place half there =
    ⊎_elim
    (λ (within : rank < length lists). notes_of-same lists rank (partnered_in (notes_of lists rank) place half there) within)
    (λ (past : length lists ≤ rank).
    ap (λ (ls : List (List Noted)). notes_of ls rank) (partnered_past lists rank place half there past)
    ∙ notes_of-past lists rank past
    ∙ sym (ap (λ (notes : List Noted). partnered_in notes place half there) (notes_of-past lists rank past)))
    (cases_lt rank (length lists))

pub recording_partnered : (lists : List (List Noted)) (rank place : ℕ) (half : Half) (there : ℕ) → recording_of (partnered lists rank place half there) ≡ recording_of lists
recording_partnered lists rank place half there =
    ⊎_elim
    (λ (within : rank < length lists).
    map-set calls_in lists rank (partnered_in (notes_of lists rank) place half there)
    ∙ ap (λ (calls : List Call). set (recording_of lists) rank calls) (calls_partnered (notes_of lists rank) place half there)
    ∙ set_same (recording_of lists) rank (calls_in (notes_of lists rank))
    (slice_get-map calls_in lists rank ∙ ap (option_map calls_in) (there_is lists rank within)))
    (λ (past : length lists ≤ rank). ap (λ (ls : List (List Noted)). recording_of ls) (partnered_past lists rank place half there past))
    (cases_lt rank (length lists))
  where
    there_is : (ls : List (List Noted)) (r : ℕ) → r < length ls → slice_get ls r ≡ Some (notes_of ls r)
    there_is [] r within = absurd (omega arith)
    there_is (l ∷ ls) zero within = refl
    there_is (l ∷ ls) (suc r) within = there_is ls r (omega arith)

-- the note at a place once a partner is set at one
note_partnered : (notes : List Noted) (place : ℕ) (half : Half) (there : ℕ) (note : Noted) → slice_get notes place ≡ Some note → slice_get (partnered_in notes place half there) place ≡ Some (note_with half there note)
note_partnered notes place half there note is =
    ap (λ (o : Option Noted). slice_get (option_map_or (λ n. set notes place (note_with half there n)) o notes) place) is
    ∙ slice_get-set_same notes place (note_with half there note) (slice_get_within notes place note is)

no_note_partnered : (notes : List Noted) (place : ℕ) (half : Half) (there : ℕ) → slice_get notes place ≡ None → partnered_in notes place half there ≡ notes
no_note_partnered notes place half there none = ap (λ (o : Option Noted). option_map_or (λ n. set notes place (note_with half there n)) o notes) none

other_note_partnered : (notes : List Noted) (place p : ℕ) (half : Half) (there : ℕ) → p ≢ place → slice_get (partnered_in notes place half there) p ≡ slice_get notes p
other_note_partnered notes place p half there differs = by_option (slice_get notes place)
  where
    by_option : (o : Option Noted) → slice_get (option_map_or (λ n. set notes place (note_with half there n)) o notes) p ≡ slice_get notes p
    by_option None = refl
    by_option (Some note) = slice_get-set_other notes place p (note_with half there note) differs

-- what is kept once a partner is set: that partner, and else what was
pub kept_own : (lists : List (List Noted)) (rank place : ℕ) (half : Half) (there : ℕ) (note : Noted) → slice_get (notes_of lists rank) place ≡ Some note → kept_at (partnered lists rank place half there) half rank place ≡ Some there
kept_own lists rank place half there note is =
    rw (notes_partnered lists rank place half there, note_partnered (notes_of lists rank) place half there note is)
    (partner_set half there note.cached)

pub kept_other_half : (lists : List (List Noted)) (rank place : ℕ) (half : Half) (there : ℕ) → kept_at (partnered lists rank place half there) (other_half half) rank place ≡ kept_at lists (other_half half) rank place
kept_other_half lists rank place half there = by_option (slice_get (notes_of lists rank) place) refl
  where
    by_option : (o : Option Noted) → slice_get (notes_of lists rank) place ≡ o → kept_at (partnered lists rank place half there) (other_half half) rank place ≡ kept_at lists (other_half half) rank place
    by_option None is = rw (notes_partnered lists rank place half there, no_note_partnered (notes_of lists rank) place half there is) refl
    by_option (Some note) is =
        rw (notes_partnered lists rank place half there, note_partnered (notes_of lists rank) place half there note is, is)
        (partner_stays half there note.cached)

pub kept_elsewhere : (lists : List (List Noted)) (rank place : ℕ) (half : Half) (there : ℕ) (h : Half) (r p : ℕ) → ((r ≡ rank) × (p ≡ place) → ⊥) → kept_at (partnered lists rank place half there) h r p ≡ kept_at lists h r p
kept_elsewhere lists rank place half there h r p differs =
    ⊎_elim
    (λ (is_r : r ≡ rank).
    subst (λ (x : ℕ). kept_at (partnered lists rank place half there) h x p ≡ kept_at lists h x p) (sym is_r)
    (rw (notes_partnered lists rank place half there, other_note_partnered (notes_of lists rank) place p half there (λ is_p. differs (is_r, is_p))) refl))
    (λ (isnt_r : r ≢ rank).
    rw (notes_of-other lists rank r (partnered_in (notes_of lists rank) place half there) isnt_r) refl)
    (cases_eq r rank)

-- a note whose call is no collective is as right as before
noted_with : (before : List Call) (note : Noted) (half : Half) (there : ℕ) → joins note.call ≡ None → IsNoted before note → IsNoted before (note_with half there note)
noted_with before note half there none right = record {
  wave = λ comm joined. absurd (none-some comm (sym none ∙ joined));
  started = right.started;
}

pub noted_partnered : (lists : List (List Noted)) (rank place : ℕ) (half : Half) (there : ℕ) → ((note : Noted) → slice_get (notes_of lists rank) place ≡ Some note → joins note.call ≡ None) → AreNoted lists → AreNoted (partnered lists rank place half there)
noted_partnered lists rank place half there none right r p found h =
    ⊎_elim
    (λ (is_r : r ≡ rank).
    subst (λ (x : ℕ). slice_get (notes_of (partnered lists rank place half there) x) p ≡ Some found → IsNoted (take p (calls_in (notes_of (partnered lists rank place half there) x))) found) (sym is_r)
    (λ h'.
    subst (λ (notes : List Noted). IsNoted (take p (calls_in notes)) found) (sym (notes_partnered lists rank place half there))
    (subst (λ (calls : List Call). IsNoted (take p calls) found) (sym (calls_partnered (notes_of lists rank) place half there))
    (of_rank (subst (λ (notes : List Noted). slice_get notes p ≡ Some found) (notes_partnered lists rank place half there) h'))))
    h)
    (λ (isnt_r : r ≢ rank).
    let other = notes_of-other lists rank r (partnered_in (notes_of lists rank) place half there) isnt_r in
    subst (λ (notes : List Noted). IsNoted (take p (calls_in notes)) found) (sym other)
    (right r p found (subst (λ (notes : List Noted). slice_get notes p ≡ Some found) other h)))
    (cases_eq r rank)
  where
    at_place : (o : Option Noted) → slice_get (notes_of lists rank) place ≡ o → slice_get (partnered_in (notes_of lists rank) place half there) place ≡ Some found → IsNoted (take place (calls_in (notes_of lists rank))) found
    at_place None is there_is = absurd (none-some found (sym is ∙ sym (ap (λ (notes : List Noted). slice_get notes place) (no_note_partnered (notes_of lists rank) place half there is)) ∙ there_is))
    at_place (Some note) is there_is =
        subst (λ (n : Noted). IsNoted (take place (calls_in (notes_of lists rank))) n)
        (same_Some (note_with half there note) found (sym (note_partnered (notes_of lists rank) place half there note is) ∙ there_is))
        (noted_with (take place (calls_in (notes_of lists rank))) note half there (none note is) (right rank place note is))

    of_rank : slice_get (partnered_in (notes_of lists rank) place half there) p ≡ Some found → IsNoted (take p (calls_in (notes_of lists rank))) found
    of_rank there_is =
        ⊎_elim
        (λ (is_p : p ≡ place).
        subst (λ (x : ℕ). IsNoted (take x (calls_in (notes_of lists rank))) found) (sym is_p)
        (at_place (slice_get (notes_of lists rank) place) refl
        (subst (λ (x : ℕ). slice_get (partnered_in (notes_of lists rank) place half there) x ≡ Some found) is_p there_is)))
        (λ (isnt_p : p ≢ place).
        right rank p found (sym (other_note_partnered (notes_of lists rank) place p half there isnt_p) ∙ there_is))
        (cases_eq p place)
