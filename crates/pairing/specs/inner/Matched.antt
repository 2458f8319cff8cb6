-- What proofs and private contracts cite, in addition to the definitions of `specs/Matched.antt`.
use Rattle.std.specs.Prelude.{◌≡◌, ℕ, ◌+◌, ◌*◌, ◌<◌, ◌≤◌, Bool, true, false, ◌&&◌, Option, Some, None, IfSome, option_map, if◌then◌else◌, is_some, List, [], ◌∷◌, ◌++◌, length, drop, slice_get, slice_set, position}
use Rattle.std.specs.Option.{option_map_or}
use Rattle.arenaqueue.specs.Numbers.{counted, list_at}
use Rattle.mpicall.specs.declared.call.Call.{Call}
use Rattle.mpigroup.specs.Groups.{Groups}
use Rattle.callstore.specs.declared.envelope.Envelope.{Envelope}
use Rattle.callstore.specs.declared.envelope.Half.{Half}
use Rattle.callstore.specs.declared.envelope.Half.TheVariants.{Send as SendHalf, Recv as RecvHalf}
use Rattle.pairing.specs.declared.matches.Halves.{Halves}
use Rattle.pairing.specs.declared.matches.NumberedEnvelope.{NumberedEnvelope}
use Rattle.callstore.specs.Recordings.{Lists}
use Rattle.callstore.specs.Envelopes.{envelope_of, other_half, same_envelope, rank_of_half}
use Rattle.pairing.specs.Partners.{envelope_at}
use Rattle.callstore.specs.Notes.{Noted}
use Rattle.callstore.specs.inner.Notes.{recording_of, kept_at}
use Rattle.pairing.specs.inner.Kept.{AreNoted}
use Rattle.pairing.specs.Work.{work_of}
use Rattle.pairing.specs.Matched.{pending_of}

-- the envelopes in the order of their numbers; lists of pending places, for each envelope one of its sends and
-- after it one of its receives; how many places there is room for; and the work that was done
pub record Matching : Type 0 where
  pub keys : List Envelope
  pub lists : List (List ℕ)
  pub spare : ℕ
  pub work : ℕ

-- there are lists for all envelopes that have a number, and the others are empty
pub record HaveLists (lists : List (List ℕ)) (keys : ℕ) : Type 0 where
  pub enough : 2 * keys ≤ length lists
  pub unused : (l : ℕ) → 2 * keys ≤ l → list_at lists l ≡ []

-- the number of an envelope
abbrev pub number_in : List Envelope → Envelope → Option ℕ
number_in keys e = position (same_envelope e) keys

-- the number of the list of an envelope's half
abbrev pub list_no : Half → ℕ → ℕ
list_no SendHalf number = 2 * number
list_no RecvHalf number = 2 * number + 1

-- the pending places of that half of the envelope with the number
abbrev pub pending_at : List (List ℕ) → Half → ℕ → List ℕ
pending_at lists half number = list_at lists (list_no half number)

-- and of an envelope; none where it has no number
abbrev pub pending_by : Matching → Half → Envelope → List ℕ
pending_by matching half e = option_map_or (pending_at matching.lists half) (number_in matching.keys e) []

-- some envelope has a pending half
pub record HasPending (matching : Matching) (half : Half) : Type 0 where
  pub envelope : Envelope
  pub place : ℕ
  pub is_first : slice_get (pending_by matching half envelope) 0 ≡ Some place

-- the lists once a half comes to the place: it takes the first of the other half off its list, if there is one,
-- and is put into its own list if not
abbrev pub met_if : Bool → List (List ℕ) → Half → ℕ → ℕ → List (List ℕ)
met_if meets lists half number place =
    if meets
    then slice_set lists (list_no (other_half half) number) (drop 1 (pending_at lists (other_half half) number))
    else slice_set lists (list_no half number) (pending_at lists half number ++ place ∷ [])

abbrev pub met : List (List ℕ) → Half → ℕ → ℕ → List (List ℕ)
met lists half number place = met_if (is_some (slice_get (pending_at lists (other_half half) number) 0)) lists half number place

-- more room, and more envelopes that have a number: nothing else changes
pub record IsGrown (old new : Matching) : Type 0 where
  pub numbers : (e : Envelope) (number : ℕ) → number_in old.keys e ≡ Some number → number_in new.keys e ≡ Some number
  pub pending : (half : Half) (e : Envelope) → pending_by new half e ≡ pending_by old half e
  pub spare : old.spare ≤ new.spare
  pub work : new.work ≡ old.work

-- the pending halves are those of the recording, and so is the work
pub record IsMatched (groups : Groups) (recording : Lists) (matching : Matching) : Type 0 where
  pub pending : (half : Half) (e : Envelope) → pending_by matching half e ≡ pending_of groups recording half e
  pub work : matching.work ≡ work_of groups recording

-- the number next to the envelope of a half is its own
abbrev pub HasNumber : Matching → NumberedEnvelope → Type 0
HasNumber matching half = number_in matching.keys half.envelope ≡ Some half.number

-- the halves of the rank's call have numbers, and there is room for them
pub record HasRoomFor (groups : Groups) (rank : ℕ) (call : Call) (halves : Halves) (matching : Matching) : Type 0 where
  pub send : option_map (λ half. half.envelope) halves.send ≡ envelope_of groups rank SendHalf call
  pub recv : option_map (λ half. half.envelope) halves.recv ≡ envelope_of groups rank RecvHalf call
  pub send_number : IfSome halves.send (HasNumber matching)
  pub recv_number : IfSome halves.recv (HasNumber matching)
  pub room : 2 ≤ matching.spare

-- the places of each half of each envelope's messages, in order, while the halves of a call are put in
abbrev pub Filing : Type 0
Filing = Half → Envelope → List ℕ

-- the same with one more half at the place
abbrev pub is_half : Half → Half → Bool
is_half SendHalf SendHalf = true
is_half RecvHalf RecvHalf = true
is_half _ _ = false

abbrev pub filed_on : Half → Option Envelope → ℕ → Filing → Filing
filed_on half o place filing other e =
    if is_half half other && option_map_or (same_envelope e) o false then filing other e ++ place ∷ [] else filing other e

-- and with both halves of a call
abbrev pub filed_halves : Halves → ℕ → Filing → Filing
filed_halves halves place filing =
    filed_on RecvHalf (option_map (λ half. half.envelope) halves.recv) place
    (filed_on SendHalf (option_map (λ half. half.envelope) halves.send) place filing)

-- the work once a half is put in, if there is one, and once both are
abbrev pub worked_if : Bool → ℕ → ℕ
worked_if is_there work = if is_there then counted work 1 else work

abbrev pub worked : Halves → ℕ → ℕ
worked halves work = worked_if (is_some halves.recv) (worked_if (is_some halves.send) work)

-- The halves that are filed so far have their partners kept with them, or are pending. A half is under the
-- envelope of its call, once, in the order of its rank's list.
pub record ArePaired (groups : Groups) (notes : List (List Noted)) (filing : Filing) (matching : Matching) : Type 0 where
  pub noted : AreNoted notes
  pub pending : (half : Half) (e : Envelope) → pending_by matching half e ≡ drop (length (filing (other_half half) e)) (filing half e)
  pub kept : (half : Half) (e : Envelope) (number rank place : ℕ) → rank_of_half groups half e ≡ Some rank → slice_get (filing half e) number ≡ Some place →
      kept_at notes half rank place ≡ slice_get (filing (other_half half) e) number
  pub filed : (half : Half) (rank place there : ℕ) → kept_at notes half rank place ≡ Some there →
      (e : Envelope) × (number : ℕ) × (rank_of_half groups half e ≡ Some rank) × (slice_get (filing half e) number ≡ Some place)
  pub placed : (half : Half) (e : Envelope) (number rank place : ℕ) → rank_of_half groups half e ≡ Some rank → slice_get (filing half e) number ≡ Some place →
      envelope_at groups (recording_of notes) rank place half ≡ Some e
  pub once : (half : Half) (e : Envelope) (number other place : ℕ) → slice_get (filing half e) number ≡ Some place → slice_get (filing half e) other ≡ Some place → number ≡ other
  pub ranked : (half : Half) (e : Envelope) → rank_of_half groups half e ≡ None → filing half e ≡ []

-- a half of the rank's call at the place comes next: all that are filed of the rank are before it
pub record IsNext (groups : Groups) (recording : Lists) (filing : Filing) (rank place : ℕ) (half : Half) (e : Envelope) : Type 0 where
  pub here : envelope_at groups recording rank place half ≡ Some e
  pub last : (f : Envelope) (number before : ℕ) → rank_of_half groups half f ≡ Some rank → slice_get (filing half f) number ≡ Some before → before < place
