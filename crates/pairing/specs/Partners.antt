-- Partners. Messages of one envelope are received in the order in which they are sent (MPI 4.0, section
-- 3.5, non-overtaking), so its k-th send and its k-th receive belong together, each counted in the order
-- of its rank's list.
use Rattle.mpicall.specs.Names.{Rank, Place}
use Rattle.std.specs.Prelude.{◌≡◌, ℕ, ◌<◌, Option, Some, option_map, option_and_then, IsSome, None, List, slice_get}
use Rattle.mpigroup.specs.Groups.{Groups}
use Rattle.callstore.specs.declared.envelope.Envelope.{Envelope}
use Rattle.callstore.specs.declared.envelope.Half.{Half}
use Rattle.callstore.specs.declared.envelope.Half.TheVariants.{Send as SendHalf}
use Rattle.callstore.specs.declared.envelope.Message.{Message}
use Rattle.callstore.specs.Recordings.{Lists, calls_of, GoesOn}
use Rattle.callstore.specs.Places.{places, count_before}
use Rattle.callstore.specs.Envelopes.{message_of, envelope_of, has_envelope, other_half, rank_of_half}

-- the envelope of a half of the call at the place of the rank
abbrev pub envelope_at : Groups → Lists → Rank → Place → Half → Option Envelope
envelope_at groups recording rank place half = option_and_then (envelope_of groups rank half) (slice_get (calls_of recording rank) place)

-- the places of the rank's sends of the envelope, or of its receives, in order
abbrev pub places_of : Groups → Lists → Rank → Half → Envelope → List Place
places_of groups recording rank half e = places (has_envelope groups rank half e) (calls_of recording rank)

-- how many sends of the envelope, or receives, the rank's list has before the place
abbrev pub number_of : Groups → Lists → Rank → Half → Envelope → Place → ℕ
number_of groups recording rank half e place = count_before (has_envelope groups rank half e) (calls_of recording rank) place

-- the rank and place of the envelope's send, or receive, with that number, counted from 0
abbrev pub numbered : Groups → Lists → Half → Envelope → ℕ → Option (Rank × Place)
numbered groups recording half e number =
    option_and_then (λ rank. option_map (λ place. (rank, place)) (slice_get (places_of groups recording rank half e) number))
    (rank_of_half groups half e)

-- the partner of a half of a call: the other half of the same envelope with the same number
abbrev pub partner_of : Groups → Lists → Rank → Place → Half → Option (Rank × Place)
partner_of groups recording rank place half =
    option_and_then (λ e. numbered groups recording (other_half half) e (number_of groups recording rank half e place))
    (envelope_at groups recording rank place half)

-- the message that the call at the place sends
abbrev pub sent_at : Lists → Rank → Place → Option Message
sent_at recording rank place = option_and_then (message_of SendHalf) (slice_get (calls_of recording rank) place)

-- each message that is sent has its receive
abbrev pub EachIsReceived : Groups → Lists → Type 0
EachIsReceived groups recording =
    (rank place : ℕ) → IsSome (sent_at recording rank place) → IsSome (partner_of groups recording rank place SendHalf)

-- some message that is sent has none
pub record HasUnreceived (groups : Groups) (recording : Lists) : Type 0 where
  pub rank : Rank
  pub place : Place
  pub message : Message
  pub is_sent : sent_at recording rank place ≡ Some message
  pub is_alone : partner_of groups recording rank place SendHalf ≡ None

-- Law: partners are mutual. If a half of a call has a partner, that partner's half has the call as its
-- partner.
abbrev pub PartnersAreMutual : Type 0
PartnersAreMutual =
    (groups : Groups) (recording : Lists) (rank place : ℕ) (half : Half) (other place_there : ℕ) →
    partner_of groups recording rank place half ≡ Some (other, place_there) →
    partner_of groups recording other place_there (other_half half) ≡ Some (rank, place)

-- Law: two sends never have the same receive as partner, nor two receives the same send. If the halves
-- of two calls have one partner, they are one call.
abbrev pub PartnersAreNotShared : Type 0
PartnersAreNotShared =
    (groups : Groups) (recording : Lists) (rank place rank' place' : ℕ) (half : Half) (partner : ℕ × ℕ) →
    partner_of groups recording rank place half ≡ Some partner →
    partner_of groups recording rank' place' half ≡ Some partner →
    (rank ≡ rank') × (place ≡ place')

-- Law: partners stay. A partner over a recording is the partner over each longer recording.
abbrev pub PartnersStay : Type 0
PartnersStay =
    (groups : Groups) (recording longer : Lists) (rank place : ℕ) (half : Half) (other there : ℕ) → GoesOn recording longer →
    partner_of groups recording rank place half ≡ Some (other, there) →
    partner_of groups longer rank place half ≡ Some (other, there)

-- Law: messages do not overtake. Of two sends of one envelope, the earlier one's receive is the earlier;
-- the same with sends and receives exchanged.
abbrev pub MessagesDoNotOvertake : Type 0
MessagesDoNotOvertake =
    (groups : Groups) (recording : Lists) (rank place place' : ℕ) (half : Half) (e : Envelope) (other there other' there' : ℕ) →
    place < place' →
    envelope_at groups recording rank place half ≡ Some e →
    envelope_at groups recording rank place' half ≡ Some e →
    partner_of groups recording rank place half ≡ Some (other, there) →
    partner_of groups recording rank place' half ≡ Some (other', there') →
    (other ≡ other') × (there < there')
