-- Probes (MPI 4.0, section 3.8): MPI_Probe returns once there is a message that a receive with its source, tag
-- and communicator would take at that point, and takes nothing itself. So a probe sees the send that the next
-- receive of its envelope gets. It is no receive: a message has halves of sends and receives alone.
use Rattle.mpicall.specs.Names.{Rank, Place}
use Rattle.std.specs.Prelude.{◌≡◌, ℕ, Option, Some, None, option_map, option_and_then, slice_get}
use Rattle.mpicall.specs.declared.call.Call.{Call}
use Rattle.mpigroup.specs.Groups.{Groups, group_rank_of}
use Rattle.callstore.specs.declared.envelope.Envelope.{Envelope}
use Rattle.callstore.specs.declared.envelope.Half.TheVariants.{Send as SendHalf, Recv as RecvHalf}
use Rattle.callstore.specs.Recordings.{Lists, calls_of, GoesOn}
use Rattle.callstore.specs.Envelopes.{probed_message, envelope_by, rank_of_half}
use Rattle.pairing.specs.Partners.{number_of, numbered, places_of, partner_of}
use Rattle.pairing.specs.Matched.{pending_of}

-- the envelope of the message that a call probes for, by the rank that probes
abbrev pub probed_envelope : Groups → Rank → Call → Option Envelope
probed_envelope groups rank call =
    option_and_then (λ m. option_map (envelope_by RecvHalf m) (group_rank_of groups m.comm rank)) (probed_message call)

-- the same of the rank's call at a place
abbrev pub probed_envelope_at : Groups → Lists → Rank → Place → Option Envelope
probed_envelope_at groups recording rank place = option_and_then (probed_envelope groups rank) (slice_get (calls_of recording rank) place)

-- the rank and place of the send of the envelope whose number is that of its receives before the place: the one
-- that the next receive takes
abbrev pub probed_by : Groups → Lists → Rank → Place → Envelope → Option (Rank × Place)
probed_by groups recording rank place e = numbered groups recording SendHalf e (number_of groups recording rank RecvHalf e place)

-- the rank and place of the send that the probe at a place sees; none where no probe is there, and where there
-- is no such send yet
abbrev pub probed_of : Groups → Lists → Rank → Place → Option (Rank × Place)
probed_of groups recording rank place = option_and_then (probed_by groups recording rank place) (probed_envelope_at groups recording rank place)

-- some rank's call is a probe for a message
pub record HasProbe (groups : Groups) (recording : Lists) : Type 0 where
  pub rank : Rank
  pub place : Place
  pub envelope : Envelope
  pub is_probe : probed_envelope_at groups recording rank place ≡ Some envelope

-- no call sees a send as a probe does
abbrev pub NoneIsProbed : Groups → Lists → Type 0
NoneIsProbed groups recording = (rank : Rank) (place : Place) → probed_of groups recording rank place ≡ None

-- the place of the receive of the envelope that is the next after the rank's place, or at it
abbrev pub receive_behind : Groups → Lists → Rank → Place → Envelope → Option Place
receive_behind groups recording rank place e =
    slice_get (places_of groups recording rank RecvHalf e) (number_of groups recording rank RecvHalf e place)

-- Law: the next receive after a probe takes the send that the probe sees.
abbrev pub TheNextReceiveTakesIt : Type 0
TheNextReceiveTakesIt =
    (groups : Groups) (recording : Lists) (rank : Rank) (place : Place) (e : Envelope) (there : Place) →
    probed_envelope_at groups recording rank place ≡ Some e → receive_behind groups recording rank place e ≡ Some there →
    probed_of groups recording rank place ≡ partner_of groups recording rank there RecvHalf

-- Law: where none is after it, the probe sees the first send that has no receive yet.
abbrev pub ElseTheFirstPendingIsSeen : Type 0
ElseTheFirstPendingIsSeen =
    (groups : Groups) (recording : Lists) (rank : Rank) (place : Place) (sender : Rank) (e : Envelope) →
    probed_envelope_at groups recording rank place ≡ Some e → receive_behind groups recording rank place e ≡ None →
    rank_of_half groups SendHalf e ≡ Some sender →
    probed_of groups recording rank place ≡ option_map (λ there. (sender, there)) (slice_get (pending_of groups recording SendHalf e) 0)

-- Law: what a probe sees stays.
abbrev pub ProbedSendsStay : Type 0
ProbedSendsStay =
    (groups : Groups) (recording longer : Lists) (rank place other there : ℕ) → GoesOn recording longer →
    probed_of groups recording rank place ≡ Some (other, there) → probed_of groups longer rank place ≡ Some (other, there)
