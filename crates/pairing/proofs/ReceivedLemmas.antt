-- Messages that are sent: each has its receive just where no send is pending.
use Rattle.std.proofs.Common.{◌≡◌, ℕ, zero, suc, ◌<◌, ◌≤◌, true, Option, Some, None, List, [], ◌∷◌, length, drop, refl, sym, ap, ◌∙◌, arith}
use Rattle.std.specs.Prelude.{is_some}
use Rattle.std.specs.List.{slice_get}
use Rattle.std.specs.Option.{option_map, option_map_or, option_and_then}
use Rattle.std.proofs.lemmas.Bool.{and_parts}
use Rattle.std.proofs.lemmas.List.{length-drop}
use Rattle.std.proofs.lemmas.Option.{none-some, slice_get_within, slice_get-get_or, slice_get_past}
use Rattle.mpicall.specs.declared.call.Call.{Call}
use Rattle.mpicall.specs.declared.call.Call.TheVariants.{Send, Isend, Sendrecv}
use Rattle.mpicall.specs.declared.call.Peer.TheVariants.{Rank}
use Rattle.mpigroup.specs.Groups.{Groups, group_rank_of}
use Rattle.callstore.specs.declared.envelope.Envelope.{Envelope}
use Rattle.callstore.specs.declared.envelope.Half.TheVariants.{Send as SendHalf, Recv as RecvHalf}
use Rattle.callstore.specs.declared.envelope.Message.{Message}
use Rattle.callstore.specs.Envelopes.{message_of, envelope_by, envelope_of, rank_of_half}
use Rattle.callstore.specs.Communicators.{comm_of}
use Rattle.pairing.specs.Faults.{is_member, IsLawful}
use Rattle.pairing.specs.Matched.{halves_of, pending_of}
use Rattle.pairing.specs.Partners.{places_of, number_of, numbered, envelope_at, partner_of, sent_at, EachIsReceived, HasUnreceived}
use Rattle.callstore.specs.Recordings.{Lists, calls_of}
use Rattle.pairing.proofs.FaultLemmas.{fault_none}
use Rattle.pairing.proofs.RequestLaws.{some_parts}
use Rattle.pairing.proofs.MeetingLemmas.{drop_first}
use Rattle.pairing.proofs.PartnerLemmas.{HasHalf, own_rank, own_place, numbered_half, partner_from}
use Rattle.callstore.proofs.OptionLemmas.{and_then_parts}

-- a call that sends a message names its communicator
comm_of_sent : (call : Call) (m : Message) → message_of SendHalf call ≡ Some m → comm_of call ≡ Some m.comm
comm_of_sent (Send mode comm (Rank peer) tag bytes) m is = ap (λ (o : Option Message). option_map (λ (x : Message). x.comm) o) is
comm_of_sent (Isend req mode comm (Rank peer) tag bytes) m is = ap (λ (o : Option Message). option_map (λ (x : Message). x.comm) o) is
comm_of_sent (Sendrecv comm (Rank peer) send_tag source recv_tag bytes) m is = ap (λ (o : Option Message). option_map (λ (x : Message). x.comm) o) is
comm_of_sent _ m is = absurd (none-some m is)

enveloped : (groups : Groups) (rank g : ℕ) (call : Call) (m : Message) → message_of SendHalf call ≡ Some m → group_rank_of groups m.comm rank ≡ Some g → envelope_of groups rank SendHalf call ≡ Some (envelope_by SendHalf m g)
enveloped groups rank g call m is stands = rw (is, stands) refl

-- and its rank is in that communicator's group, so that the message has an envelope
sent_envelope : (groups : Groups) (recording : Lists) (rank place : ℕ) (call : Call) (m : Message) → IsLawful groups recording → slice_get (calls_of recording rank) place ≡ Some call → message_of SendHalf call ≡ Some m → (e : Envelope) × (envelope_of groups rank SendHalf call ≡ Some e)
sent_envelope groups recording rank place call m lawful here is =
    let holds_it = (fault_none groups rank _ call (lawful rank (rank_there recording rank place call here) place call here)).holds_it in
    let made_comms = rw (comm_of_sent call m is) at holds_it in
    let g = some_parts (group_rank_of groups m.comm rank) (and_parts (is_member groups rank m.comm) _ made_comms).0 in
    (envelope_by SendHalf m g.0, enveloped groups rank g.0 call m is g.1)
  where
    rank_there : (lists : Lists) (r p : ℕ) (c : Call) → slice_get (calls_of lists r) p ≡ Some c → r < length lists
    rank_there [] r p c h = absurd (none-some c h)
    rank_there (calls ∷ lists) zero p c h = omega arith
    rank_there (calls ∷ lists) (suc r) p c h = let rest = rank_there lists r p c h in omega (arith, rest)

no_more : (n : ℕ) (xs : List ℕ) → drop n xs ≡ [] → length xs ≤ n
no_more n xs none = omega (arith, length-drop n xs, ap (λ (ys : List ℕ). length ys) none)

-- the other halves, where there are so many
with_other : (groups : Groups) (recording : Lists) (e : Envelope) (number : ℕ) → number < length (halves_of groups recording RecvHalf e) → (other : ℕ) × (there : ℕ) × (rank_of_half groups RecvHalf e ≡ Some other) × (slice_get (places_of groups recording other RecvHalf e) number ≡ Some there)
with_other groups recording e number less = by_rank (rank_of_half groups RecvHalf e) refl
  where
    by_rank : (o : Option ℕ) → rank_of_half groups RecvHalf e ≡ o → (other : ℕ) × (there : ℕ) × (rank_of_half groups RecvHalf e ≡ Some other) × (slice_get (places_of groups recording other RecvHalf e) number ≡ Some there)
    by_rank None is = absurd (omega (arith, rw is at less))
    by_rank (Some other) is = (other, _, is, slice_get-get_or (places_of groups recording other RecvHalf e) number 0 (rw is at less))

has_receive : (groups : Groups) (recording : Lists) (rank place : ℕ) (e : Envelope) → HasHalf groups recording rank place SendHalf e → number_of groups recording rank SendHalf e place < length (halves_of groups recording RecvHalf e) → is_some (partner_of groups recording rank place SendHalf) ≡ true
has_receive groups recording rank place e own less =
    let other = with_other groups recording e (number_of groups recording rank SendHalf e place) less in
    ap is_some (partner_from groups recording rank place SendHalf other.0 other.1 (record { e = e; own = own; rank_there = other.2; place_there = other.3 }))

pub each_is_received : (groups : Groups) (recording : Lists) → IsLawful groups recording → ((e : Envelope) → pending_of groups recording SendHalf e ≡ []) → EachIsReceived groups recording
each_is_received groups recording lawful none rank place sent =
    let message = some_parts (sent_at recording rank place) sent in
    let call = and_then_parts (message_of SendHalf) (slice_get (calls_of recording rank) place) message.0 message.1 in
    let envelope = sent_envelope groups recording rank place call.0 message.0 lawful call.1 call.2 in
    let e : Envelope = envelope.0 in
    let own : HasHalf groups recording rank place SendHalf e = record { call = call.0; stands_there = call.1; envelope = envelope.1 } in
    let sender = own_rank groups rank SendHalf call.0 e envelope.1 in
    let within = slice_get_within (places_of groups recording rank SendHalf e) (number_of groups recording rank SendHalf e place) place (own_place groups recording rank place SendHalf e own) in
    let enough = no_more (length (halves_of groups recording RecvHalf e)) (places_of groups recording rank SendHalf e) (rw sender at (none e)) in
    has_receive groups recording rank place e own (omega (arith, within, enough))

-- the number after the last of the receives has none
none_behind : (groups : Groups) (recording : Lists) (e : Envelope) → numbered groups recording RecvHalf e (length (halves_of groups recording RecvHalf e)) ≡ None
none_behind groups recording e = by_rank (rank_of_half groups RecvHalf e) refl
  where
    by_rank : (o : Option ℕ) → rank_of_half groups RecvHalf e ≡ o → numbered groups recording RecvHalf e (length (halves_of groups recording RecvHalf e)) ≡ None
    by_rank None is = rw is refl
    by_rank (Some other) is = rw (is, slice_get_past (places_of groups recording other RecvHalf e) (length (places_of groups recording other RecvHalf e)) (omega arith)) refl

pub some_unreceived : (groups : Groups) (recording : Lists) (e : Envelope) (place : ℕ) → slice_get (pending_of groups recording SendHalf e) 0 ≡ Some place → HasUnreceived groups recording
some_unreceived groups recording e place first = by_rank (rank_of_half groups SendHalf e) refl
  where
    by_rank : (o : Option ℕ) → rank_of_half groups SendHalf e ≡ o → HasUnreceived groups recording
    by_rank None is =
        absurd (none-some place (sym (ap (λ (o : Option ℕ). slice_get (option_map_or (λ rank. places_of groups recording rank SendHalf e) o []) (length (halves_of groups recording RecvHalf e))) is)
        ∙ sym (drop_first (length (halves_of groups recording RecvHalf e)) (halves_of groups recording SendHalf e)) ∙ first))
    by_rank (Some rank) is =
        let there = rw is at (sym (drop_first (length (halves_of groups recording RecvHalf e)) (halves_of groups recording SendHalf e)) ∙ first) in
        let half = numbered_half groups recording rank place SendHalf e (length (halves_of groups recording RecvHalf e)) there in
        let message = and_then_parts (λ m. option_map (envelope_by SendHalf m) (group_rank_of groups m.comm rank)) (message_of SendHalf half.0.call) e half.0.envelope in
        let here : envelope_at groups recording rank place SendHalf ≡ Some e = rw half.0.stands_there half.0.envelope in
        record {
          rank = rank;
          place = place;
          message = message.0;
          is_sent = rw half.0.stands_there message.1;
          is_alone =
              ap (λ (o : Option Envelope). option_and_then (λ f. numbered groups recording RecvHalf f (number_of groups recording rank SendHalf f place)) o) here
              ∙ ap (λ (n : ℕ). numbered groups recording RecvHalf e n) half.1
              ∙ none_behind groups recording e;
        }
