-- The forms that needs have: for the place with a number of a rank's list, or lacking.
use Rattle.std.proofs.Common.{◌≡◌, ℕ, Option, Some, None, unwrap_or, refl, sym, ap, subst}
use Rattle.std.specs.List.{slice_get}
use Rattle.std.specs.Option.{option_map, option_map_or}
use Rattle.mpicall.specs.declared.call.Call.{Call}
use Rattle.mpigroup.specs.Groups.{Groups, group_rank_of}
use Rattle.callstore.specs.declared.envelope.Envelope.{Envelope}
use Rattle.callstore.specs.declared.envelope.Half.{Half}
use Rattle.callstore.specs.declared.envelope.Half.TheVariants.{Send as SendHalf, Recv as RecvHalf}
use Rattle.callstore.specs.declared.envelope.Message.{Message}
use Rattle.callstore.specs.Recordings.{Lists, calls_of}
use Rattle.callstore.specs.Envelopes.{message_of, other_half, envelope_by, envelope_of, rank_of_half, has_envelope, probed_message}
use Rattle.callstore.proofs.OptionLemmas.{map_parts}
use Rattle.pairing.specs.Partners.{number_of}
use Rattle.pairing.specs.Probed.{probed_envelope}
use Rattle.moves.specs.declared.need.Need.TheVariants.{At, Lacking}
use Rattle.moves.specs.Needs.{world_of, half_need, probe_need}
use Rattle.moves.proofs.OntoLemmas.{nth_need}

-- the peer of a message is the rank of its other half
peer_rank : (groups : Groups) (rank : ℕ) (half : Half) (call : Call) (m : Message) (e : Envelope) (k : ℕ) → message_of half call ≡ Some m → envelope_of groups rank half call ≡ Some e → rank_of_half groups (other_half half) e ≡ Some k → world_of groups m.comm m.peer ≡ k
peer_rank groups rank half call m e k sends has there =
    let own : option_map (envelope_by half m) (group_rank_of groups m.comm rank) ≡ Some e = rw sends at has in
    let parts = map_parts (envelope_by half m) (group_rank_of groups m.comm rank) e own in
    by_half half parts.0 (subst (λ (x : Envelope). rank_of_half groups (other_half half) x ≡ Some k) (sym parts.2) there)
  where
    by_half : (h : Half) (g : ℕ) → rank_of_half groups (other_half h) (envelope_by h m g) ≡ Some k → world_of groups m.comm m.peer ≡ k
    by_half SendHalf g found = ap (λ (o : Option ℕ). unwrap_or o m.peer) found
    by_half RecvHalf g found = ap (λ (o : Option ℕ). unwrap_or o m.peer) found

-- a message's need, by the rank of its other half
as_nth : (k w : ℕ) (o : Option ℕ) → w ≡ k → option_map_or (λ partner. At partner.0 partner.1) (option_map {U = ℕ × ℕ} (λ place. (k, place)) o) (Lacking w) ≡ option_map_or (At k) o (Lacking k)
as_nth k w None same = rw same refl
as_nth k w (Some place) same = refl

pub half_is : (groups : Groups) (recording : Lists) (rank place : ℕ) (half : Half) (call : Call) (m : Message) (e : Envelope) (k number : ℕ) → slice_get (calls_of recording rank) place ≡ Some call → message_of half call ≡ Some m → envelope_of groups rank half call ≡ Some e → rank_of_half groups (other_half half) e ≡ Some k → number_of groups recording rank half e place ≡ number → half_need groups recording rank place half m ≡ nth_need recording (has_envelope groups k (other_half half) e) k number
half_is groups recording rank place half call m e k number present sends has there counts =
    let peer = peer_rank groups rank half call m e k sends has there in
    rw (present, has, there, counts) (as_nth k (world_of groups m.comm m.peer) _ peer)

pub half_none : (groups : Groups) (recording : Lists) (rank place : ℕ) (half : Half) (call : Call) (m : Message) → slice_get (calls_of recording rank) place ≡ Some call → envelope_of groups rank half call ≡ None → half_need groups recording rank place half m ≡ Lacking (world_of groups m.comm m.peer)
half_none groups recording rank place half call m present none = rw (present, none) refl

pub half_nobody : (groups : Groups) (recording : Lists) (rank place : ℕ) (half : Half) (call : Call) (m : Message) (e : Envelope) → slice_get (calls_of recording rank) place ≡ Some call → envelope_of groups rank half call ≡ Some e → rank_of_half groups (other_half half) e ≡ None → half_need groups recording rank place half m ≡ Lacking (world_of groups m.comm m.peer)
half_nobody groups recording rank place half call m e present has none = rw (present, has, none) refl

-- the source of the message that a probe looks for is the rank that sends
source_rank : (groups : Groups) (rank : ℕ) (call : Call) (m : Message) (e : Envelope) (k : ℕ) → probed_message call ≡ Some m → probed_envelope groups rank call ≡ Some e → rank_of_half groups SendHalf e ≡ Some k → world_of groups m.comm m.peer ≡ k
source_rank groups rank call m e k probes has there =
    let own : option_map (envelope_by RecvHalf m) (group_rank_of groups m.comm rank) ≡ Some e = rw probes at has in
    let parts = map_parts (envelope_by RecvHalf m) (group_rank_of groups m.comm rank) e own in
    let from : rank_of_half groups SendHalf (envelope_by RecvHalf m parts.0) ≡ Some k = subst (λ (x : Envelope). rank_of_half groups SendHalf x ≡ Some k) (sym parts.2) there in
    ap (λ (o : Option ℕ). unwrap_or o m.peer) from

pub probe_is : (groups : Groups) (recording : Lists) (rank place : ℕ) (call : Call) (m : Message) (e : Envelope) (k number : ℕ) → slice_get (calls_of recording rank) place ≡ Some call → probed_message call ≡ Some m → probed_envelope groups rank call ≡ Some e → rank_of_half groups SendHalf e ≡ Some k → number_of groups recording rank RecvHalf e place ≡ number → probe_need groups recording rank place m ≡ nth_need recording (has_envelope groups k SendHalf e) k number
probe_is groups recording rank place call m e k number present probes has there counts =
    let source = source_rank groups rank call m e k probes has there in
    rw (present, has, there, counts) (as_nth k (world_of groups m.comm m.peer) _ source)

pub probe_none : (groups : Groups) (recording : Lists) (rank place : ℕ) (call : Call) (m : Message) → slice_get (calls_of recording rank) place ≡ Some call → probed_envelope groups rank call ≡ None → probe_need groups recording rank place m ≡ Lacking (world_of groups m.comm m.peer)
probe_none groups recording rank place call m present none = rw (present, none) refl

pub probe_nobody : (groups : Groups) (recording : Lists) (rank place : ℕ) (call : Call) (m : Message) (e : Envelope) → slice_get (calls_of recording rank) place ≡ Some call → probed_envelope groups rank call ≡ Some e → rank_of_half groups SendHalf e ≡ None → probe_need groups recording rank place m ≡ Lacking (world_of groups m.comm m.peer)
probe_nobody groups recording rank place call m e present has none = rw (present, has, none) refl
