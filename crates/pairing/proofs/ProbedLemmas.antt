-- Which send a probe sees.
use Rattle.std.proofs.Common.{◌≡◌, ℕ, zero, suc, ◌+◌, ◌<◌, ◌≤◌, Bool, true, false, if◌then◌else◌, Some, None, List, [], ◌∷◌, length, take, refl, sym, ◌∙◌, ⊎_elim, arith}
use Rattle.std.specs.List.{slice_get}
use Rattle.std.specs.Option.{option_map}
use Rattle.std.proofs.lemmas.List.{take-append-le}
use Rattle.std.proofs.lemmas.Option.{slice_get_within, slice_get-get_or, none-some}
use Rattle.std.proofs.lemmas.Bool.{cases_lt}
use Rattle.mpicall.specs.declared.call.Call.{Call}
use Rattle.mpicall.specs.declared.call.Peer.TheVariants.{Rank}
use Rattle.mpicall.specs.declared.call.Call.TheVariants.{Recv, Irecv, Sendrecv}
use Rattle.mpigroup.specs.Groups.{Groups, group_rank_of}
use Rattle.callstore.specs.declared.envelope.Envelope.{Envelope}
use Rattle.callstore.specs.declared.envelope.Half.TheVariants.{Send as SendHalf, Recv as RecvHalf}
use Rattle.callstore.specs.Recordings.{Lists, calls_of}
use Rattle.callstore.specs.Envelopes.{envelope_by, envelope_of, rank_of_half, has_envelope, probed_message}
use Rattle.pairing.specs.Partners.{envelope_at, places_of, number_of}
use Rattle.callstore.specs.Places.{places_from}
use Rattle.pairing.proofs.MeetingLemmas.{drop_first}
use Rattle.callstore.proofs.PlaceLemmas.{places-append, slice_get-front}
use Rattle.callstore.proofs.OptionLemmas.{and_then_parts}
use Rattle.pairing.proofs.PartnerLemmas.{own_rank, numbered_half, numbered_parts}
use Rattle.pairing.specs.Probed.{probed_envelope, probed_envelope_at, probed_by, receive_behind, TheNextReceiveTakesIt, ElseTheFirstPendingIsSeen, ProbedSendsStay}

-- the rank that probes is the one that receives
pub prober : (groups : Groups) (rank : ℕ) (call : Call) (e : Envelope) → probed_envelope groups rank call ≡ Some e → rank_of_half groups RecvHalf e ≡ Some rank
prober groups rank call e h =
    let parts = and_then_parts (λ m. option_map (envelope_by RecvHalf m) (group_rank_of groups m.comm rank)) (probed_message call) e h in
    own_rank groups rank RecvHalf (Recv parts.0.comm (Rank parts.0.peer) parts.0.tag) e parts.2

-- a probe is no receive
pub no_receive : (groups : Groups) (rank : ℕ) (call : Call) (e : Envelope) → probed_envelope groups rank call ≡ Some e → envelope_of groups rank RecvHalf call ≡ None
no_receive groups rank (Recv comm source tag) e h = absurd (none-some e h)
no_receive groups rank (Irecv req comm source tag) e h = absurd (none-some e h)
no_receive groups rank (Sendrecv comm dest send_tag source recv_tag bytes) e h = absurd (none-some e h)
no_receive groups rank _ e h = refl

-- no more places are before a place than there are
pub before_most : {A : Type 0} (n : ℕ) (test : A → Bool) (xs : List A) (i : ℕ) → length (places_from n test (take i xs)) ≤ length (places_from n test xs)
before_most n test [] zero = omega arith
before_most n test [] (suc i) = omega arith
before_most n test (x ∷ xs) zero = omega arith
before_most n test (x ∷ xs) (suc i) = more (test x) (before_most (n + 1) test xs i)
  where
    more : (b : Bool) → length (places_from (n + 1) test (take i xs)) ≤ length (places_from (n + 1) test xs) → length (if b then n ∷ places_from (n + 1) test (take i xs) else places_from (n + 1) test (take i xs)) ≤ length (if b then n ∷ places_from (n + 1) test xs else places_from (n + 1) test xs)
    more true h = omega (arith, h)
    more false h = h

-- where no receive is after a place, all are before it
pub all_before : (groups : Groups) (recording : Lists) (rank place : ℕ) (e : Envelope) → receive_behind groups recording rank place e ≡ None → number_of groups recording rank RecvHalf e place ≡ length (places_of groups recording rank RecvHalf e)
all_before groups recording rank place e none =
    let most : number_of groups recording rank RecvHalf e place ≤ length (places_of groups recording rank RecvHalf e) = before_most 0 (has_envelope groups rank RecvHalf e) (calls_of recording rank) place in
    ⊎_elim
    (λ (less : number_of groups recording rank RecvHalf e place < length (places_of groups recording rank RecvHalf e)).
    absurd (none-some _ (sym none ∙ slice_get-get_or (places_of groups recording rank RecvHalf e) (number_of groups recording rank RecvHalf e place) 0 less)))
    (λ (past : length (places_of groups recording rank RecvHalf e) ≤ number_of groups recording rank RecvHalf e place). omega (arith, most, past))
    (cases_lt (number_of groups recording rank RecvHalf e place) (length (places_of groups recording rank RecvHalf e)))

pub the_next_receive_takes_it : TheNextReceiveTakesIt
the_next_receive_takes_it groups recording rank place e there probes behind =
    let half = numbered_half groups recording rank there RecvHalf e (number_of groups recording rank RecvHalf e place) behind in
    let own : envelope_at groups recording rank there RecvHalf ≡ Some e = rw half.0.stands_there half.0.envelope in
    rw (probes, own, half.1) refl

pub else_the_first_pending_is_seen : ElseTheFirstPendingIsSeen
else_the_first_pending_is_seen groups recording rank place sender e probes none sends =
    let parts = and_then_parts (probed_envelope groups rank) (slice_get (calls_of recording rank) place) e probes in
    let receives = prober groups rank parts.0 e parts.2 in
    let all = all_before groups recording rank place e none in
    let first = drop_first (length (places_of groups recording rank RecvHalf e)) (places_of groups recording sender SendHalf e) in
    rw (probes, sends, receives, all, first) refl

pub probed_sends_stay : ProbedSendsStay
probed_sends_stay groups recording longer rank place other there goes_on h =
    let parts = and_then_parts (probed_by groups recording rank place) (probed_envelope_at groups recording rank place) (other, there) h in
    let probe = and_then_parts (probed_envelope groups rank) (slice_get (calls_of recording rank) place) parts.0 parts.1 in
    let within = slice_get_within (calls_of recording rank) place probe.0 probe.1 in
    let still : slice_get (calls_of longer rank) place ≡ Some probe.0 = rw (goes_on.goes_on rank) (slice_get-front (calls_of recording rank) (goes_on.more rank) place within ∙ probe.1) in
    let same : number_of groups longer rank RecvHalf parts.0 place ≡ number_of groups recording rank RecvHalf parts.0 place =
    rw (goes_on.goes_on rank, take-append-le place (calls_of recording rank) (goes_on.more rank) (omega (arith, within))) refl in
    let from = numbered_parts groups recording SendHalf parts.0 (number_of groups recording rank RecvHalf parts.0 place) other there parts.2 in
    let later : slice_get (places_of groups longer other SendHalf parts.0) (number_of groups recording rank RecvHalf parts.0 place) ≡ Some there =
    rw (goes_on.goes_on other) (places-append 0 (has_envelope groups other SendHalf parts.0) (calls_of recording other) (goes_on.more other) (number_of groups recording rank RecvHalf parts.0 place) there from.1) in
    rw (still, probe.2, same, from.0, later) refl
