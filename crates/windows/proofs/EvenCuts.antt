-- A cut is clean exactly if it is even: as many sends as receives, and as many calls of each member.
use Rattle.std.proofs.Common.{◌≡◌, ℕ, zero, suc, ◌+◌, ◌<◌, ◌≤◌, ◌||◌, Bool, true, false, Option, Some, None, if◌then◌else◌, List, [], ◌∷◌, length, take, drop, refl, sym, ap, ◌∙◌, ⊎_elim, arith, length-append}
use Rattle.std.specs.Prelude.{is_some, is_none}
use Rattle.std.specs.List.{slice_get, list_all, range_with_len}
use Rattle.std.specs.Option.{option_map, option_map_or, option_and_then}
use Rattle.std.proofs.lemmas.Option.{none-some, same_Some, slice_get_within, slice_get_past}
use Rattle.std.proofs.lemmas.List.{length-take-le}
use Rattle.std.proofs.lemmas.Bool.{cases_lt, and_from, false≢true, or_left, lt-ltb}
use Rattle.mpicall.specs.declared.call.Peer.TheVariants as peer
use Rattle.mpicall.specs.declared.call.Call.{Call}
use Rattle.mpicall.specs.declared.call.Call.TheVariants.{Send, Isend, Recv, Irecv, Sendrecv, Finalize}
use Rattle.mpigroup.specs.Groups.{Groups, group_of, group_rank_of}
use Rattle.callstore.specs.declared.envelope.Envelope.{Envelope}
use Rattle.callstore.specs.declared.envelope.Half.{Half}
use Rattle.callstore.specs.declared.envelope.Half.TheVariants.{Send as SendHalf, Recv as RecvHalf}
use Rattle.callstore.specs.declared.envelope.Message.{Message}
use Rattle.callstore.specs.Recordings.{Lists, calls_of}
use Rattle.callstore.specs.Places.{places}
use Rattle.callstore.specs.Communicators.{comm_of}
use Rattle.callstore.specs.Envelopes.{message_of, probed_message, envelope_by, envelope_of, has_envelope, other_half, rank_of_half}
use Rattle.callstore.specs.Requests.{is_among}
use Rattle.callstore.specs.Waves.{joins, does_join, place_in_wave, wave_of, is_full}
use Rattle.callstore.proofs.OptionLemmas.{and_then_parts, map_parts}
use Rattle.callstore.proofs.PlaceLemmas.{slice_get_there}
use Rattle.callstore.proofs.WaveLemmas.{the_call_in_a_wave_joins_it}
use Rattle.pairing.specs.Faults.{is_member}
use Rattle.pairing.specs.Matched.{halves_of}
use Rattle.pairing.specs.Partners.{number_of, places_of, partner_of}
use Rattle.pairing.proofs.PartnerLemmas.{own_rank, own_place, numbered_half}
use Rattle.windows.specs.Cuts.{Cut, before_cut, is_moved, without_peer, first_calls, first_window}
use Rattle.pairing.specs.Met.{found_at, has_its_partner, sees_its_send, has_its_wave, has_all}
use Rattle.windows.specs.Clean.{is_clean_at, IsRightRecording, IsEven}
use Rattle.windows.specs.Laws.{CleanIsEven}
use Rattle.windows.proofs.PlaceCuts.{has_place}
use Rattle.windows.proofs.CutLists.{as_first, first_length}
use Rattle.windows.proofs.CutWindows.{first_window_calls, first_past, first_places, first_count, call_before, call_in_first}
use Rattle.windows.proofs.CleanLemmas.{CleanCut, clean_parts, all_parts, some_parts, half_last, partner_there, first_of, halves_same, waves_same, member_among, rank_before}
use Rattle.windows.proofs.FirstNeeds.{among_first, among_later}
use Rattle.windows.proofs.SecondNeeds.{joins_names}
use Rattle.windows.proofs.CutStands.{first_end}
use Rattle.windows.proofs.RightWindows.{right_parts}
use Rattle.moves.specs.declared.reading.Reading.TheVariants.{Strict}

all_from : (p : ℕ → Bool) (a n : ℕ) → ((r : ℕ) → a ≤ r → r < a + n → p r ≡ true) → list_all p (range_with_len a n) ≡ true
all_from p a zero each = refl
all_from p a (suc n) each =
    rw (each a (omega arith) (omega arith)) (all_from p (a + 1) n (λ r low high. each r (omega (arith, low)) (omega (arith, high))))

all_of : (whole : Lists) (cut : Cut) (p : ℕ → Bool) (numbers : List ℕ) → ((n : ℕ) → is_among n numbers ≡ true → p n ≡ true) → list_all p numbers ≡ true
all_of whole cut p [] each = refl
all_of whole cut p (n ∷ rest) each =
    rw (each n (among_first whole cut n rest)) (all_of whole cut p rest (λ m there. each m (among_later whole cut m n rest there)))

-- a call that has a message names its communicator
message_names : (half : Half) (call : Call) (m : Message) → message_of half call ≡ Some m → comm_of call ≡ Some m.comm
message_names SendHalf (Send mode comm (peer.Rank g) tag bytes) m is = ap (λ (one : Message). Some one.comm) (same_Some _ m is)
message_names SendHalf (Isend req mode comm (peer.Rank g) tag bytes) m is = ap (λ (one : Message). Some one.comm) (same_Some _ m is)
message_names SendHalf (Sendrecv comm (peer.Rank g) tag source recv_tag bytes) m is = ap (λ (one : Message). Some one.comm) (same_Some _ m is)
message_names RecvHalf (Recv comm (peer.Rank g) tag) m is = ap (λ (one : Message). Some one.comm) (same_Some _ m is)
message_names RecvHalf (Irecv req comm (peer.Rank g) tag) m is = ap (λ (one : Message). Some one.comm) (same_Some _ m is)
message_names RecvHalf (Sendrecv comm dest send_tag (peer.Rank g) tag bytes) m is = ap (λ (one : Message). Some one.comm) (same_Some _ m is)
message_names SendHalf _ m is = absurd (none-some m is)
message_names RecvHalf _ m is = absurd (none-some m is)

-- ---- What is clean is even ----

module _ (groups : Groups) (whole : Lists) (cut : Cut) (clean : CleanCut groups whole cut) where
  -- where nobody has the other half, the rank has no such call
  none_alone : (half : Half) (e : Envelope) (rank : ℕ) → rank_of_half groups (other_half half) e ≡ None → length (places_of groups (first_window whole cut) rank half e) ≡ 0
  none_alone half e rank nobody =
      ⊎_elim
      (λ (some : 0 < first_of groups whole cut clean (has_envelope groups rank half e) rank).
      let nth = has_place (has_envelope groups rank half e) (first_calls (cut.moves rank) (before_cut whole cut rank)) 0 some in
      let in_first : slice_get (places_of groups (first_window whole cut) rank half e) 0 ≡ Some nth.place = rw (first_places whole cut (has_envelope groups rank half e) rank (half_last groups rank half e)) nth.is_nth in
      let own = numbered_half groups (first_window whole cut) rank nth.place half e 0 in_first in
      let before : nth.place < length (before_cut whole cut rank) = omega (arith, nth.within, first_length (cut.moves rank) (before_cut whole cut rank)) in
      let all = all_parts groups (first_window whole cut) rank nth.place (clean.all_there rank nth.place (rank_before whole cut rank nth.place before) before) in
      let message = and_then_parts (λ m. option_map (envelope_by half m) (group_rank_of groups m.comm rank)) (message_of half own.0.call) e own.0.envelope in
      let partner = partner_there groups (first_window whole cut) rank nth.place half own.0.call message.0 own.0.stands_there message.1 (all.partner half) in
      let none : is_some (partner_of groups (first_window whole cut) rank nth.place half) ≡ false = rw (own.0.stands_there, own.0.envelope, nobody) refl in
      absurd (false≢true (sym none ∙ partner)))
      (λ (none : first_of groups whole cut clean (has_envelope groups rank half e) rank ≤ 0).
      omega (arith, none, first_count whole cut (has_envelope groups rank half e) rank (half_last groups rank half e)))
      (cases_lt 0 (first_of groups whole cut clean (has_envelope groups rank half e) rank))

  even_messages : (e : Envelope) → length (halves_of groups (first_window whole cut) SendHalf e) ≡ length (halves_of groups (first_window whole cut) RecvHalf e)
  even_messages e = by_ranks (rank_of_half groups SendHalf e) (rank_of_half groups RecvHalf e) refl refl
    where
      by_ranks : (o there : Option ℕ) → rank_of_half groups SendHalf e ≡ o → rank_of_half groups RecvHalf e ≡ there → length (option_map_or (λ rank. places_of groups (first_window whole cut) rank SendHalf e) o []) ≡ length (option_map_or (λ rank. places_of groups (first_window whole cut) rank RecvHalf e) there [])
      by_ranks None None own other = refl
      by_ranks (Some rank) None own other = none_alone SendHalf e rank other
      by_ranks None (Some rank) own other = sym (none_alone RecvHalf e rank own)
      by_ranks (Some rank) (Some k) own other =
          first_count whole cut (has_envelope groups rank SendHalf e) rank (half_last groups rank SendHalf e)
          ∙ halves_same groups whole cut clean SendHalf e rank k own other
          ∙ sym (first_count whole cut (has_envelope groups k RecvHalf e) k (half_last groups k RecvHalf e))

  no_probe : (rank place : ℕ) → found_at probed_message (first_window whole cut) rank place ≡ None → sees_its_send groups (first_window whole cut) rank place ≡ true
  no_probe rank place none = or_left (is_none (found_at probed_message (first_window whole cut) rank place)) _ (ap (λ (o : Option Message). is_none o) none)

  even_probes : (rank place : ℕ) → sees_its_send groups (first_window whole cut) rank place ≡ true
  even_probes rank place =
      ⊎_elim
      (λ (before : place < length (before_cut whole cut rank)). (all_parts groups (first_window whole cut) rank place (clean.all_there rank place (rank_before whole cut rank place before) before)).send)
      (λ (past : length (before_cut whole cut rank) ≤ place).
      no_probe rank place
      (⊎_elim
      (λ (is_rank : rank < length whole).
      ⊎_elim
      (λ (there : place < length (calls_of (first_window whole cut) rank)).
      let end : place ≡ length (before_cut whole cut rank) = omega (arith, past, there, ap length (first_window_calls whole cut rank is_rank), length-append (first_calls (cut.moves rank) (before_cut whole cut rank)) (Finalize ∷ []), first_length (cut.moves rank) (before_cut whole cut rank)) in
      ap (λ (o : Option Call). option_and_then probed_message o) (ap (λ (p : ℕ). slice_get (calls_of (first_window whole cut) rank) p) end ∙ first_end Strict groups whole cut clean rank is_rank))
      (λ (beyond : length (calls_of (first_window whole cut) rank) ≤ place). ap (λ (o : Option Call). option_and_then probed_message o) (slice_get_past (calls_of (first_window whole cut) rank) place beyond))
      (cases_lt place (length (calls_of (first_window whole cut) rank))))
      (λ (no_rank : length whole ≤ rank). ap (λ (calls : List Call). option_and_then probed_message (slice_get calls place)) (first_past whole cut rank no_rank))
      (cases_lt rank (length whole))))
      (cases_lt place (length (before_cut whole cut rank)))

  even : IsEven groups whole cut
  even = record {
    within = clean.within;
    in_turn = λ rank is_rank. clean.in_turn rank;
    messages = even_messages;
    waves = λ comm rank other own there.
        first_count whole cut (does_join comm) rank refl
        ∙ waves_same groups whole cut clean comm rank other own there
        ∙ sym (first_count whole cut (does_join comm) other refl);
    probes = even_probes;
  }

-- ---- What is even is clean ----

module _ (groups : Groups) (whole : Lists) (cut : Cut) (right : IsRightRecording groups whole) (is_even : IsEven groups whole cut) (rank : ℕ) (is_rank : rank < length whole) where
  -- a call of the first window that is before the cut names a communicator of the rank
  first_member : (place : ℕ) (call : Call) → place < length (before_cut whole cut rank) → slice_get (calls_of (first_window whole cut) rank) place ≡ Some call → option_map_or (is_member groups rank) (comm_of call) true ≡ true
  first_member place call before there =
      let own = slice_get_there (before_cut whole cut rank) place before in
      let same : call ≡ as_first (cut.moves rank) own.0 (drop (suc place) (before_cut whole cut rank)) = same_Some _ _ (sym there ∙ call_in_first whole cut rank place own.0 is_rank own.1) in
      let was = right_parts groups rank (take place (calls_of whole rank)) own.0 (right.are_right rank place own.0 (call_before whole cut rank place own.0 own.1)) in
      ap (λ (c : Call). option_map_or (is_member groups rank) (comm_of c) true) same
      ∙ ap (λ (o : Option ℕ). option_map_or (is_member groups rank) o true) (same_comm (is_moved (cut.moves rank) own.0 (drop (suc place) (before_cut whole cut rank))) own.0)
      ∙ was.member
    where
      same_comm : (moved : Bool) (c : Call) → comm_of (if moved then without_peer c else c) ≡ comm_of c
      same_comm false c = refl
      same_comm true (Irecv req comm source tag) = refl
      same_comm true _ = refl

  partners : (place : ℕ) (half : Half) → place < length (before_cut whole cut rank) → has_its_partner groups (first_window whole cut) rank place half ≡ true
  partners place half before = by_call (slice_get (calls_of (first_window whole cut) rank) place) refl
    where
      by_other : (e : Envelope) (number : ℕ) → number < length (halves_of groups (first_window whole cut) (other_half half) e) → (o : Option ℕ) → rank_of_half groups (other_half half) e ≡ o → number < length (option_map_or (λ k. places_of groups (first_window whole cut) k (other_half half) e) o []) → is_some (option_and_then {U = ℕ × ℕ} (λ k. option_map (λ p. (k, p)) (slice_get (places_of groups (first_window whole cut) k (other_half half) e) number)) o) ≡ true
      by_other e number low None is less = absurd (omega (arith, less))
      by_other e number low (Some k) is less =
          let one = slice_get_there (places_of groups (first_window whole cut) k (other_half half) e) number less in
          rw one.1 refl

      lengths : (h : Half) (e : Envelope) → length (halves_of groups (first_window whole cut) h e) ≡ length (halves_of groups (first_window whole cut) (other_half h) e)
      lengths SendHalf e = is_even.messages e
      lengths RecvHalf e = sym (is_even.messages e)

      by_message : (call : Call) → slice_get (calls_of (first_window whole cut) rank) place ≡ Some call → (o : Option Message) → message_of half call ≡ o → (is_none o || is_some (partner_of groups (first_window whole cut) rank place half)) ≡ true
      by_message call there None sends = refl
      by_message call there (Some m) sends =
          let member : is_member groups rank m.comm ≡ true = ap (λ (o : Option ℕ). option_map_or (is_member groups rank) o true) (sym (message_names half call m sends)) ∙ first_member place call before there in
          let g = some_parts (group_rank_of groups m.comm rank) member in
          let has : envelope_of groups rank half call ≡ Some (envelope_by half m g.0) =
          ap (λ (o : Option Message). option_and_then (λ one. option_map (envelope_by half one) (group_rank_of groups one.comm rank)) o) sends
          ∙ ap (λ (o : Option ℕ). option_map (envelope_by half m) o) g.1 in
          let own = own_rank groups rank half call (envelope_by half m g.0) has in
          let at_own = own_place groups (first_window whole cut) rank place half (envelope_by half m g.0) (record { call = call; stands_there = there; envelope = has }) in
          let low = slice_get_within (places_of groups (first_window whole cut) rank half (envelope_by half m g.0)) (number_of groups (first_window whole cut) rank half (envelope_by half m g.0) place) place at_own in
          let halves : halves_of groups (first_window whole cut) half (envelope_by half m g.0) ≡ places_of groups (first_window whole cut) rank half (envelope_by half m g.0) = rw own refl in
          let less : number_of groups (first_window whole cut) rank half (envelope_by half m g.0) place < length (halves_of groups (first_window whole cut) (other_half half) (envelope_by half m g.0)) = omega (arith, low, ap length halves, lengths half (envelope_by half m g.0)) in
          let found = by_other (envelope_by half m g.0) (number_of groups (first_window whole cut) rank half (envelope_by half m g.0) place) less (rank_of_half groups (other_half half) (envelope_by half m g.0)) refl less in
          rw (there, has) found

      by_call : (o : Option Call) → slice_get (calls_of (first_window whole cut) rank) place ≡ o → (is_none (option_and_then (message_of half) o) || is_some (partner_of groups (first_window whole cut) rank place half)) ≡ true
      by_call None there = refl
      by_call (Some call) there = by_message call there (message_of half call) refl

  full_waves : (place : ℕ) → place < length (before_cut whole cut rank) → has_its_wave groups (first_window whole cut) rank place ≡ true
  full_waves place before = by_wave (wave_of (first_window whole cut) rank place) refl
    where
      by_wave : (o : Option (ℕ × ℕ)) → wave_of (first_window whole cut) rank place ≡ o → option_map_or (λ wave. is_full groups (first_window whole cut) wave.0 wave.1) o true ≡ true
      by_wave None is = refl
      by_wave (Some (comm, wave)) is =
          let call = and_then_parts _ (slice_get (calls_of (first_window whole cut) rank) place) (comm, wave) is in
          let joined = map_parts _ (joins call.0) (comm, wave) call.2 in
          let names : joins call.0 ≡ Some comm = joined.1 ∙ ap (λ (pair : ℕ × ℕ). Some pair.0) joined.2 in
          let member : is_member groups rank comm ≡ true = ap (λ (o : Option ℕ). option_map_or (is_member groups rank) o true) (sym (joins_names call.0 comm names)) ∙ first_member place call.0 before call.1 in
          let own = the_call_in_a_wave_joins_it (first_window whole cut) rank place comm wave is in
          let low = slice_get_within (places (does_join comm) (calls_of (first_window whole cut) rank)) wave place own in
          all_of whole cut (λ k. is_some (place_in_wave (first_window whole cut) comm wave k)) (group_of groups comm)
          (λ k there.
          let same = is_even.waves comm rank k (member_among groups rank comm member) there in
          let one = slice_get_there (places (does_join comm) (calls_of (first_window whole cut) k)) wave (omega (arith, low, same)) in
          ap (λ (o : Option ℕ). is_some o) one.1)

clean_at : (groups : Groups) (whole : Lists) (cut : Cut) → IsRightRecording groups whole → IsEven groups whole cut → (rank : ℕ) → rank < length whole → is_clean_at groups whole cut rank ≡ true
clean_at groups whole cut right is_even rank is_rank =
    let few : length (before_cut whole cut rank) ≡ cut.place rank = length-take-le (cut.place rank) (calls_of whole rank) (omega (arith, is_even.within rank is_rank)) in
    and_from _ _
    (and_from _ _ (lt-ltb (cut.place rank) (length (calls_of whole rank)) (is_even.within rank is_rank)) (is_even.in_turn rank is_rank))
    (all_from (has_all groups (first_window whole cut) rank) 0 (cut.place rank)
    (λ place low high.
    let before : place < length (before_cut whole cut rank) = omega (arith, high, few) in
    and_from _ _
    (and_from _ _
    (and_from _ _ (partners groups whole cut right is_even rank is_rank place SendHalf before) (partners groups whole cut right is_even rank is_rank place RecvHalf before))
    (is_even.probes rank place))
    (full_waves groups whole cut right is_even rank is_rank place before)))

pub clean_is_even : CleanIsEven
clean_is_even groups whole cut right = (
  λ clean. even groups whole cut (clean_parts groups whole cut clean),
  λ is_even. all_from (is_clean_at groups whole cut) 0 (length whole) (λ rank low high. clean_at groups whole cut right is_even rank (omega (arith, high))),
)
