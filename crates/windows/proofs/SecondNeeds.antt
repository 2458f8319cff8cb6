-- What a call behind a clean cut needs and lacks is the same in the second window, but for the shift of places.
use Rattle.moves.specs.declared.reading.Reading.{Reading}
use Rattle.std.proofs.Common.{◌≡◌, ℕ, suc, ◌+◌, ◌-◌, ◌<◌, ◌≤◌, Bool, true, false, not, Option, Some, None, if◌then◌else◌, List, [], ◌∷◌, ◌++◌, map, flat_map, length, drop, refl, sym, ap, subst, ◌∙◌, ⊎_elim, arith, inl, inr}
use Rattle.std.specs.Prelude.{is_some, slice_index}
use Rattle.std.specs.List.{slice_get, filter}
use Rattle.std.specs.Option.{option_map, option_map_or}
use Rattle.std.proofs.lemmas.List.{map-append}
use Rattle.std.proofs.lemmas.List.Elements.{filter-append}
use Rattle.std.proofs.lemmas.Option.{none-some, slice_get_within}
use Rattle.std.proofs.lemmas.Bool.{cases_Bool, cases_lt, false≢true, le-leb, lt-leb}
use Rattle.mpicall.specs.declared.call.Mode.TheVariants.{Standard}
use Rattle.mpicall.specs.declared.call.Peer.TheVariants.{Null}
use Rattle.mpicall.specs.declared.call.Call.{Call}
use Rattle.mpicall.specs.declared.call.Call.TheVariants.{Irecv, Isend, Coll, Icoll, Dup, Split}
use Rattle.mpigroup.specs.Groups.{Groups, group_of}
use Rattle.callstore.specs.declared.envelope.Envelope.{Envelope}
use Rattle.callstore.specs.declared.envelope.Half.{Half}
use Rattle.callstore.specs.declared.envelope.Half.TheVariants.{Send as SendHalf, Recv as RecvHalf}
use Rattle.callstore.specs.declared.envelope.Message.{Message}
use Rattle.callstore.specs.Recordings.{Lists, calls_of}
use Rattle.callstore.specs.Places.{places, count_before}
use Rattle.callstore.specs.Communicators.{comm_of}
use Rattle.callstore.specs.Envelopes.{message_of, envelope_of, has_envelope, other_half, rank_of_half, probed_message}
use Rattle.callstore.specs.Requests.{starts, completes, is_among, started_before}
use Rattle.callstore.specs.Waves.{joins, does_join}
use Rattle.callstore.proofs.PlaceLemmas.{slice_get-front}
use Rattle.callstore.proofs.OptionLemmas.{is_it}
use Rattle.pairing.specs.Faults.{is_member}
use Rattle.pairing.specs.Partners.{number_of}
use Rattle.pairing.specs.Probed.{probed_envelope}
use Rattle.pairing.proofs.PartnerLemmas.{own_rank}
use Rattle.pairing.proofs.ProbedLemmas.{prober}
use Rattle.moves.specs.declared.need.Need.{Need}
use Rattle.moves.specs.declared.need.Need.TheVariants.{At, Lacking}
use Rattle.moves.specs.Runs.{State}
use Rattle.moves.specs.Needs.{world_of, half_need, half_needs, probe_need, probe_needs, member_need, wave_needs, sends_freely, operation_needs, operation_needs_at, request_needs, needs_of_call, needs_of, is_met}
use Rattle.moves.proofs.OntoLemmas.{nth_need}
use Rattle.windows.specs.Cuts.{Cut, before_cut, after_cut, left_active, starts_receive, is_moved, front_of, second_window, need_in_whole}
use Rattle.windows.proofs.PlaceCuts.{SamePlace}
use Rattle.windows.proofs.CutLists.{front_before, front_get, moved_receives, behind_first}
use Rattle.windows.proofs.StartedLemmas.{StartedAt}
use Rattle.windows.proofs.CutWindows.{whole_calls, second_calls, call_before, number_behind, number_moved, same_nth, SameStart, same_start}
use Rattle.windows.proofs.CleanLemmas.{it_has, CleanCut, half_alone, joins_alone, overtakes, half_overtakes, halves_in_turn, first_of, halves_same, waves_same, member_among, rank_before}
use Rattle.windows.proofs.FirstNeeds.{AreBefore, operation_at_same, among_first, among_later}
use Rattle.windows.proofs.NeedForms.{half_is, half_none, half_nobody, probe_is, probe_none, probe_nobody}

-- the need isn't met in the state
abbrev pub lacks : State → Need → Bool
lacks stands need = not (is_met stands need)

-- the ranks stand at places behind the cut that are the same in both
pub record StandAlike (whole : Lists) (cut : Cut) (stands others : State) : Type 0 where
  pub index : ℕ → ℕ
  pub in_whole : (rank : ℕ) → slice_index stands rank ≡ length (before_cut whole cut rank) + index rank
  pub in_second : (rank : ℕ) → slice_index others rank ≡ length (front_of whole cut rank) + index rank

-- each rank is in the group of the communicators that its calls name
abbrev pub AreMembers : Groups → Lists → Type 0
AreMembers groups whole =
    (rank place : ℕ) (call : Call) → slice_get (calls_of whole rank) place ≡ Some call → option_map_or (is_member groups rank) (comm_of call) true ≡ true

-- a call that joins a communicator names it
pub joins_names : (call : Call) (comm : ℕ) → joins call ≡ Some comm → comm_of call ≡ Some comm
joins_names (Coll own kind) comm is = is
joins_names (Icoll req own kind) comm is = is
joins_names (Dup own new) comm is = is
joins_names (Split own colour key new) comm is = is
joins_names _ comm is = absurd (none-some comm is)

module _ (whole : Lists) (cut : Cut) (stands others : State) (alike : StandAlike whole cut stands others) where
  -- what is lacked of the needs is what is lacked of those in the second window
  abbrev pub Shifts : List Need → List Need → Type 0
  Shifts needs there = filter (lacks stands) needs ≡ map (need_in_whole whole cut) (filter (lacks others) there)

  shift_both : (needs there more more_there : List Need) → Shifts needs there → Shifts more more_there → Shifts (needs ++ more) (there ++ more_there)
  shift_both needs there more more_there h k =
      rw (filter-append (lacks stands) needs more, filter-append (lacks others) there more_there, map-append (need_in_whole whole cut) (filter (lacks others) there) (filter (lacks others) more_there), h, k) refl

  shift_before : (needs : List Need) → AreBefore whole cut needs → Shifts needs []
  shift_before [] h = refl
  shift_before (At rank place ∷ rest) h =
      let met : is_met stands (At rank place) ≡ true = le-leb place (slice_index stands rank) (omega (arith, h.0, alike.in_whole rank)) in
      rw met (shift_before rest h.1)
  shift_before (Lacking rank ∷ rest) h = absurd h

  shift_each : (needs there : ℕ → Need) (xs : List ℕ) → ((x : ℕ) → is_among x xs ≡ true → Shifts (needs x ∷ []) (there x ∷ [])) → Shifts (map needs xs) (map there xs)
  shift_each needs there [] each = refl
  shift_each needs there (x ∷ xs) each =
      shift_both (needs x ∷ []) (there x ∷ []) (map needs xs) (map there xs) (each x (among_first whole cut x xs)) (shift_each needs there xs (λ y is. each y (among_later whole cut y x xs is)))

  shift_all : (needs there : ℕ → List Need) (xs : List ℕ) → ((x : ℕ) → Shifts (needs x) (there x)) → Shifts (flat_map needs xs) (flat_map there xs)
  shift_all needs there [] each = refl
  shift_all needs there (x ∷ xs) each = shift_both (needs x) (there x) (flat_map needs xs) (flat_map there xs) (each x) (shift_all needs there xs each)

  shift_place : (rank : ℕ) (o there : Option ℕ) → SamePlace (length (before_cut whole cut rank)) (length (front_of whole cut rank)) o there → Shifts (option_map_or (At rank) o (Lacking rank) ∷ []) (option_map_or (At rank) there (Lacking rank) ∷ [])
  shift_place rank None None same = refl
  shift_place rank None (Some q) same = absurd same
  shift_place rank (Some p) None same = absurd same
  shift_place rank (Some p) (Some q) (inl front) =
      let met : is_met stands (At rank p) ≡ true = le-leb p (slice_index stands rank) (omega (arith, front.0, alike.in_whole rank)) in
      let met_there : is_met others (At rank q) ≡ true = le-leb q (slice_index others rank) (omega (arith, front.1, alike.in_second rank)) in
      rw (met, met_there) refl
  shift_place rank (Some p) (Some q) (inr behind) =
      ⊎_elim
      (λ (unmet : alike.index rank < behind.0).
      let no : is_met stands (At rank p) ≡ false = lt-leb p (slice_index stands rank) (omega (arith, unmet, behind.1, alike.in_whole rank)) in
      let no_there : is_met others (At rank q) ≡ false = lt-leb q (slice_index others rank) (omega (arith, unmet, behind.2, alike.in_second rank)) in
      let place : p ≡ length (before_cut whole cut rank) + (q - length (front_of whole cut rank)) = omega (arith, behind.1, behind.2) in
      rw (no, no_there) (ap (λ (n : ℕ). At rank n ∷ []) place))
      (λ (within : behind.0 ≤ alike.index rank).
      let met : is_met stands (At rank p) ≡ true = le-leb p (slice_index stands rank) (omega (arith, within, behind.1, alike.in_whole rank)) in
      let met_there : is_met others (At rank q) ≡ true = le-leb q (slice_index others rank) (omega (arith, within, behind.2, alike.in_second rank)) in
      rw (met, met_there) refl)
      (cases_lt (alike.index rank) behind.0)

  shift_nth : (test : Call → Bool) (rank number number_there more : ℕ) → SamePlace (length (before_cut whole cut rank)) (length (front_of whole cut rank)) (slice_get (places test (calls_of whole rank)) (more + number_there)) (slice_get (places test (calls_of (second_window whole cut) rank)) number_there) → number ≡ more + number_there → Shifts (nth_need whole test rank number ∷ []) (nth_need (second_window whole cut) test rank number_there ∷ [])
  shift_nth test rank number number_there more same is =
      rw is (shift_place rank (slice_get (places test (calls_of whole rank)) (more + number_there)) (slice_get (places test (calls_of (second_window whole cut) rank)) number_there) same)

module _ (reading : Reading) (groups : Groups) (whole : Lists) (cut : Cut) (clean : CleanCut groups whole cut) (members : AreMembers groups whole) (stands others : State) (alike : StandAlike whole cut stands others) (rank : ℕ) where
  -- a call of the whole recording that the second window has too, where each half that the test tells has a number that
  -- is lower by those in the first window
  pub record Present (place there : ℕ) (call : Call) : Type 0 where
    pub in_whole : slice_get (calls_of whole rank) place ≡ Some call
    pub in_second : slice_get (calls_of (second_window whole cut) rank) there ≡ Some call

  half_shift : (place there : ℕ) (half : Half) (call : Call) (message : Option Message) → Present place there call → ((e : Envelope) → envelope_of groups rank half call ≡ Some e → number_of groups whole rank half e place ≡ first_of groups whole cut clean (has_envelope groups rank half e) rank + number_of groups (second_window whole cut) rank half e there) → message_of half call ≡ message → Shifts whole cut stands others alike (option_map_or (λ m. half_need groups whole rank place half m ∷ []) message []) (option_map_or (λ m. half_need groups (second_window whole cut) rank there half m ∷ []) message [])
  half_shift place there half call None present numbers sends = refl
  half_shift place there half call (Some m) present numbers sends = by_envelope (envelope_of groups rank half call) refl
    where
      lack : half_need groups whole rank place half m ≡ Lacking (world_of groups m.comm m.peer) → half_need groups (second_window whole cut) rank there half m ≡ Lacking (world_of groups m.comm m.peer) → Shifts whole cut stands others alike (half_need groups whole rank place half m ∷ []) (half_need groups (second_window whole cut) rank there half m ∷ [])
      lack one two = subst (λ (need : Need). Shifts whole cut stands others alike (need ∷ []) (half_need groups (second_window whole cut) rank there half m ∷ [])) (sym one) (subst (λ (need : Need). Shifts whole cut stands others alike (Lacking (world_of groups m.comm m.peer) ∷ []) (need ∷ [])) (sym two) refl)

      by_rank : (e : Envelope) → envelope_of groups rank half call ≡ Some e → (o : Option ℕ) → rank_of_half groups (other_half half) e ≡ o → Shifts whole cut stands others alike (half_need groups whole rank place half m ∷ []) (half_need groups (second_window whole cut) rank there half m ∷ [])
      by_rank e has None none = lack (half_nobody groups whole rank place half call m e present.in_whole has none) (half_nobody groups (second_window whole cut) rank there half call m e present.in_second has none)
      by_rank e has (Some k) is =
          let one = half_is groups whole rank place half call m e k (number_of groups whole rank half e place) present.in_whole sends has is refl in
          let two = half_is groups (second_window whole cut) rank there half call m e k (number_of groups (second_window whole cut) rank half e there) present.in_second sends has is refl in
          let same = halves_same groups whole cut clean half e rank k (own_rank groups rank half call e has) is in
          subst (λ (need : Need). Shifts whole cut stands others alike (need ∷ []) (half_need groups (second_window whole cut) rank there half m ∷ [])) (sym one)
          (subst (λ (need : Need). Shifts whole cut stands others alike (nth_need whole (has_envelope groups k (other_half half) e) k (number_of groups whole rank half e place) ∷ []) (need ∷ [])) (sym two)
          (shift_nth whole cut stands others alike (has_envelope groups k (other_half half) e) k (number_of groups whole rank half e place) (number_of groups (second_window whole cut) rank half e there) (first_of groups whole cut clean (has_envelope groups rank half e) rank)
          (same_nth whole cut (has_envelope groups k (other_half half) e) k (first_of groups whole cut clean (has_envelope groups rank half e) rank) (number_of groups (second_window whole cut) rank half e there) (half_alone groups k (other_half half) e) (sym same))
          (numbers e has)))

      by_envelope : (o : Option Envelope) → envelope_of groups rank half call ≡ o → Shifts whole cut stands others alike (half_need groups whole rank place half m ∷ []) (half_need groups (second_window whole cut) rank there half m ∷ [])
      by_envelope None none = lack (half_none groups whole rank place half call m present.in_whole none) (half_none groups (second_window whole cut) rank there half call m present.in_second none)
      by_envelope (Some e) has = by_rank e has (rank_of_half groups (other_half half) e) refl

  probe_shift : (place there : ℕ) (call : Call) (message : Option Message) → Present place there call → ((e : Envelope) → number_of groups whole rank RecvHalf e place ≡ first_of groups whole cut clean (has_envelope groups rank RecvHalf e) rank + number_of groups (second_window whole cut) rank RecvHalf e there) → probed_message call ≡ message → Shifts whole cut stands others alike (option_map_or (λ m. probe_need groups whole rank place m ∷ []) message []) (option_map_or (λ m. probe_need groups (second_window whole cut) rank there m ∷ []) message [])
  probe_shift place there call None present numbers probes = refl
  probe_shift place there call (Some m) present numbers probes = by_envelope (probed_envelope groups rank call) refl
    where
      lack : probe_need groups whole rank place m ≡ Lacking (world_of groups m.comm m.peer) → probe_need groups (second_window whole cut) rank there m ≡ Lacking (world_of groups m.comm m.peer) → Shifts whole cut stands others alike (probe_need groups whole rank place m ∷ []) (probe_need groups (second_window whole cut) rank there m ∷ [])
      lack one two = subst (λ (need : Need). Shifts whole cut stands others alike (need ∷ []) (probe_need groups (second_window whole cut) rank there m ∷ [])) (sym one) (subst (λ (need : Need). Shifts whole cut stands others alike (Lacking (world_of groups m.comm m.peer) ∷ []) (need ∷ [])) (sym two) refl)

      by_rank : (e : Envelope) → probed_envelope groups rank call ≡ Some e → (o : Option ℕ) → rank_of_half groups SendHalf e ≡ o → Shifts whole cut stands others alike (probe_need groups whole rank place m ∷ []) (probe_need groups (second_window whole cut) rank there m ∷ [])
      by_rank e has None none = lack (probe_nobody groups whole rank place call m e present.in_whole has none) (probe_nobody groups (second_window whole cut) rank there call m e present.in_second has none)
      by_rank e has (Some k) is =
          let one = probe_is groups whole rank place call m e k (number_of groups whole rank RecvHalf e place) present.in_whole probes has is refl in
          let two = probe_is groups (second_window whole cut) rank there call m e k (number_of groups (second_window whole cut) rank RecvHalf e there) present.in_second probes has is refl in
          let same = halves_same groups whole cut clean RecvHalf e rank k (prober groups rank call e has) is in
          subst (λ (need : Need). Shifts whole cut stands others alike (need ∷ []) (probe_need groups (second_window whole cut) rank there m ∷ [])) (sym one)
          (subst (λ (need : Need). Shifts whole cut stands others alike (nth_need whole (has_envelope groups k SendHalf e) k (number_of groups whole rank RecvHalf e place) ∷ []) (need ∷ [])) (sym two)
          (shift_nth whole cut stands others alike (has_envelope groups k SendHalf e) k (number_of groups whole rank RecvHalf e place) (number_of groups (second_window whole cut) rank RecvHalf e there) (first_of groups whole cut clean (has_envelope groups rank RecvHalf e) rank)
          (same_nth whole cut (has_envelope groups k SendHalf e) k (first_of groups whole cut clean (has_envelope groups rank RecvHalf e) rank) (number_of groups (second_window whole cut) rank RecvHalf e there) (half_alone groups k SendHalf e) (sym same))
          (numbers e)))

      by_envelope : (o : Option Envelope) → probed_envelope groups rank call ≡ o → Shifts whole cut stands others alike (probe_need groups whole rank place m ∷ []) (probe_need groups (second_window whole cut) rank there m ∷ [])
      by_envelope None none = lack (probe_none groups whole rank place call m present.in_whole none) (probe_none groups (second_window whole cut) rank there call m present.in_second none)
      by_envelope (Some e) has = by_rank e has (rank_of_half groups SendHalf e) refl

  wave_shift : (place there : ℕ) (call : Call) → Present place there call → ((comm : ℕ) → count_before (does_join comm) (calls_of whole rank) place ≡ first_of groups whole cut clean (does_join comm) rank + count_before (does_join comm) (calls_of (second_window whole cut) rank) there) → Shifts whole cut stands others alike (wave_needs groups whole rank place) (wave_needs groups (second_window whole cut) rank there)
  wave_shift place there call present numbers =
      rw (present.in_whole, present.in_second) (by_comm (joins call) refl)
    where
      by_comm : (o : Option ℕ) → joins call ≡ o → Shifts whole cut stands others alike (option_map_or (λ w. map (member_need whole w.0 w.1) (group_of groups w.0)) (option_map {U = ℕ × ℕ} (λ comm. (comm, count_before (does_join comm) (calls_of whole rank) place)) o) []) (option_map_or (λ w. map (member_need (second_window whole cut) w.0 w.1) (group_of groups w.0)) (option_map {U = ℕ × ℕ} (λ comm. (comm, count_before (does_join comm) (calls_of (second_window whole cut) rank) there)) o) [])
      by_comm None is = refl
      by_comm (Some comm) is =
          let own : is_member groups rank comm ≡ true = ap (λ (o : Option ℕ). option_map_or (is_member groups rank) o true) (sym (joins_names call comm is)) ∙ members rank place call present.in_whole in
          shift_each whole cut stands others alike (member_need whole comm (count_before (does_join comm) (calls_of whole rank) place)) (member_need (second_window whole cut) comm (count_before (does_join comm) (calls_of (second_window whole cut) rank) there)) (group_of groups comm)
          (λ member is_there.
          let same = waves_same groups whole cut clean comm rank member (member_among groups rank comm own) is_there in
          shift_nth whole cut stands others alike (does_join comm) member (count_before (does_join comm) (calls_of whole rank) place) (count_before (does_join comm) (calls_of (second_window whole cut) rank) there) (first_of groups whole cut clean (does_join comm) rank)
          (same_nth whole cut (does_join comm) member (first_of groups whole cut clean (does_join comm) rank) (count_before (does_join comm) (calls_of (second_window whole cut) rank) there) (joins_alone comm) (sym same))
          (numbers comm))

  sends_shift : (place there : ℕ) (call : Call) (freely : Bool) → Present place there call → ((e : Envelope) → envelope_of groups rank SendHalf call ≡ Some e → number_of groups whole rank SendHalf e place ≡ first_of groups whole cut clean (has_envelope groups rank SendHalf e) rank + number_of groups (second_window whole cut) rank SendHalf e there) → Shifts whole cut stands others alike (if freely then [] else half_needs groups whole rank place SendHalf call) (if freely then [] else half_needs groups (second_window whole cut) rank there SendHalf call)
  sends_shift place there call true present numbers = refl
  sends_shift place there call false present numbers = half_shift place there SendHalf call (message_of SendHalf call) present numbers refl

  -- ---- Calls behind the cut ----

  pub whole_at : (index : ℕ) → slice_get (calls_of whole rank) (length (before_cut whole cut rank) + index) ≡ slice_get (after_cut whole cut rank) index
  whole_at index =
      ap (λ (calls : List Call). slice_get calls (length (before_cut whole cut rank) + index)) (whole_calls whole cut rank)
      ∙ behind_first (before_cut whole cut rank) (after_cut whole cut rank) index

  pub second_at : (index : ℕ) → slice_get (calls_of (second_window whole cut) rank) (length (front_of whole cut rank) + index) ≡ slice_get (after_cut whole cut rank) index
  second_at index =
      ap (λ (calls : List Call). slice_get calls (length (front_of whole cut rank) + index)) (second_calls whole cut rank)
      ∙ behind_first (front_of whole cut rank) (after_cut whole cut rank) index

  present_behind : (index : ℕ) (call : Call) → slice_get (after_cut whole cut rank) index ≡ Some call → Present (length (before_cut whole cut rank) + index) (length (front_of whole cut rank) + index) call
  present_behind index call h = record { in_whole = whole_at index ∙ h; in_second = second_at index ∙ h }

  operation_shift : (index : ℕ) (call : Call) → slice_get (after_cut whole cut rank) index ≡ Some call → Shifts whole cut stands others alike (operation_needs reading groups whole rank (length (before_cut whole cut rank) + index) call) (operation_needs reading groups (second_window whole cut) rank (length (front_of whole cut rank) + index) call)
  operation_shift index call h =
      let present = present_behind index call h in
      let place = length (before_cut whole cut rank) + index in
      let there = length (front_of whole cut rank) + index in
      shift_both whole cut stands others alike _ _ (wave_needs groups whole rank place) (wave_needs groups (second_window whole cut) rank there)
      (shift_both whole cut stands others alike _ _ (probe_needs groups whole rank place call) (probe_needs groups (second_window whole cut) rank there call)
      (shift_both whole cut stands others alike _ _ (half_needs groups whole rank place RecvHalf call) (half_needs groups (second_window whole cut) rank there RecvHalf call)
      (sends_shift place there call (sends_freely reading call) present (λ e has. number_behind whole cut (has_envelope groups rank SendHalf e) rank index (half_alone groups rank SendHalf e)))
      (half_shift place there RecvHalf call (message_of RecvHalf call) present (λ e has. number_behind whole cut (has_envelope groups rank RecvHalf e) rank index (half_alone groups rank RecvHalf e)) refl))
      (probe_shift place there call (probed_message call) present (λ e. number_behind whole cut (has_envelope groups rank RecvHalf e) rank index (half_alone groups rank RecvHalf e)) refl))
      (wave_shift place there call present (λ comm. number_behind whole cut (does_join comm) rank index (joins_alone comm)))

  operation_at_shift : (index : ℕ) → Shifts whole cut stands others alike (operation_needs_at reading groups whole rank (length (before_cut whole cut rank) + index)) (operation_needs_at reading groups (second_window whole cut) rank (length (front_of whole cut rank) + index))
  operation_at_shift index =
      rw (whole_at index, second_at index) (by_call (slice_get (after_cut whole cut rank) index) refl)
    where
      by_call : (o : Option Call) → slice_get (after_cut whole cut rank) index ≡ o → Shifts whole cut stands others alike (option_map_or (operation_needs reading groups whole rank (length (before_cut whole cut rank) + index)) o []) (option_map_or (operation_needs reading groups (second_window whole cut) rank (length (front_of whole cut rank) + index)) o [])
      by_call None h = refl
      by_call (Some call) h = operation_shift index call h

  -- ---- Requests that were started before the cut ----

  if_none : (b : Bool) → Shifts whole cut stands others alike (if b then [] else []) (if b then [] else [])
  if_none true = refl
  if_none false = refl

  moved_shift : (place there : ℕ) (call : Call) → slice_get (before_cut whole cut rank) place ≡ Some call → is_moved (cut.moves rank) call (drop (suc place) (before_cut whole cut rank)) ≡ true → there ≡ length (front_before (cut.moves rank) place (before_cut whole cut rank)) → starts_receive call ≡ true → Present place there call → Shifts whole cut stands others alike (operation_needs reading groups whole rank place call) (operation_needs reading groups (second_window whole cut) rank there call)
  moved_shift place there (Irecv req comm source tag) h is place_is receives present =
      let call = Irecv req comm source tag in
      shift_both whole cut stands others alike _ _ (wave_needs groups whole rank place) (wave_needs groups (second_window whole cut) rank there)
      (shift_both whole cut stands others alike _ _ (probe_needs groups whole rank place call) (probe_needs groups (second_window whole cut) rank there call)
      (shift_both whole cut stands others alike _ _ (half_needs groups whole rank place RecvHalf call) (half_needs groups (second_window whole cut) rank there RecvHalf call)
      (if_none (sends_freely reading call))
      (half_shift place there RecvHalf call (message_of RecvHalf call) present
      (λ e has.
      rw place_is
      (number_moved whole cut (has_envelope groups rank RecvHalf e) (overtakes groups rank RecvHalf e) rank place call (half_alone groups rank RecvHalf e)
      (halves_in_turn groups rank RecvHalf e (cut.moves rank) (before_cut whole cut rank) (clean.in_turn rank)) (half_overtakes groups rank RecvHalf e) h is
      (it_has e (envelope_of groups rank RecvHalf call) has))) refl))
      refl)
      (rw (present.in_whole, present.in_second) refl)
  moved_shift place there _ h is place_is receives present = absurd (false≢true receives)

  -- a start that meets nobody needs nothing
  alone_needs : (there req : ℕ) → slice_get (calls_of (second_window whole cut) rank) there ≡ Some (Isend req Standard 0 Null 0 None) → operation_needs_at reading groups (second_window whole cut) rank there ≡ []
  alone_needs there req h = rw (h, h) (by_freely (sends_freely reading (Isend req Standard 0 Null 0 None)))
    where
      by_freely : (b : Bool) → (if◌then◌else◌ {A = List Need} b [] []) ++ [] ++ [] ++ [] ≡ []
      by_freely true = refl
      by_freely false = refl

  started_shift : (req place there : ℕ) → StartedAt (before_cut whole cut rank) req place → there ≡ length (front_before (cut.moves rank) place (before_cut whole cut rank)) → Shifts whole cut stands others alike (operation_needs_at reading groups whole rank place) (operation_needs_at reading groups (second_window whole cut) rank there)
  started_shift req place there started is =
      let call = started.call in
      let rest = drop (suc place) (before_cut whole cut rank) in
      let named = is_it req (starts started.call) started.starts_it in
      let active : left_active started.call (drop (suc place) (before_cut whole cut rank)) ≡ Some req = rw (named, started.stays) refl in
      let front = front_get (cut.moves rank) (before_cut whole cut rank) place req started.call started.stands_there active in
      let own : slice_get (calls_of whole rank) place ≡ Some started.call = call_before whole cut rank place started.call started.stands_there in
      let in_front : slice_get (calls_of (second_window whole cut) rank) there ≡ Some (if is_moved (cut.moves rank) started.call (drop (suc place) (before_cut whole cut rank)) then started.call else Isend req Standard 0 Null 0 None) =
      ap (λ (calls : List Call). slice_get calls there) (second_calls whole cut rank)
      ∙ ap (λ (n : ℕ). slice_get (front_of whole cut rank ++ after_cut whole cut rank) n) is
      ∙ slice_get-front (front_of whole cut rank) (after_cut whole cut rank) (length (front_before (cut.moves rank) place (before_cut whole cut rank))) (slice_get_within (front_of whole cut rank) (length (front_before (cut.moves rank) place (before_cut whole cut rank))) _ front)
      ∙ front in
      ⊎_elim
      (λ (moved : is_moved (cut.moves rank) started.call (drop (suc place) (before_cut whole cut rank)) ≡ true).
      let in_second : slice_get (calls_of (second_window whole cut) rank) there ≡ Some started.call = in_front ∙ ap (λ (b : Bool). Some (if b then started.call else Isend req Standard 0 Null 0 None)) moved in
      subst (λ (o : Option Call). Shifts whole cut stands others alike (option_map_or (operation_needs reading groups whole rank place) o []) (operation_needs_at reading groups (second_window whole cut) rank there)) (sym own)
      (subst (λ (o : Option Call). Shifts whole cut stands others alike (operation_needs reading groups whole rank place started.call) (option_map_or (operation_needs reading groups (second_window whole cut) rank there) o [])) (sym in_second)
      (moved_shift place there started.call started.stands_there moved is (moved_receives (cut.moves rank) started.call (drop (suc place) (before_cut whole cut rank)) moved) (record { in_whole = own; in_second = in_second }))))
      (λ (stays : is_moved (cut.moves rank) started.call (drop (suc place) (before_cut whole cut rank)) ≡ false).
      let in_second : slice_get (calls_of (second_window whole cut) rank) there ≡ Some (Isend req Standard 0 Null 0 None) = in_front ∙ ap (λ (b : Bool). Some (if b then started.call else Isend req Standard 0 Null 0 None)) stays in
      let is_rank = rank_before whole cut rank place (slice_get_within (before_cut whole cut rank) place started.call started.stands_there) in
      let same = operation_at_same reading groups whole cut clean rank is_rank place started.call (record { there = started.stands_there; stays = stays }) in
      subst (λ (needs : List Need). Shifts whole cut stands others alike (operation_needs_at reading groups whole rank place) needs) (sym (alone_needs there req in_second))
      (shift_before whole cut stands others alike (operation_needs_at reading groups whole rank place) (subst (λ (needs : List Need). AreBefore whole cut needs) (sym same.same) same.before)))
      (cases_Bool (is_moved (cut.moves rank) started.call (drop (suc place) (before_cut whole cut rank))))

  request_shift : (index req : ℕ) → Shifts whole cut stands others alike (request_needs reading groups whole rank (length (before_cut whole cut rank) + index) req) (request_needs reading groups (second_window whole cut) rank (length (front_of whole cut rank) + index) req)
  request_shift index req = by_start (started_before whole rank (length (before_cut whole cut rank) + index) req) (started_before (second_window whole cut) rank (length (front_of whole cut rank) + index) req) (same_start whole cut rank index req)
    where
      by_start : (o there : Option ℕ) → SameStart (cut.moves rank) (before_cut whole cut rank) req o there → Shifts whole cut stands others alike (option_map_or (operation_needs_at reading groups whole rank) o []) (option_map_or (operation_needs_at reading groups (second_window whole cut) rank) there [])
      by_start None None same = refl
      by_start None (Some there) same = absurd same
      by_start (Some place) None same = absurd same
      by_start (Some place) (Some there) (inl behind) = rw (behind.1, behind.2) (operation_at_shift behind.0)
      by_start (Some place) (Some there) (inr front) = started_shift req place there front.0 front.1

  -- what the call at the place lacks
  pub needs_shift : (index : ℕ) → Shifts whole cut stands others alike (needs_of reading groups whole rank (length (before_cut whole cut rank) + index)) (needs_of reading groups (second_window whole cut) rank (length (front_of whole cut rank) + index))
  needs_shift index =
      rw (whole_at index, second_at index) (by_call (slice_get (after_cut whole cut rank) index) refl)
    where
      waited : (call : Call) (starting : Bool) → slice_get (after_cut whole cut rank) index ≡ Some call → Shifts whole cut stands others alike (if starting then [] else operation_needs reading groups whole rank (length (before_cut whole cut rank) + index) call ++ flat_map (request_needs reading groups whole rank (length (before_cut whole cut rank) + index)) (completes call)) (if starting then [] else operation_needs reading groups (second_window whole cut) rank (length (front_of whole cut rank) + index) call ++ flat_map (request_needs reading groups (second_window whole cut) rank (length (front_of whole cut rank) + index)) (completes call))
      waited call true h = refl
      waited call false h =
          shift_both whole cut stands others alike (operation_needs reading groups whole rank (length (before_cut whole cut rank) + index) call) (operation_needs reading groups (second_window whole cut) rank (length (front_of whole cut rank) + index) call) _ _ (operation_shift index call h)
          (shift_all whole cut stands others alike (request_needs reading groups whole rank (length (before_cut whole cut rank) + index)) (request_needs reading groups (second_window whole cut) rank (length (front_of whole cut rank) + index)) (completes call) (request_shift index))

      by_call : (o : Option Call) → slice_get (after_cut whole cut rank) index ≡ o → Shifts whole cut stands others alike (option_map_or (needs_of_call reading groups whole rank (length (before_cut whole cut rank) + index)) o []) (option_map_or (needs_of_call reading groups (second_window whole cut) rank (length (front_of whole cut rank) + index)) o [])
      by_call None h = refl
      by_call (Some call) h = waited call (is_some (starts call)) h
