-- What a call before a clean cut needs is the same in the first window, and is before the cut.
use Rattle.moves.specs.declared.reading.Reading.{Reading}
use Rattle.std.proofs.Common.{◌≡◌, ℕ, zero, suc, ◌<◌, ◌≤◌, ◌==◌, Bool, true, false, ◌&&◌, Option, Some, None, if◌then◌else◌, List, [], ◌∷◌, ◌++◌, map, flat_map, length, take, drop, refl, sym, ap, subst, ◌∙◌, ⊎_elim, arith}
use Rattle.std.specs.Prelude.{is_some}
use Rattle.std.specs.List.{slice_get, list_any}
use Rattle.std.specs.Option.{option_map, option_map_or}
use Rattle.std.proofs.lemmas.Option.{none-some, same_Some, slice_get_within}
use Rattle.std.proofs.lemmas.Bool.{cases_Bool, or_left, or_right, eq-eqb}
use Rattle.mpicall.specs.declared.call.Call.{Call}
use Rattle.mpicall.specs.declared.call.Call.TheVariants.{Irecv}
use Rattle.mpigroup.specs.Groups.{Groups, group_of}
use Rattle.callstore.specs.declared.envelope.Half.{Half}
use Rattle.callstore.specs.declared.envelope.Half.TheVariants.{Send as SendHalf, Recv as RecvHalf}
use Rattle.callstore.specs.declared.envelope.Message.{Message}
use Rattle.callstore.specs.Recordings.{Lists, calls_of}
use Rattle.callstore.specs.Places.{count_before}
use Rattle.callstore.specs.Envelopes.{message_of, envelope_of, has_envelope, other_half, probed_message}
use Rattle.callstore.specs.Requests.{starts, completes, is_among, does_start, does_complete, started_in, started_before}
use Rattle.callstore.specs.Waves.{joins, does_join, place_in_wave, wave_of, is_full}
use Rattle.callstore.proofs.OptionLemmas.{and_then_parts, is_it}
use Rattle.pairing.specs.Partners.{number_of, places_of, partner_of}
use Rattle.pairing.specs.Probed.{probed_envelope, probed_envelope_at, probed_by, probed_of}
use Rattle.pairing.proofs.PartnerLemmas.{partner_parts, partner_from, numbered_parts}
use Rattle.moves.specs.declared.need.Need.{Need}
use Rattle.moves.specs.declared.need.Need.TheVariants.{At, Lacking}
use Rattle.moves.specs.Needs.{world_of, half_need, half_needs, probe_need, probe_needs, member_need, wave_needs, sends_freely, operation_needs, operation_needs_at, request_needs, needs_of_call, needs_of}
use Rattle.windows.specs.Cuts.{Cut, before_cut, left_active, starts_receive, is_moved, without_peer, first_calls, first_window}
use Rattle.windows.specs.Clean.{takes}
use Rattle.windows.proofs.CutLists.{moved_active}
use Rattle.windows.proofs.StartedLemmas.{AreAlike, started_alike, started_at}
use Rattle.windows.proofs.CutWindows.{call_before, call_in_first, take_before, take_in_first, place_in_first, number_in_first}
use Rattle.windows.proofs.CleanLemmas.{it_has, CleanCut, HasAll, all_parts, all_among, some_parts, half_alone, joins_alone, half_last, overtakes, half_overtakes, halves_in_turn, none_moved, receives_join_none, partner_there, send_there}

-- each of the needs is for a call before the cut
abbrev pub AreBefore : Lists → Cut → List Need → Type 0
AreBefore whole cut [] = Unit {0}
AreBefore whole cut (At rank place ∷ rest) = (place < length (before_cut whole cut rank)) × AreBefore whole cut rest
AreBefore whole cut (Lacking rank ∷ rest) = ⊥

pub record SameNeeds (whole : Lists) (cut : Cut) (needs first : List Need) : Type 0 where
  pub same : needs ≡ first
  pub before : AreBefore whole cut first

module _ (whole : Lists) (cut : Cut) where
  before-append : (needs more : List Need) → AreBefore whole cut needs → AreBefore whole cut more → AreBefore whole cut (needs ++ more)
  before-append [] more h k = k
  before-append (At rank place ∷ rest) more h k = (h.0, before-append rest more h.1 k)
  before-append (Lacking rank ∷ rest) more h k = absurd h

  same_both : (needs first more more_first : List Need) → SameNeeds whole cut needs first → SameNeeds whole cut more more_first → SameNeeds whole cut (needs ++ more) (first ++ more_first)
  same_both needs first more more_first h k = record {
    same = rw (h.same, k.same) refl;
    before = before-append first more_first h.before k.before;
  }

  same_none : SameNeeds whole cut [] []
  same_none = record { same = refl; before = tt }

  pub among_first : (x : ℕ) (xs : List ℕ) → is_among x (x ∷ xs) ≡ true
  among_first x xs = or_left (x == x) (is_among x xs) (eq-eqb x x refl)

  pub among_later : (x y : ℕ) (xs : List ℕ) → is_among x xs ≡ true → is_among x (y ∷ xs) ≡ true
  among_later x y xs h = or_right (y == x) (is_among x xs) h

  same_each : (needs first : ℕ → Need) (xs : List ℕ) → ((x : ℕ) → is_among x xs ≡ true → SameNeeds whole cut (needs x ∷ []) (first x ∷ [])) → SameNeeds whole cut (map needs xs) (map first xs)
  same_each needs first [] each = same_none
  same_each needs first (x ∷ xs) each =
      same_both (needs x ∷ []) (first x ∷ []) (map needs xs) (map first xs) (each x (among_first x xs)) (same_each needs first xs (λ y there. each y (among_later y x xs there)))

  same_all : (needs first : ℕ → List Need) (xs : List ℕ) → ((x : ℕ) → is_among x xs ≡ true → SameNeeds whole cut (needs x) (first x)) → SameNeeds whole cut (flat_map needs xs) (flat_map first xs)
  same_all needs first [] each = same_none
  same_all needs first (x ∷ xs) each =
      same_both (needs x) (first x) (flat_map needs xs) (flat_map first xs) (each x (among_first x xs)) (same_all needs first xs (λ y there. each y (among_later y x xs there)))

-- the first calls start and complete the same requests
pub first_alike : (moves : ℕ → Bool) (place : ℕ) (calls : List Call) → AreAlike (take place (first_calls moves calls)) (take place calls)
first_alike moves zero calls = tt
first_alike moves (suc place) [] = tt
first_alike moves (suc place) (call ∷ rest) = (starts_alike (is_moved moves call rest) call, completes_alike (is_moved moves call rest) call, first_alike moves place rest)
  where
    starts_alike : (moved : Bool) (c : Call) → starts (if moved then without_peer c else c) ≡ starts c
    starts_alike false c = refl
    starts_alike true (Irecv req comm source tag) = refl
    starts_alike true _ = refl

    completes_alike : (moved : Bool) (c : Call) → completes (if moved then without_peer c else c) ≡ completes c
    completes_alike false c = refl
    completes_alike true (Irecv req comm source tag) = refl
    completes_alike true _ = refl

-- what is completed before the cut isn't moved
completed_stays : (moves : ℕ → Bool) (calls : List Call) (req place later : ℕ) (call wait : Call) → slice_get calls later ≡ Some wait → does_complete req wait ≡ true → place < later → does_start req call ≡ true → is_moved moves call (drop (suc place) calls) ≡ false
completed_stays moves calls req place later call wait there ends less starts_it =
    let started = is_it req (starts call) starts_it in
    let ended = ends_behind calls place later there less in
    let gone : left_active call (drop (suc place) calls) ≡ None = rw (started, ended) refl in
    by_receive (starts_receive call) (left_active call (drop (suc place) calls)) gone
  where
    by_receive : (receives : Bool) (o : Option ℕ) → o ≡ None → (receives && option_map_or moves o false) ≡ false
    by_receive true o none = rw none refl
    by_receive false o none = refl

    ends_behind : (calls : List Call) (place later : ℕ) → slice_get calls later ≡ Some wait → place < later → list_any (does_complete req) (drop (suc place) calls) ≡ true
    ends_behind [] place later there less = absurd (none-some wait there)
    ends_behind (first ∷ rest) place zero there less = absurd (omega arith)
    ends_behind (first ∷ rest) zero (suc later) there less = here rest later there
      where
        here : (calls : List Call) (later : ℕ) → slice_get calls later ≡ Some wait → list_any (does_complete req) calls ≡ true
        here [] later there = absurd (none-some wait there)
        here (one ∷ more) zero there = or_left (does_complete req one) (list_any (does_complete req) more) (ap (does_complete req) (same_Some one wait there) ∙ ends)
        here (one ∷ more) (suc later) there = or_right (does_complete req one) (list_any (does_complete req) more) (here more later there)
    ends_behind (first ∷ rest) (suc place) (suc later) there less = ends_behind rest place later there (omega arith)

module _ (reading : Reading) (groups : Groups) (whole : Lists) (cut : Cut) (clean : CleanCut groups whole cut) (rank : ℕ) (is_rank : rank < length whole) where
  -- the call before the cut stays as it is in the first window
  pub record Stays (place : ℕ) (call : Call) : Type 0 where
    pub there : slice_get (before_cut whole cut rank) place ≡ Some call
    pub stays : is_moved (cut.moves rank) call (drop (suc place) (before_cut whole cut rank)) ≡ false

  in_first : (place : ℕ) (call : Call) → Stays place call → slice_get (calls_of (first_window whole cut) rank) place ≡ Some call
  in_first place call h =
      call_in_first whole cut rank place call is_rank h.there ∙ ap (λ (moved : Bool). Some (if moved then without_peer call else call)) h.stays

  has_all_there : (place : ℕ) (call : Call) → Stays place call → HasAll groups (first_window whole cut) rank place
  has_all_there place call h =
      all_parts groups (first_window whole cut) rank place (clean.all_there rank place is_rank (slice_get_within (before_cut whole cut rank) place call h.there))

  half_same : (place : ℕ) (half : Half) (call : Call) (message : Option Message) → Stays place call → message_of half call ≡ message → SameNeeds whole cut (option_map_or (λ m. half_need groups whole rank place half m ∷ []) message []) (option_map_or (λ m. half_need groups (first_window whole cut) rank place half m ∷ []) message [])
  half_same place half call None h sends = same_none whole cut
  half_same place half call (Some m) h sends =
      let present = in_first place call h in
      let one = some_parts (partner_of groups (first_window whole cut) rank place half) (partner_there groups (first_window whole cut) rank place half call m present sends ((has_all_there place call h).partner half)) in
      let parts = partner_parts groups (first_window whole cut) rank place half one.0.0 one.0.1 one.1 in
      let same : call ≡ parts.own.call = same_Some call parts.own.call (sym present ∙ parts.own.stands_there) in
      let has : envelope_of groups rank half call ≡ Some parts.e = ap (envelope_of groups rank half) same ∙ parts.own.envelope in
      let number : number_of groups whole rank half parts.e place ≡ number_of groups (first_window whole cut) rank half parts.e place =
      number_in_first whole cut (has_envelope groups rank half parts.e) (overtakes groups rank half parts.e) rank place call (half_alone groups rank half parts.e)
      (halves_in_turn groups rank half parts.e (cut.moves rank) (before_cut whole cut rank) (clean.in_turn rank)) is_rank h.there h.stays
      (half_overtakes groups rank half parts.e call (it_has parts.e (envelope_of groups rank half call) has)) in
      let there = place_in_first whole cut (has_envelope groups one.0.0 (other_half half) parts.e) (overtakes groups one.0.0 (other_half half) parts.e) one.0.0 (number_of groups (first_window whole cut) rank half parts.e place) one.0.1 (half_alone groups one.0.0 (other_half half) parts.e)
      (halves_in_turn groups one.0.0 (other_half half) parts.e (cut.moves one.0.0) (before_cut whole cut one.0.0) (clean.in_turn one.0.0))
      (half_overtakes groups one.0.0 (other_half half) parts.e) (half_last groups one.0.0 (other_half half) parts.e) parts.place_there in
      let partner : partner_of groups whole rank place half ≡ Some (one.0.0, one.0.1) =
      partner_from groups whole rank place half one.0.0 one.0.1
      (record {
        e = parts.e;
        own = record { call = call; stands_there = call_before whole cut rank place call h.there; envelope = has };
        rank_there = parts.rank_there;
        place_there = ap (λ (n : ℕ). slice_get (places_of groups whole one.0.0 (other_half half) parts.e) n) number ∙ there.0;
      }) in
      let old : half_need groups (first_window whole cut) rank place half m ≡ At one.0.0 one.0.1 = ap (λ (o : Option (ℕ × ℕ)). option_map_or (λ partner. At partner.0 partner.1) o (Lacking (world_of groups m.comm m.peer))) one.1 in
      let new : half_need groups whole rank place half m ≡ At one.0.0 one.0.1 = ap (λ (o : Option (ℕ × ℕ)). option_map_or (λ partner. At partner.0 partner.1) o (Lacking (world_of groups m.comm m.peer))) partner in
      record {
        same = ap (λ (need : Need). need ∷ []) (new ∙ sym old);
        before = subst (λ (need : Need). AreBefore whole cut (need ∷ [])) (sym old) (there.1, tt);
      }

  probe_same : (place : ℕ) (call : Call) (message : Option Message) → Stays place call → probed_message call ≡ message → SameNeeds whole cut (option_map_or (λ m. probe_need groups whole rank place m ∷ []) message []) (option_map_or (λ m. probe_need groups (first_window whole cut) rank place m ∷ []) message [])
  probe_same place call None h probes = same_none whole cut
  probe_same place call (Some m) h probes =
      let present = in_first place call h in
      let one = some_parts (probed_of groups (first_window whole cut) rank place) (send_there groups (first_window whole cut) rank place call m present probes (has_all_there place call h).send) in
      let parts = and_then_parts (probed_by groups (first_window whole cut) rank place) (probed_envelope_at groups (first_window whole cut) rank place) one.0 one.1 in
      let probe = and_then_parts (probed_envelope groups rank) (slice_get (calls_of (first_window whole cut) rank) place) parts.0 parts.1 in
      let same : call ≡ probe.0 = same_Some call probe.0 (sym present ∙ probe.1) in
      let has : probed_envelope groups rank call ≡ Some parts.0 = ap (probed_envelope groups rank) same ∙ probe.2 in
      let from = numbered_parts groups (first_window whole cut) SendHalf parts.0 (number_of groups (first_window whole cut) rank RecvHalf parts.0 place) one.0.0 one.0.1 parts.2 in
      let number : number_of groups whole rank RecvHalf parts.0 place ≡ number_of groups (first_window whole cut) rank RecvHalf parts.0 place =
      number_in_first whole cut (has_envelope groups rank RecvHalf parts.0) (takes groups rank parts.0) rank place call (half_alone groups rank RecvHalf parts.0)
      (halves_in_turn groups rank RecvHalf parts.0 (cut.moves rank) (before_cut whole cut rank) (clean.in_turn rank)) is_rank h.there h.stays
      (or_right (has_envelope groups rank RecvHalf parts.0 call) _ (it_has parts.0 (probed_envelope groups rank call) has)) in
      let there = place_in_first whole cut (has_envelope groups one.0.0 SendHalf parts.0) (overtakes groups one.0.0 SendHalf parts.0) one.0.0 (number_of groups (first_window whole cut) rank RecvHalf parts.0 place) one.0.1 (half_alone groups one.0.0 SendHalf parts.0)
      (halves_in_turn groups one.0.0 SendHalf parts.0 (cut.moves one.0.0) (before_cut whole cut one.0.0) (clean.in_turn one.0.0))
      (half_overtakes groups one.0.0 SendHalf parts.0) (half_last groups one.0.0 SendHalf parts.0) from.1 in
      let seen : probed_of groups whole rank place ≡ Some (one.0.0, one.0.1) = rw (call_before whole cut rank place call h.there, has, number, from.0, there.0) refl in
      let old : probe_need groups (first_window whole cut) rank place m ≡ At one.0.0 one.0.1 = ap (λ (o : Option (ℕ × ℕ)). option_map_or (λ sent. At sent.0 sent.1) o (Lacking (world_of groups m.comm m.peer))) one.1 in
      let new : probe_need groups whole rank place m ≡ At one.0.0 one.0.1 = ap (λ (o : Option (ℕ × ℕ)). option_map_or (λ sent. At sent.0 sent.1) o (Lacking (world_of groups m.comm m.peer))) seen in
      record {
        same = ap (λ (need : Need). need ∷ []) (new ∙ sym old);
        before = subst (λ (need : Need). AreBefore whole cut (need ∷ [])) (sym old) (there.1, tt);
      }

  member_same : (comm wave member : ℕ) → is_some (place_in_wave (first_window whole cut) comm wave member) ≡ true → SameNeeds whole cut (member_need whole comm wave member ∷ []) (member_need (first_window whole cut) comm wave member ∷ [])
  member_same comm wave member h =
      let one = some_parts (place_in_wave (first_window whole cut) comm wave member) h in
      let there = place_in_first whole cut (does_join comm) (does_join comm) member wave one.0 (joins_alone comm)
      (none_moved (does_join comm) (cut.moves member) (before_cut whole cut member) (receives_join_none comm)) (λ c is. is) refl one.1 in
      let old : member_need (first_window whole cut) comm wave member ≡ At member one.0 = ap (λ (o : Option ℕ). option_map_or (At member) o (Lacking member)) one.1 in
      let new : member_need whole comm wave member ≡ At member one.0 = ap (λ (o : Option ℕ). option_map_or (At member) o (Lacking member)) there.0 in
      record {
        same = ap (λ (need : Need). need ∷ []) (new ∙ sym old);
        before = subst (λ (need : Need). AreBefore whole cut (need ∷ [])) (sym old) (there.1, tt);
      }

  members_same : (wave : Option (ℕ × ℕ)) → option_map_or (λ w. is_full groups (first_window whole cut) w.0 w.1) wave true ≡ true → SameNeeds whole cut (option_map_or (λ w. map (member_need whole w.0 w.1) (group_of groups w.0)) wave []) (option_map_or (λ w. map (member_need (first_window whole cut) w.0 w.1) (group_of groups w.0)) wave [])
  members_same None full = same_none whole cut
  members_same (Some (comm, wave)) full =
      same_each whole cut (member_need whole comm wave) (member_need (first_window whole cut) comm wave) (group_of groups comm)
      (λ member there. member_same comm wave member (all_among (λ r. is_some (place_in_wave (first_window whole cut) comm wave r)) (group_of groups comm) member full there))

  wave_same : (place : ℕ) (call : Call) → Stays place call → SameNeeds whole cut (wave_needs groups whole rank place) (wave_needs groups (first_window whole cut) rank place)
  wave_same place call h =
      let same : wave_of whole rank place ≡ wave_of (first_window whole cut) rank place = rw (in_first place call h, call_before whole cut rank place call h.there) (by_comm (joins call) refl) in
      subst (λ (wave : Option (ℕ × ℕ)). SameNeeds whole cut (option_map_or (λ w. map (member_need whole w.0 w.1) (group_of groups w.0)) wave []) (wave_needs groups (first_window whole cut) rank place)) (sym same)
      (members_same (wave_of (first_window whole cut) rank place) (has_all_there place call h).wave)
    where
      by_comm : (o : Option ℕ) → joins call ≡ o → option_map {U = ℕ × ℕ} (λ comm. (comm, count_before (does_join comm) (calls_of whole rank) place)) o ≡ option_map (λ comm. (comm, count_before (does_join comm) (calls_of (first_window whole cut) rank) place)) o
      by_comm None is = refl
      by_comm (Some comm) is =
          let joins_it : does_join comm call ≡ true = rw is (eq-eqb comm comm refl) in
          ap (λ (n : ℕ). Some (comm, n))
          (number_in_first whole cut (does_join comm) (does_join comm) rank place call (joins_alone comm)
          (none_moved (does_join comm) (cut.moves rank) (before_cut whole cut rank) (receives_join_none comm)) is_rank h.there h.stays joins_it)

  sends_same : (place : ℕ) (call : Call) (freely : Bool) → Stays place call → SameNeeds whole cut (if freely then [] else half_needs groups whole rank place SendHalf call) (if freely then [] else half_needs groups (first_window whole cut) rank place SendHalf call)
  sends_same place call true h = same_none whole cut
  sends_same place call false h = half_same place SendHalf call (message_of SendHalf call) h refl

  pub operation_same : (place : ℕ) (call : Call) → Stays place call → SameNeeds whole cut (operation_needs reading groups whole rank place call) (operation_needs reading groups (first_window whole cut) rank place call)
  operation_same place call h =
      same_both whole cut _ _ (wave_needs groups whole rank place) (wave_needs groups (first_window whole cut) rank place)
      (same_both whole cut _ _ (probe_needs groups whole rank place call) (probe_needs groups (first_window whole cut) rank place call)
      (same_both whole cut _ _ (half_needs groups whole rank place RecvHalf call) (half_needs groups (first_window whole cut) rank place RecvHalf call)
      (sends_same place call (sends_freely reading call) h)
      (half_same place RecvHalf call (message_of RecvHalf call) h refl))
      (probe_same place call (probed_message call) h refl))
      (wave_same place call h)

  pub operation_at_same : (place : ℕ) (call : Call) → Stays place call → SameNeeds whole cut (operation_needs_at reading groups whole rank place) (operation_needs_at reading groups (first_window whole cut) rank place)
  operation_at_same place call h =
      subst (λ (o : Option Call). SameNeeds whole cut (option_map_or (operation_needs reading groups whole rank place) o []) (operation_needs_at reading groups (first_window whole cut) rank place)) (sym (call_before whole cut rank place call h.there))
      (subst (λ (o : Option Call). SameNeeds whole cut (operation_needs reading groups whole rank place call) (option_map_or (operation_needs reading groups (first_window whole cut) rank place) o [])) (sym (in_first place call h))
      (operation_same place call h))

  request_same : (place : ℕ) (wait : Call) (req : ℕ) → slice_get (before_cut whole cut rank) place ≡ Some wait → does_complete req wait ≡ true → SameNeeds whole cut (request_needs reading groups whole rank place req) (request_needs reading groups (first_window whole cut) rank place req)
  request_same place wait req there ends =
      let within : place ≤ length (before_cut whole cut rank) = omega (arith, slice_get_within (before_cut whole cut rank) place wait there) in
      let own : started_before whole rank place req ≡ started_in (take place (before_cut whole cut rank)) req = ap (λ (calls : List Call). started_in calls req) (take_before whole cut rank place within) in
      let first : started_before (first_window whole cut) rank place req ≡ started_in (take place (before_cut whole cut rank)) req =
      ap (λ (calls : List Call). started_in calls req) (take_in_first whole cut rank place is_rank within)
      ∙ started_alike (take place (first_calls (cut.moves rank) (before_cut whole cut rank))) (take place (before_cut whole cut rank)) req (first_alike (cut.moves rank) place (before_cut whole cut rank)) in
      subst (λ (o : Option ℕ). SameNeeds whole cut (option_map_or (operation_needs_at reading groups whole rank) o []) (request_needs reading groups (first_window whole cut) rank place req)) (sym own)
      (subst (λ (o : Option ℕ). SameNeeds whole cut (option_map_or (operation_needs_at reading groups whole rank) (started_in (take place (before_cut whole cut rank)) req) []) (option_map_or (operation_needs_at reading groups (first_window whole cut) rank) o [])) (sym first)
      (by_start (started_in (take place (before_cut whole cut rank)) req) refl))
    where
      in_taken : (calls : List Call) (n index : ℕ) (call : Call) → slice_get (take n calls) index ≡ Some call → (slice_get calls index ≡ Some call) × (index < n)
      in_taken calls zero index call h = absurd (none-some call h)
      in_taken [] (suc n) index call h = absurd (none-some call h)
      in_taken (one ∷ more) (suc n) zero call h = (h, omega arith)
      in_taken (one ∷ more) (suc n) (suc index) call h = let later = in_taken more n index call h in (later.0, omega (arith, later.1))

      by_start : (o : Option ℕ) → started_in (take place (before_cut whole cut rank)) req ≡ o → SameNeeds whole cut (option_map_or (operation_needs_at reading groups whole rank) o []) (option_map_or (operation_needs_at reading groups (first_window whole cut) rank) o [])
      by_start None is = same_none whole cut
      by_start (Some start) is =
          let at_start = started_at (take place (before_cut whole cut rank)) req start is in
          let standing = in_taken (before_cut whole cut rank) place start at_start.call at_start.stands_there in
          operation_at_same start at_start.call
          (record {
            there = standing.0;
            stays = completed_stays (cut.moves rank) (before_cut whole cut rank) req start place at_start.call wait there ends standing.1 at_start.starts_it;
          })

  -- what the call at the place needs
  pub needs_same : (place : ℕ) (call : Call) → slice_get (before_cut whole cut rank) place ≡ Some call → SameNeeds whole cut (needs_of reading groups whole rank place) (needs_of reading groups (first_window whole cut) rank place)
  needs_same place call there =
      subst (λ (o : Option Call). SameNeeds whole cut (option_map_or (needs_of_call reading groups whole rank place) o []) (needs_of reading groups (first_window whole cut) rank place)) (sym (call_before whole cut rank place call there))
      (subst (λ (o : Option Call). SameNeeds whole cut (needs_of_call reading groups whole rank place call) (option_map_or (needs_of_call reading groups (first_window whole cut) rank place) o [])) (sym (call_in_first whole cut rank place call is_rank there))
      (⊎_elim
      (λ (is : is_moved (cut.moves rank) call (drop (suc place) (before_cut whole cut rank)) ≡ true).
      let active = moved_active (cut.moves rank) call (drop (suc place) (before_cut whole cut rank)) is in
      let started = and_then_parts _ (starts call) active.0 active.1 in
      rw is (moved_same call started.0 started.1))
      (λ (no : is_moved (cut.moves rank) call (drop (suc place) (before_cut whole cut rank)) ≡ false).
      rw no (stays_same call (record { there = there; stays = no }) (is_some (starts call))))
      (cases_Bool (is_moved (cut.moves rank) call (drop (suc place) (before_cut whole cut rank))))))
    where
      moved_same : (c : Call) (req : ℕ) → starts c ≡ Some req → SameNeeds whole cut (needs_of_call reading groups whole rank place c) (needs_of_call reading groups (first_window whole cut) rank place (without_peer c))
      moved_same c req is =
          let moved : starts (without_peer c) ≡ Some req = without_starts c ∙ is in
          rw (is, moved) (same_none whole cut)
        where
          without_starts : (c : Call) → starts (without_peer c) ≡ starts c
          without_starts (Irecv req comm source tag) = refl
          without_starts _ = refl

      stays_same : (c : Call) → Stays place c → (starting : Bool) → SameNeeds whole cut (if starting then [] else operation_needs reading groups whole rank place c ++ flat_map (request_needs reading groups whole rank place) (completes c)) (if starting then [] else operation_needs reading groups (first_window whole cut) rank place c ++ flat_map (request_needs reading groups (first_window whole cut) rank place) (completes c))
      stays_same c h true = same_none whole cut
      stays_same c h false =
          same_both whole cut (operation_needs reading groups whole rank place c) (operation_needs reading groups (first_window whole cut) rank place c) _ _ (operation_same place c h)
          (same_all whole cut (request_needs reading groups whole rank place) (request_needs reading groups (first_window whole cut) rank place) (completes c)
          (λ req ends. request_same place c req h.there ends))
