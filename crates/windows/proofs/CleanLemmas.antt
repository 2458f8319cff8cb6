-- What a clean cut says of the calls in its first window: each message and each collective is whole there.
use Rattle.std.proofs.Common.{◌≡◌, ℕ, zero, suc, ◌+◌, ◌<◌, ◌≤◌, ◌==◌, Bool, true, false, not, ◌||◌, Option, Some, None, List, [], ◌∷◌, length, get_or, refl, sym, ap, ◌∙◌, ⊎_elim, arith}
use Rattle.std.specs.Prelude.{is_some, is_none}
use Rattle.std.specs.List.{slice_get, list_any, list_all, range_with_len}
use Rattle.std.specs.Option.{option_map, option_map_or}
use Rattle.std.proofs.lemmas.List.{length-take-le}
use Rattle.std.proofs.lemmas.List.Quantifiers.{position-Some}
use Rattle.std.proofs.lemmas.Option.{slice_get-get_or, slice_get_within}
use Rattle.std.proofs.lemmas.Bool.{cases_Bool, cases_eq, cases_lt, and_parts, false≢true, or_left, not-true, eqb-true, ltb-true}
use lib.Dec.{ltb}
use Rattle.mpicall.specs.declared.call.Call.{Call}
use Rattle.mpicall.specs.declared.call.Call.TheVariants.{Irecv, Finalize}
use Rattle.mpigroup.specs.Groups.{Groups, group_of, group_rank_of}
use Rattle.callstore.specs.declared.envelope.Envelope.{Envelope}
use Rattle.callstore.specs.declared.envelope.Half.{Half}
use Rattle.callstore.specs.declared.envelope.Message.{Message}
use Rattle.callstore.specs.declared.envelope.Half.TheVariants.{Send as SendHalf, Recv as RecvHalf}
use Rattle.callstore.specs.Recordings.{Lists, calls_of}
use Rattle.callstore.specs.Places.{places}
use Rattle.callstore.specs.Envelopes.{message_of, probed_message, envelope_by, envelope_of, same_envelope, has_envelope, other_half, rank_of_half}
use Rattle.callstore.specs.Requests.{is_among}
use Rattle.callstore.specs.Waves.{does_join, place_in_wave, is_full}
use Rattle.callstore.proofs.OptionLemmas.{and_then_parts}
use Rattle.callstore.proofs.WaveLemmas.{no_other_call_is_in_a_wave}
use Rattle.pairing.specs.Faults.{is_member}
use Rattle.pairing.specs.Partners.{places_of, partner_of}
use Rattle.pairing.specs.Probed.{probed_of}
use Rattle.pairing.proofs.PartnerLemmas.{has_it, same_envelope_refl, numbered_half}
use Rattle.windows.specs.Cuts.{Cut, before_cut, starts_receive, is_moved, first_calls, first_window}
use Rattle.pairing.specs.Met.{found_at, has_its_partner, sees_its_send, has_its_wave, has_all}
use Rattle.windows.specs.Clean.{takes, none_overtakes, are_in_turn, is_clean_at, is_clean}
use Rattle.windows.proofs.PlaceCuts.{count, has_place}
use Rattle.windows.proofs.CutLists.{FailsAlone, InTurn, any_there, first_length, moved_receives}
use Rattle.windows.proofs.CutWindows.{before_past, first_places, first_count}

-- ---- Tests of calls ----

pub half_alone : (groups : Groups) (rank : ℕ) (half : Half) (e : Envelope) → FailsAlone (has_envelope groups rank half e)
half_alone groups rank SendHalf e = record { sends = λ req. refl; receives = λ req comm. refl }
half_alone groups rank RecvHalf e = record { sends = λ req. refl; receives = λ req comm. refl }

pub joins_alone : (comm : ℕ) → FailsAlone (does_join comm)
joins_alone comm = record { sends = λ req. refl; receives = λ req own. refl }

pub half_last : (groups : Groups) (rank : ℕ) (half : Half) (e : Envelope) → has_envelope groups rank half e Finalize ≡ false
half_last groups rank SendHalf e = refl
half_last groups rank RecvHalf e = refl

-- a call that has the envelope passes the test for it
pub it_has : (e : Envelope) (o : Option Envelope) → o ≡ Some e → option_map_or (same_envelope e) o false ≡ true
it_has e o h = rw h (same_envelope_refl e)

-- what may not overtake a moved call with that half of the envelope
abbrev pub overtakes : Groups → ℕ → Half → Envelope → Call → Bool
overtakes groups rank SendHalf e call = has_envelope groups rank SendHalf e call
overtakes groups rank RecvHalf e call = takes groups rank e call

pub half_overtakes : (groups : Groups) (rank : ℕ) (half : Half) (e : Envelope) (call : Call) → has_envelope groups rank half e call ≡ true → overtakes groups rank half e call ≡ true
half_overtakes groups rank SendHalf e call h = h
half_overtakes groups rank RecvHalf e call h = or_left (has_envelope groups rank RecvHalf e call) _ h

-- no receive has what the test tells
pub none_moved : (test : Call → Bool) (moves : ℕ → Bool) (calls : List Call) → ((call : Call) → starts_receive call ≡ true → test call ≡ false) → InTurn test test moves calls
none_moved test moves [] none = tt
none_moved test moves (call ∷ rest) none = (
  λ is passes. absurd (false≢true (sym (none call (moved_receives moves call rest is)) ∙ passes)),
  none_moved test moves rest none,
)

pub receives_send_none : (groups : Groups) (rank : ℕ) (e : Envelope) (call : Call) → starts_receive call ≡ true → has_envelope groups rank SendHalf e call ≡ false
receives_send_none groups rank e (Irecv req comm source tag) is = refl
receives_send_none groups rank e _ is = absurd (false≢true is)

pub receives_join_none : (comm : ℕ) (call : Call) → starts_receive call ≡ true → does_join comm call ≡ false
receives_join_none comm (Irecv req own source tag) is = refl
receives_join_none comm _ is = absurd (false≢true is)

receives_in_turn : (groups : Groups) (rank : ℕ) (e : Envelope) (moves : ℕ → Bool) (calls : List Call) → are_in_turn groups rank moves calls ≡ true → InTurn (has_envelope groups rank RecvHalf e) (takes groups rank e) moves calls
receives_in_turn groups rank e moves [] h = tt
receives_in_turn groups rank e moves (call ∷ rest) h =
    let parts = and_parts (not (is_moved moves call rest) || none_overtakes groups rank call (first_calls moves rest)) (are_in_turn groups rank moves rest) h in (
      λ is passes.
          let none : none_overtakes groups rank call (first_calls moves rest) ≡ true = rw is at parts.0 in
          let own : envelope_of groups rank RecvHalf call ≡ Some e = has_it e (envelope_of groups rank RecvHalf call) passes in
          not-true (list_any (takes groups rank e) (first_calls moves rest)) (rw own at none),
      receives_in_turn groups rank e moves rest parts.1,
    )

pub halves_in_turn : (groups : Groups) (rank : ℕ) (half : Half) (e : Envelope) (moves : ℕ → Bool) (calls : List Call) → are_in_turn groups rank moves calls ≡ true → InTurn (has_envelope groups rank half e) (overtakes groups rank half e) moves calls
halves_in_turn groups rank SendHalf e moves calls h = none_moved (has_envelope groups rank SendHalf e) moves calls (receives_send_none groups rank e)
halves_in_turn groups rank RecvHalf e moves calls h = receives_in_turn groups rank e moves calls h

-- ---- Parts ----

-- what all numbers of a range pass, one of them passes
pub all_pass : (p : ℕ → Bool) (a n r : ℕ) → list_all p (range_with_len a n) ≡ true → a ≤ r → r < a + n → p r ≡ true
all_pass p a zero r all low high = absurd (omega arith)
all_pass p a (suc n) r all low high =
    let parts = and_parts (p a) (list_all p (range_with_len (a + 1) n)) all in
    ⊎_elim
    (λ (same : r ≡ a). rw same parts.0)
    (λ other. all_pass p (a + 1) n r parts.1 (omega (arith, other)) (omega (arith, other)))
    (cases_eq r a)

-- what all of a list pass, a number among them passes
pub all_among : (p : ℕ → Bool) (numbers : List ℕ) (number : ℕ) → list_all p numbers ≡ true → is_among number numbers ≡ true → p number ≡ true
all_among p [] number all there = absurd (false≢true there)
all_among p (first ∷ rest) number all there =
    let parts = and_parts (p first) (list_all p rest) all in
    ⊎_elim
    (λ (same : (first == number) ≡ true). rw (← eqb-true first number same) parts.0)
    (λ (other : (first == number) ≡ false). all_among p rest number parts.1 (rw other at there))
    (cases_Bool (first == number))

pub some_parts : {A : Type 0} (o : Option A) → is_some o ≡ true → (x : A) × (o ≡ Some x)
some_parts None h = absurd (false≢true h)
some_parts (Some x) h = (x, refl)

pub record CleanCut (groups : Groups) (whole : Lists) (cut : Cut) : Type 0 where
  pub within : (rank : ℕ) → rank < length whole → cut.place rank < length (calls_of whole rank)
  pub in_turn : (rank : ℕ) → are_in_turn groups rank (cut.moves rank) (before_cut whole cut rank) ≡ true
  pub all_there : (rank place : ℕ) → rank < length whole → place < length (before_cut whole cut rank) → has_all groups (first_window whole cut) rank place ≡ true

pub before_length : (groups : Groups) (whole : Lists) (cut : Cut) → CleanCut groups whole cut → (rank : ℕ) → rank < length whole → length (before_cut whole cut rank) ≡ cut.place rank
before_length groups whole cut clean rank is_rank =
    length-take-le (cut.place rank) (calls_of whole rank) (omega (arith, clean.within rank is_rank))

pub clean_parts : (groups : Groups) (whole : Lists) (cut : Cut) → is_clean groups whole cut ≡ true → CleanCut groups whole cut
clean_parts groups whole cut clean = record {
  within = λ rank is_rank. ltb-true (cut.place rank) (length (calls_of whole rank)) (one rank is_rank).0;
  in_turn = λ rank.
      ⊎_elim
      (λ (is_rank : rank < length whole). (one rank is_rank).1)
      (λ (past : length whole ≤ rank). rw (before_past whole cut rank past) refl)
      (cases_lt rank (length whole));
  all_there = λ rank place is_rank within.
      let few : length (before_cut whole cut rank) ≡ cut.place rank = length-take-le (cut.place rank) (calls_of whole rank) (omega (arith, ltb-true (cut.place rank) (length (calls_of whole rank)) (one rank is_rank).0)) in
      all_pass (has_all groups (first_window whole cut) rank) 0 (cut.place rank) place (one rank is_rank).2 (omega arith) (omega (arith, within, few));
}
  where
    one : (rank : ℕ) → rank < length whole → (ltb (cut.place rank) (length (calls_of whole rank)) ≡ true) × (are_in_turn groups rank (cut.moves rank) (before_cut whole cut rank) ≡ true) × (list_all (has_all groups (first_window whole cut) rank) (range_with_len 0 (cut.place rank)) ≡ true)
    one rank is_rank =
        let here : is_clean_at groups whole cut rank ≡ true = all_pass (is_clean_at groups whole cut) 0 (length whole) rank clean (omega arith) (omega (arith, is_rank)) in
        let outer = and_parts _ _ here in
        let inner = and_parts _ _ outer.0 in
        (inner.0, inner.1, outer.1)

-- the four parts of having all
pub record HasAll (groups : Groups) (recording : Lists) (rank place : ℕ) : Type 0 where
  pub partner : (half : Half) → has_its_partner groups recording rank place half ≡ true
  pub send : sees_its_send groups recording rank place ≡ true
  pub wave : has_its_wave groups recording rank place ≡ true

pub all_parts : (groups : Groups) (recording : Lists) (rank place : ℕ) → has_all groups recording rank place ≡ true → HasAll groups recording rank place
all_parts groups recording rank place h =
    let outer = and_parts _ _ h in
    let middle = and_parts _ _ outer.0 in
    let inner = and_parts _ _ middle.0 in
    record { partner = λ half. by_half half inner.0 inner.1; send = middle.1; wave = outer.1 }
  where
    by_half : (half : Half) → has_its_partner groups recording rank place SendHalf ≡ true → has_its_partner groups recording rank place RecvHalf ≡ true → has_its_partner groups recording rank place half ≡ true
    by_half SendHalf sent received = sent
    by_half RecvHalf sent received = received

-- where a call has a message, its half has its partner
pub partner_there : (groups : Groups) (recording : Lists) (rank place : ℕ) (half : Half) (call : Call) (m : Message) → slice_get (calls_of recording rank) place ≡ Some call → message_of half call ≡ Some m → has_its_partner groups recording rank place half ≡ true → is_some (partner_of groups recording rank place half) ≡ true
partner_there groups recording rank place half call m there sends h =
    by_told (found_at (message_of half) recording rank place) (is_some (partner_of groups recording rank place half)) (rw there sends) h
  where
    by_told : (o : Option Message) (there : Bool) → o ≡ Some m → (is_none o || there) ≡ true → there ≡ true
    by_told o there is all = rw is at all

-- where it probes for one, it sees its send
pub send_there : (groups : Groups) (recording : Lists) (rank place : ℕ) (call : Call) (m : Message) → slice_get (calls_of recording rank) place ≡ Some call → probed_message call ≡ Some m → sees_its_send groups recording rank place ≡ true → is_some (probed_of groups recording rank place) ≡ true
send_there groups recording rank place call m there probes h =
    by_told (found_at probed_message recording rank place) (is_some (probed_of groups recording rank place)) (rw there probes) h
  where
    by_told : (o : Option Message) (there : Bool) → o ≡ Some m → (is_none o || there) ≡ true → there ≡ true
    by_told o there is all = rw is at all

-- ---- As many sends as receives, and as many calls of each member ----

-- a rank with calls before the cut is one of the recording
pub rank_before : (whole : Lists) (cut : Cut) (rank place : ℕ) → place < length (before_cut whole cut rank) → rank < length whole
rank_before whole cut rank place within =
    ⊎_elim
    (λ (is_rank : rank < length whole). is_rank)
    (λ (past : length whole ≤ rank).
    let none : length (before_cut whole cut rank) ≡ 0 = ap length (before_past whole cut rank past) in
    absurd (omega (arith, within, none)))
    (cases_lt rank (length whole))

module _ (groups : Groups) (whole : Lists) (cut : Cut) (clean : CleanCut groups whole cut) where
  -- how many calls of the rank pass the test in the first window
  abbrev pub first_of : (Call → Bool) → ℕ → ℕ
  first_of test rank = count test (first_calls (cut.moves rank) (before_cut whole cut rank))

  half_most : (half : Half) (e : Envelope) (rank other : ℕ) → rank_of_half groups (other_half half) e ≡ Some other → first_of (has_envelope groups rank half e) rank ≤ first_of (has_envelope groups other (other_half half) e) other
  half_most half e rank other there =
      ⊎_elim
      (λ (fewer : first_of (has_envelope groups other (other_half half) e) other < first_of (has_envelope groups rank half e) rank).
      absurd (alone (first_of (has_envelope groups other (other_half half) e) other) fewer refl))
      (λ (enough : first_of (has_envelope groups rank half e) rank ≤ first_of (has_envelope groups other (other_half half) e) other). enough)
      (cases_lt (first_of (has_envelope groups other (other_half half) e) other) (first_of (has_envelope groups rank half e) rank))
    where
      alone : (number : ℕ) → number < first_of (has_envelope groups rank half e) rank → first_of (has_envelope groups other (other_half half) e) other ≡ number → ⊥
      alone number less is =
          let nth = has_place (has_envelope groups rank half e) (first_calls (cut.moves rank) (before_cut whole cut rank)) number less in
          let in_first : slice_get (places_of groups (first_window whole cut) rank half e) number ≡ Some nth.place = rw (first_places whole cut (has_envelope groups rank half e) rank (half_last groups rank half e)) nth.is_nth in
          let own = numbered_half groups (first_window whole cut) rank nth.place half e number in_first in
          let before : nth.place < length (before_cut whole cut rank) = omega (arith, nth.within, first_length (cut.moves rank) (before_cut whole cut rank)) in
          let all = all_parts groups (first_window whole cut) rank nth.place (clean.all_there rank nth.place (rank_before whole cut rank nth.place before) before) in
          let message = and_then_parts (λ m. option_map (envelope_by half m) (group_rank_of groups m.comm rank)) (message_of half own.0.call) e own.0.envelope in
          let partner = partner_there groups (first_window whole cut) rank nth.place half own.0.call message.0 own.0.stands_there message.1 (all.partner half) in
          let found : is_some (option_map (λ place. (other, place)) (slice_get (places_of groups (first_window whole cut) other (other_half half) e) number)) ≡ true = rw (own.0.stands_there, own.0.envelope, there, own.1) at partner in
          let one = some_mapped (slice_get (places_of groups (first_window whole cut) other (other_half half) e) number) found in
          let low = slice_get_within (places_of groups (first_window whole cut) other (other_half half) e) number one.0 one.1 in
          omega (arith, low, first_count whole cut (has_envelope groups other (other_half half) e) other (half_last groups other (other_half half) e), is)
        where
          some_mapped : (o : Option ℕ) → is_some (option_map {U = ℕ × ℕ} (λ place. (other, place)) o) ≡ true → (place : ℕ) × (o ≡ Some place)
          some_mapped None h = absurd (false≢true h)
          some_mapped (Some place) h = (place, refl)

  -- of each envelope the first window has as many sends as receives
  pub halves_same : (half : Half) (e : Envelope) (rank other : ℕ) → rank_of_half groups half e ≡ Some rank → rank_of_half groups (other_half half) e ≡ Some other → first_of (has_envelope groups rank half e) rank ≡ first_of (has_envelope groups other (other_half half) e) other
  halves_same SendHalf e rank other own there = omega (arith, half_most SendHalf e rank other there, half_most RecvHalf e other rank own)
  halves_same RecvHalf e rank other own there = omega (arith, half_most RecvHalf e rank other there, half_most SendHalf e other rank own)

  wave_most : (comm rank other : ℕ) → is_among other (group_of groups comm) ≡ true → first_of (does_join comm) rank ≤ first_of (does_join comm) other
  wave_most comm rank other member =
      ⊎_elim
      (λ (fewer : first_of (does_join comm) other < first_of (does_join comm) rank). absurd (alone (first_of (does_join comm) other) fewer refl))
      (λ (enough : first_of (does_join comm) rank ≤ first_of (does_join comm) other). enough)
      (cases_lt (first_of (does_join comm) other) (first_of (does_join comm) rank))
    where
      alone : (wave : ℕ) → wave < first_of (does_join comm) rank → first_of (does_join comm) other ≡ wave → ⊥
      alone wave less is =
          let nth = has_place (does_join comm) (first_calls (cut.moves rank) (before_cut whole cut rank)) wave less in
          let in_first : place_in_wave (first_window whole cut) comm wave rank ≡ Some nth.place = rw (first_places whole cut (does_join comm) rank refl) nth.is_nth in
          let own = no_other_call_is_in_a_wave (first_window whole cut) rank nth.place comm wave in_first in
          let before : nth.place < length (before_cut whole cut rank) = omega (arith, nth.within, first_length (cut.moves rank) (before_cut whole cut rank)) in
          let all = all_parts groups (first_window whole cut) rank nth.place (clean.all_there rank nth.place (rank_before whole cut rank nth.place before) before) in
          let full : is_full groups (first_window whole cut) comm wave ≡ true = rw own at all.wave in
          let there = some_parts (place_in_wave (first_window whole cut) comm wave other) (all_among (λ r. is_some (place_in_wave (first_window whole cut) comm wave r)) (group_of groups comm) other full member) in
          let low = slice_get_within (places (does_join comm) (calls_of (first_window whole cut) other)) wave there.0 there.1 in
          omega (arith, low, first_count whole cut (does_join comm) other refl, is)

  -- of each communicator each member has as many calls
  pub waves_same : (comm rank other : ℕ) → is_among rank (group_of groups comm) ≡ true → is_among other (group_of groups comm) ≡ true → first_of (does_join comm) rank ≡ first_of (does_join comm) other
  waves_same comm rank other own member = omega (arith, wave_most comm rank other member, wave_most comm other rank own)

-- a member stands in its group
pub member_among : (groups : Groups) (rank comm : ℕ) → is_member groups rank comm ≡ true → is_among rank (group_of groups comm) ≡ true
member_among groups rank comm h =
    let own = some_parts (group_rank_of groups comm rank) h in
    let found = position-Some (λ member. member == rank) (group_of groups comm) own.0 0 own.1 in
    any_there (λ member. member == rank) (group_of groups comm) own.0 (get_or (group_of groups comm) own.0 0) (slice_get-get_or (group_of groups comm) own.0 0 found.0) found.1
