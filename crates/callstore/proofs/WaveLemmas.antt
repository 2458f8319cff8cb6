-- The calls of a rank in waves.
use Rattle.std.proofs.Common.{◌≡◌, ℕ, ◌+◌, ◌<◌, true, false, eqb, Option, Some, None, List, length, get_or, take, refl, sym, ap, subst, ◌∙◌, arith}
use Rattle.std.specs.Prelude.{[], unwrap_or, is_some}
use Rattle.std.specs.List.{slice_get, list_all}
use Rattle.std.specs.Option.{option_map, option_map_or}
use Rattle.std.proofs.lemmas.List.Folds.{list_all_more, list_all_at}
use Rattle.std.proofs.lemmas.Option.{same_Some, some_pair_parts, slice_get-get_or}
use Rattle.std.proofs.lemmas.Bool.{eq-eqb}
use Rattle.mpicall.specs.declared.call.Call.{Call}
use Rattle.mpigroup.specs.Groups.{Groups, group_of, size_of}
use Rattle.callstore.specs.Recordings.{Lists, calls_of}
use Rattle.callstore.specs.Places.{count_before}
use Rattle.callstore.specs.Waves.{joins, does_join, wave_of, place_in_wave, member_of, is_full, AWaveHasOneCallOfEachRank, TheCallInAWaveJoinsIt, NoOtherCallIsInAWave, WavesStay}
use Rattle.callstore.proofs.OptionLemmas.{and_then_parts, map_parts, is_it}
use Rattle.callstore.proofs.PlaceLemmas.{nth_place, place_nth, places-append}

-- the test for a number passes where it is the number
it_is : (comm : ℕ) (o : Option ℕ) → o ≡ Some comm → option_map_or (λ other. eqb other comm) o false ≡ true
it_is comm o h = rw h (eq-eqb comm comm refl)

-- what it means that a call is in a wave
record InWave (recording : Lists) (rank place comm wave : ℕ) : Type 0 where
  pub call : Call
  pub stands_there : slice_get (calls_of recording rank) place ≡ Some call
  pub joins_it : joins call ≡ Some comm
  pub number : count_before (does_join comm) (calls_of recording rank) place ≡ wave

in_wave : (recording : Lists) (rank place comm wave : ℕ) → wave_of recording rank place ≡ Some (comm, wave) → InWave recording rank place comm wave
in_wave recording rank place comm wave h =
    let at_place = and_then_parts (λ call. option_map (λ joined. (joined, count_before (does_join joined) (calls_of recording rank) place)) (joins call)) (slice_get (calls_of recording rank) place) (comm, wave) h in
    let at_comm = map_parts (λ joined. (joined, count_before (does_join joined) (calls_of recording rank) place)) (joins at_place.0) (comm, wave) at_place.2 in
    let same = some_pair_parts at_comm.0 comm (count_before (does_join at_comm.0) (calls_of recording rank) place) wave (ap (λ (p : ℕ × ℕ). Some p) at_comm.2) in
    record {
      call = at_place.0;
      stands_there = at_place.1;
      joins_it = at_comm.1 ∙ ap (λ (m : ℕ). Some m) same.0;
      number = subst (λ (joined : ℕ). count_before (does_join joined) (calls_of recording rank) place ≡ wave) same.0 same.1;
    }

pub the_call_in_a_wave_joins_it : TheCallInAWaveJoinsIt
the_call_in_a_wave_joins_it recording rank place comm wave h =
    let own = in_wave recording rank place comm wave h in
    rw own.number at (place_nth 0 (does_join comm) (calls_of recording rank) place own.call own.stands_there (it_is comm (joins own.call) own.joins_it))
    ∙ ap (λ (m : ℕ). Some m) (omega arith)

pub no_other_call_is_in_a_wave : NoOtherCallIsInAWave
no_other_call_is_in_a_wave recording rank place comm wave h =
    let nth = nth_place 0 (does_join comm) (calls_of recording rank) wave place h in
    let same : nth.index ≡ place = omega (arith, nth.place) in
    let joined : joins nth.element ≡ Some comm = is_it comm (joins nth.element) nth.passes in
    let there : slice_get (calls_of recording rank) place ≡ Some nth.element = subst (λ (x : ℕ). slice_get (calls_of recording rank) x ≡ Some nth.element) same nth.stands_there in
    let number : count_before (does_join comm) (calls_of recording rank) place ≡ wave = subst (λ (x : ℕ). count_before (does_join comm) (calls_of recording rank) x ≡ wave) same nth.before in
    rw (there, joined, number) refl

pub a_wave_has_one_call_of_each_rank : AWaveHasOneCallOfEachRank
a_wave_has_one_call_of_each_rank recording rank place place' comm wave h h' =
    same_Some place place' (
    sym (the_call_in_a_wave_joins_it recording rank place comm wave h)
    ∙ the_call_in_a_wave_joins_it recording rank place' comm wave h'
    )

pub waves_stay : WavesStay
waves_stay recording longer comm wave rank place goes_on h =
    rw (goes_on.goes_on rank) (places-append 0 (does_join comm) (calls_of recording rank) (goes_on.more rank) wave place h)

-- as many members as the communicator's size
pub size_is : (groups : Groups) (comm : ℕ) → unwrap_or (size_of groups comm) 0 ≡ length (group_of groups comm)
size_is groups comm = by_group (slice_get groups comm)
  where
    by_group : (group : Option (List ℕ)) → unwrap_or (option_map length group) 0 ≡ length (unwrap_or group [])
    by_group None = refl
    by_group (Some group) = refl

-- the member's rank of the world
member_is : (groups : Groups) (recording : Lists) (comm wave g : ℕ) → g < length (group_of groups comm) → member_of groups recording comm wave g ≡ place_in_wave recording comm wave (get_or (group_of groups comm) g 0)
member_is groups recording comm wave g within = rw (slice_get-get_or (group_of groups comm) g 0 within) refl

-- one member on
pub full_more : (groups : Groups) (recording : Lists) (comm wave g : ℕ) → g < length (group_of groups comm) → list_all (λ rank. is_some (place_in_wave recording comm wave rank)) (take g (group_of groups comm)) ≡ true → is_some (member_of groups recording comm wave g) ≡ true → list_all (λ rank. is_some (place_in_wave recording comm wave rank)) (take (g + 1) (group_of groups comm)) ≡ true
full_more groups recording comm wave g within so_far here =
    let member : is_some (place_in_wave recording comm wave (get_or (group_of groups comm) g 0)) ≡ true = ap (λ (o : Option ℕ). is_some o) (sym (member_is groups recording comm wave g within)) ∙ here in
    list_all_more (λ rank. is_some (place_in_wave recording comm wave rank)) (group_of groups comm) g 0 within ∙ rw (so_far, member) refl

pub full_not : (groups : Groups) (recording : Lists) (comm wave g : ℕ) → g < length (group_of groups comm) → is_some (member_of groups recording comm wave g) ≡ false → is_full groups recording comm wave ≡ false
full_not groups recording comm wave g within here =
    let member : is_some (place_in_wave recording comm wave (get_or (group_of groups comm) g 0)) ≡ false = ap (λ (o : Option ℕ). is_some o) (sym (member_is groups recording comm wave g within)) ∙ here in
    list_all_at (λ rank. is_some (place_in_wave recording comm wave rank)) (group_of groups comm) g 0 within member
