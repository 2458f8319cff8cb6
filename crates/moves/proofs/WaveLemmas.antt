-- How far waves are once a rank has reached its call of one.
use Rattle.std.proofs.Common.{◌≡◌, ℕ, zero, suc, ◌+◌, ◌<◌, ◌≤◌, ◌≢◌, true, false, Option, Some, None, List, [], ◌∷◌, length, take, get_or, set, refl, sym, ap, subst, ◌∙◌, ⊎_elim, arith, get_or-set_same, get_or-set_other}
use Rattle.std.specs.List.{slice_get}
use Rattle.std.specs.Option.{option_map, option_map_or}
use Rattle.std.proofs.lemmas.List.{length-set, length-take}
use Rattle.std.proofs.lemmas.Option.{none-some, same_Some, some_pair_parts, slice_get_within, slice_get-get_or}
use Rattle.std.proofs.lemmas.Bool.{cases_eq, cases_lt, false≢true, leb-true, le-leb}
use Rattle.mpigroup.specs.Groups.{Groups, group_of, world_rank_of}
use Rattle.callstore.specs.Recordings.{Lists, calls_of}
use Rattle.callstore.specs.Places.{places_from, count_before}
use Rattle.callstore.specs.Waves.{joins, does_join, place_in_wave, wave_of}
use Rattle.callstore.proofs.OptionLemmas.{and_then_parts, map_parts}
use Rattle.callstore.proofs.PlacesLemmas.{places_most}
use Rattle.callstore.proofs.PlaceLemmas.{places_rise}
use Rattle.callstore.proofs.WaveLemmas.{the_call_in_a_wave_joins_it}
use Rattle.moves.specs.Runs.{State}
use Rattle.moves.specs.declared.need.Need.TheVariants.{At, Lacking}
use Rattle.moves.specs.declared.progress.Progress.{Progress}
use Rattle.moves.specs.Needs.{member_need, is_met}
use Rattle.moves.specs.inner.Waiting.{HasJoined, complete_of, met_of, AreWaves, IsNoException}

-- a member whose need is met has joined, and back
joined_there : (recording : Lists) (s : State) (comm wave member : ℕ) (there : Option ℕ) → place_in_wave recording comm wave member ≡ there → is_met s (option_map_or (At member) there (Lacking member)) ≡ true → HasJoined recording s comm wave member
joined_there recording s comm wave member None e h = absurd (false≢true h)
joined_there recording s comm wave member (Some place) e h = (place, e, leb-true place (get_or s member 0) h)

pub met_joined : (recording : Lists) (s : State) (comm wave member : ℕ) → is_met s (member_need recording comm wave member) ≡ true → HasJoined recording s comm wave member
met_joined recording s comm wave member h = joined_there recording s comm wave member (place_in_wave recording comm wave member) refl h

pub joined_met : (recording : Lists) (s : State) (comm wave member : ℕ) → HasJoined recording s comm wave member → is_met s (member_need recording comm wave member) ≡ true
joined_met recording s comm wave member h = rw h.1 (le-leb h.0 (get_or s member 0) h.2)

unmet_not_joined : (recording : Lists) (s : State) (comm wave member : ℕ) → is_met s (member_need recording comm wave member) ≡ false → HasJoined recording s comm wave member → ⊥
unmet_not_joined recording s comm wave member h joined = false≢true (sym h ∙ joined_met recording s comm wave member joined)

-- who has joined a wave has joined those before it
pub earlier_place : (ps : List ℕ) (k k' p' : ℕ) → k ≤ k' → slice_get ps k' ≡ Some p' → (p : ℕ) × (slice_get ps k ≡ Some p)
earlier_place [] k k' p' less h = absurd (none-some p' h)
earlier_place (p ∷ ps) zero k' p' less h = (p, refl)
earlier_place (p ∷ ps) (suc k) zero p' less h = absurd (omega arith)
earlier_place (p ∷ ps) (suc k) (suc k') p' less h = earlier_place ps k k' p' (omega arith) h

pub joined_before : (recording : Lists) (s : State) (comm wave later member : ℕ) → wave ≤ later → HasJoined recording s comm later member → HasJoined recording s comm wave member
joined_before recording s comm wave later member less h =
    let there = earlier_place (places_from 0 (does_join comm) (calls_of recording member)) wave later h.0 less h.1 in
    ⊎_elim
    (λ (same : wave ≡ later). rw same h)
    (λ (other : wave ≢ later).
    let rise = places_rise 0 (does_join comm) (calls_of recording member) wave later there.0 h.0 (omega arith) there.1 h.1 in
    (there.0, there.1, omega (arith, rise, h.2)))
    (cases_eq wave later)

-- a communicator with a member is one of the groups
comm_there : (groups : Groups) (comm g rank : ℕ) → world_rank_of groups comm g ≡ Some rank → comm < length groups
comm_there [] comm g rank h = absurd (none-some rank h)
comm_there (group ∷ groups) zero g rank h = omega arith
comm_there (group ∷ groups) (suc comm) g rank h = omega (arith, comm_there groups comm g rank h)

pub comm_is : (groups : Groups) (comm g rank : ℕ) → world_rank_of groups comm g ≡ Some rank → (comm < length groups) × (g < length (group_of groups comm))
comm_is groups comm g rank h = (comm_there groups comm g rank h, slice_get_within (group_of groups comm) g rank h)

-- whom the waves except: the rank's call that was just reached
abbrev pub IsNew : Lists → Progress → ℕ → ℕ → ℕ → ℕ → Type 0
IsNew recording progress rank place comm member = (member ≡ rank) × (wave_of recording rank place ≡ Some (comm, complete_of progress comm))

pub fewer_excepted : (groups : Groups) (recording : Lists) (s : State) (progress : Progress) (E F : ℕ → ℕ → Type 0) → AreWaves groups recording s progress E → ((comm member : ℕ) → world_rank_of groups comm (met_of progress comm) ≡ Some member → E comm member → F comm member) → AreWaves groups recording s progress F
fewer_excepted groups recording s progress E F h on = record {
  completes = h.completes;
  meets = h.meets;
  done = h.done;
  met = h.met;
  next = λ comm some.
      let next = h.next comm some in
      (next.0, next.1, λ joined. on comm next.0 next.1 (next.2 joined));
}

-- The rank whose call was wanting has reached it. Then so have the members from it on up to some one.
pub record ReachesWanting (groups : Groups) (recording : Lists) (s : State) (progress : Progress) (rank place comm wave missing : ℕ) : Type 0 where
  pub before : AreWaves groups recording s progress (IsNew recording progress rank place)
  pub there : wave_of recording rank place ≡ Some (comm, wave)
  pub is_next : complete_of progress comm ≡ wave
  pub wanting : world_rank_of groups comm (met_of progress comm) ≡ Some rank
  pub stands_there : place ≡ get_or s rank 0
  pub least : met_of progress comm + 1 ≤ missing
  pub met : (g member : ℕ) → met_of progress comm + 1 ≤ g → g < missing → world_rank_of groups comm g ≡ Some member → is_met s (member_need recording comm wave member) ≡ true

passer_joined : (groups : Groups) (recording : Lists) (s : State) (progress : Progress) (rank place comm wave missing : ℕ) → ReachesWanting groups recording s progress rank place comm wave missing → HasJoined recording s comm wave rank
passer_joined groups recording s progress rank place comm wave missing p =
    (place, the_call_in_a_wave_joins_it recording rank place comm wave p.there, omega (arith, p.stands_there))

passed : (groups : Groups) (recording : Lists) (s : State) (progress : Progress) (rank place comm wave missing g member : ℕ) → ReachesWanting groups recording s progress rank place comm wave missing → g < missing → world_rank_of groups comm g ≡ Some member → HasJoined recording s comm wave member
passed groups recording s progress rank place comm wave missing g member p less is =
    ⊎_elim
    (λ (before : g < met_of progress comm). subst (λ (w : ℕ). HasJoined recording s comm w member) p.is_next (p.before.met comm g member before is))
    (λ (from : met_of progress comm ≤ g).
    ⊎_elim
    (λ (same : g ≡ met_of progress comm).
    let rank_is : rank ≡ member = same_Some rank member (sym p.wanting ∙ ap (world_rank_of groups comm) (sym same) ∙ is) in
    subst (λ (m : ℕ). HasJoined recording s comm wave m) rank_is (passer_joined groups recording s progress rank place comm wave missing p))
    (λ (other : g ≢ met_of progress comm). met_joined recording s comm wave member (p.met g member (omega arith) less is))
    (cases_eq g (met_of progress comm)))
    (cases_lt g (met_of progress comm))

-- another communicator's next member is not the one
other_comm : (groups : Groups) (recording : Lists) (s : State) (progress : Progress) (rank place comm wave missing other member : ℕ) → ReachesWanting groups recording s progress rank place comm wave missing → other ≢ comm → IsNew recording progress rank place other member → ⊥
other_comm groups recording s progress rank place comm wave missing other member p differs e =
    differs (sym (some_pair_parts comm other wave (complete_of progress other) (sym p.there ∙ e.1)).0)

pub passes_on : (groups : Groups) (recording : Lists) (s : State) (old new : Progress) (rank place comm wave missing : ℕ) → ReachesWanting groups recording s old rank place comm wave missing → missing < length (group_of groups comm) → ((member : ℕ) → world_rank_of groups comm missing ≡ Some member → is_met s (member_need recording comm wave member) ≡ false) → new.complete.items ≡ old.complete.items → new.met.items ≡ set old.met.items comm missing → AreWaves groups recording s new IsNoException
passes_on groups recording s old new rank place comm wave missing p some unmet complete met =
    let known = comm_is groups comm (met_of old comm) rank p.wanting in
    let same : (c : ℕ) → complete_of new c ≡ complete_of old c = λ c. ap (λ (xs : List ℕ). get_or xs c 0) complete in
    let here : met_of new comm ≡ missing = ap (λ (xs : List ℕ). get_or xs comm 0) met ∙ get_or-set_same old.met.items comm missing 0 (omega (arith, known.0, p.before.meets)) in
    let elsewhere : (c : ℕ) → c ≢ comm → met_of new c ≡ met_of old c = λ c differs. ap (λ (xs : List ℕ). get_or xs c 0) met ∙ get_or-set_other old.met.items comm c missing 0 differs in
    record {
      completes = ap (length {A = ℕ}) complete ∙ p.before.completes;
      meets = ap (length {A = ℕ}) met ∙ length-set old.met.items comm missing ∙ p.before.meets;
      done = λ c w g member before is. p.before.done c w g member (omega (arith, same c)) is;
      met = λ c g member before is.
          ⊎_elim
          (λ (e : c ≡ comm).
          let here_before : g < missing = omega (arith, ap (met_of new) e, here) in
          let is' : world_rank_of groups comm g ≡ Some member = subst (λ (k : ℕ). world_rank_of groups k g ≡ Some member) e is in
          rw (e, same comm, p.is_next) (passed groups recording s old rank place comm wave missing g member p here_before is'))
          (λ (differs : c ≢ comm). rw (same c) (p.before.met c g member (omega (arith, elsewhere c differs)) is))
          (cases_eq c comm);
      next = λ c some_member.
          ⊎_elim
          (λ (e : c ≡ comm).
          let member : ℕ = get_or (group_of groups comm) missing 0 in
          let is : world_rank_of groups comm missing ≡ Some member = slice_get-get_or (group_of groups comm) missing 0 some in
          rw e (member, rw here is, λ joined. unmet_not_joined recording s comm wave member (unmet member is) (rw (same comm, p.is_next) at joined)))
          (λ (differs : c ≢ comm).
          let next = p.before.next c some_member in
          (next.0, rw (elsewhere c differs) next.1, λ joined. other_comm groups recording s old rank place comm wave missing c next.0 p differs (next.2 (rw (same c) at joined))))
          (cases_eq c comm);
    }

pub passes_wave : (groups : Groups) (recording : Lists) (s : State) (old new : Progress) (rank place comm wave missing next : ℕ) → ReachesWanting groups recording s old rank place comm wave missing → length (group_of groups comm) ≤ missing → next ≤ length (group_of groups comm) → ((g member : ℕ) → 0 ≤ g → g < next → world_rank_of groups comm g ≡ Some member → is_met s (member_need recording comm (wave + 1) member) ≡ true) → ((member : ℕ) → world_rank_of groups comm next ≡ Some member → is_met s (member_need recording comm (wave + 1) member) ≡ false) → new.complete.items ≡ set old.complete.items comm (wave + 1) → new.met.items ≡ set old.met.items comm next → AreWaves groups recording s new IsNoException
passes_wave groups recording s old new rank place comm wave missing next p whole most met_next unmet complete met =
    let known = comm_is groups comm (met_of old comm) rank p.wanting in
    let here : met_of new comm ≡ next = ap (λ (xs : List ℕ). get_or xs comm 0) met ∙ get_or-set_same old.met.items comm next 0 (omega (arith, known.0, p.before.meets)) in
    let done_here : complete_of new comm ≡ wave + 1 = ap (λ (xs : List ℕ). get_or xs comm 0) complete ∙ get_or-set_same old.complete.items comm (wave + 1) 0 (omega (arith, known.0, p.before.completes)) in
    let elsewhere : (c : ℕ) → c ≢ comm → met_of new c ≡ met_of old c = λ c differs. ap (λ (xs : List ℕ). get_or xs c 0) met ∙ get_or-set_other old.met.items comm c next 0 differs in
    let same : (c : ℕ) → c ≢ comm → complete_of new c ≡ complete_of old c = λ c differs. ap (λ (xs : List ℕ). get_or xs c 0) complete ∙ get_or-set_other old.complete.items comm c (wave + 1) 0 differs in
    let not_all : next < length (group_of groups comm) =
    ⊎_elim
    (λ (less : next < length (group_of groups comm)). less)
    (λ (all : length (group_of groups comm) ≤ next).
    let joined = met_joined recording s comm (wave + 1) rank (met_next (met_of old comm) rank (omega arith) (omega (arith, known.1)) p.wanting) in
    let rise = places_rise 0 (does_join comm) (calls_of recording rank) wave (wave + 1) place joined.0 (omega arith) (the_call_in_a_wave_joins_it recording rank place comm wave p.there) joined.1 in
    absurd (omega (arith, rise, joined.2, p.stands_there)))
    (cases_lt next (length (group_of groups comm))) in
    record {
      completes = ap (length {A = ℕ}) complete ∙ length-set old.complete.items comm (wave + 1) ∙ p.before.completes;
      meets = ap (length {A = ℕ}) met ∙ length-set old.met.items comm next ∙ p.before.meets;
      done = λ c w g member before is.
          ⊎_elim
          (λ (e : c ≡ comm).
          let is' : world_rank_of groups comm g ≡ Some member = subst (λ (k : ℕ). world_rank_of groups k g ≡ Some member) e is in
          let in_group = comm_is groups comm g member is' in
          rw e (joined_before recording s comm w wave member (omega (arith, ap (complete_of new) e, done_here)) (passed groups recording s old rank place comm wave missing g member p (omega (arith, in_group.1)) is')))
          (λ (differs : c ≢ comm). p.before.done c w g member (omega (arith, same c differs)) is)
          (cases_eq c comm);
      met = λ c g member before is.
          ⊎_elim
          (λ (e : c ≡ comm).
          let is' : world_rank_of groups comm g ≡ Some member = subst (λ (k : ℕ). world_rank_of groups k g ≡ Some member) e is in
          rw (e, done_here) (met_joined recording s comm (wave + 1) member (met_next g member (omega arith) (omega (arith, ap (met_of new) e, here)) is')))
          (λ (differs : c ≢ comm). rw (same c differs) (p.before.met c g member (omega (arith, elsewhere c differs)) is))
          (cases_eq c comm);
      next = λ c some_member.
          ⊎_elim
          (λ (e : c ≡ comm).
          let member : ℕ = get_or (group_of groups comm) next 0 in
          let is : world_rank_of groups comm next ≡ Some member = slice_get-get_or (group_of groups comm) next 0 not_all in
          rw e (member, rw here is, λ joined. unmet_not_joined recording s comm (wave + 1) member (unmet member is) (rw done_here at joined)))
          (λ (differs : c ≢ comm).
          let it = p.before.next c some_member in
          (it.0, rw (elsewhere c differs) it.1, λ joined. other_comm groups recording s old rank place comm wave missing c it.0 p differs (it.2 (rw (same c differs) at joined))))
          (cases_eq c comm);
    }

-- the number of a wave is no more than the place of a call in it
pub wave_few : (recording : Lists) (rank place comm wave : ℕ) → wave_of recording rank place ≡ Some (comm, wave) → wave ≤ place
wave_few recording rank place comm wave h =
    let at_place = and_then_parts (λ call. option_map (λ joined. (joined, count_before (does_join joined) (calls_of recording rank) place)) (joins call)) (slice_get (calls_of recording rank) place) (comm, wave) h in
    let at_comm = map_parts (λ joined. (joined, count_before (does_join joined) (calls_of recording rank) place)) (joins at_place.0) (comm, wave) at_place.2 in
    let same = some_pair_parts at_comm.0 comm (count_before (does_join at_comm.0) (calls_of recording rank) place) wave (ap (λ (p : ℕ × ℕ). Some p) at_comm.2) in
    omega (arith, same.1, places_most 0 (does_join at_comm.0) (take place (calls_of recording rank)), length-take place (calls_of recording rank))
