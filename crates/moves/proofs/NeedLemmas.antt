-- The rule of MPI's calls: who can move goes on to be able to, and over a longer recording too.
use Rattle.moves.specs.declared.reading.Reading.{Reading}
use Rattle.std.proofs.Common.{◌≡◌, ℕ, zero, suc, Bool, true, false, not, ◌&&◌, Option, Some, None, List, [], ◌∷◌, length, map, get_or, refl, subst, ◌∙◌, arith, ap}
use Rattle.std.specs.List.{slice_get, list_all}
use Rattle.std.specs.Option.{option_map_or}
use Rattle.std.proofs.lemmas.Option.{slice_get_within}
use Rattle.std.proofs.lemmas.Bool.{and_parts, false≢true, leb-true, le-leb}
use Rattle.mpicall.specs.Ending.{ends_list}
use Rattle.mpicall.specs.declared.call.Call.{Call}
use Rattle.mpigroup.specs.Groups.{Groups}
use Rattle.callstore.specs.Recordings.{Lists, calls_of, GoesOn}
use Rattle.moves.specs.Runs.{State, StandsNoLater, IsPersistent, IsBounded}
use Rattle.moves.specs.declared.need.Need.{Need}
use Rattle.moves.specs.declared.need.Need.TheVariants.{At, Lacking}
use Rattle.moves.specs.Needs.{needs_of_call, needs_of, is_met, may_pass, can_move}
use Rattle.callstore.specs.Places.{places}
use Rattle.callstore.proofs.PlaceLemmas.{places-append}
use Rattle.moves.proofs.OntoLemmas.{nth_need, Onto, needs_onto}
use Rattle.moves.proofs.StayLemmas.{first_calls_stay, call_stays, start_is_a_call}

-- a need that is met stays met as stands rise
met_stays : (s t : State) (need : Need) → StandsNoLater s t → is_met s need ≡ true → is_met t need ≡ true
met_stays s t (At rank place) below h =
    le-leb place (get_or t rank 0) (omega (arith, below.stands rank, leb-true place (get_or s rank 0) h))
met_stays s t (Lacking rank) below h = h

all_met_stay : (s t : State) (needs : List Need) → StandsNoLater s t → list_all (is_met s) needs ≡ true → list_all (is_met t) needs ≡ true
all_met_stay s t [] below h = refl
all_met_stay s t (need ∷ needs) below h =
    let both = and_parts (is_met s need) (list_all (is_met s) needs) h in
    rw (met_stays s t need below both.0) (all_met_stay s t needs below both.1)

-- whether a rank can move, by its stand
can_at : Reading → Groups → Lists → State → ℕ → ℕ → Bool
can_at reading groups recording stands rank stand = may_pass (slice_get (calls_of recording rank) stand) && list_all (is_met stands) (needs_of reading groups recording rank stand)

pub can_move_is_persistent : (reading : Reading) (groups : Groups) (recording : Lists) → IsPersistent (can_move reading groups recording)
unfolding can_at
can_move_is_persistent reading groups recording s t rank below same h =
    let both = and_parts (may_pass (slice_get (calls_of recording rank) (get_or s rank 0))) (list_all (is_met s) (needs_of reading groups recording rank (get_or s rank 0))) h in
    let there : can_at reading groups recording t rank (get_or s rank 0) ≡ true =
    rw both.0 (all_met_stay s t (needs_of reading groups recording rank (get_or s rank 0)) below both.1) in
    subst (λ (stand : ℕ). can_at reading groups recording t rank stand ≡ true) same there

-- the present call of a rank that can move
pub record CanPass (reading : Reading) (groups : Groups) (recording : Lists) (stands : State) (rank : ℕ) : Type 0 where
  pub call : Call
  pub is_present : slice_get (calls_of recording rank) (get_or stands rank 0) ≡ Some call
  pub is_no_end : ends_list call ≡ false
  pub needs_met : list_all (is_met stands) (needs_of_call reading groups recording rank (get_or stands rank 0) call) ≡ true

pass_parts : (reading : Reading) (groups : Groups) (recording : Lists) (stands : State) (rank : ℕ) (present : Option Call) → slice_get (calls_of recording rank) (get_or stands rank 0) ≡ present → (may_pass present && list_all (is_met stands) (option_map_or (needs_of_call reading groups recording rank (get_or stands rank 0)) present [])) ≡ true → CanPass reading groups recording stands rank
pass_parts reading groups recording stands rank None h can = cc
pass_parts reading groups recording stands rank (Some call) h can =
    let both = and_parts (not (ends_list call)) (list_all (is_met stands) (needs_of_call reading groups recording rank (get_or stands rank 0) call)) can in
    record { call = call; is_present = h; is_no_end = not_true (ends_list call) both.0; needs_met = both.1 }
  where
    not_true : (b : Bool) → not b ≡ true → b ≡ false
    not_true true h = cc
    not_true false h = refl

pub can_pass : (reading : Reading) (groups : Groups) (recording : Lists) (stands : State) (rank : ℕ) → can_move reading groups recording stands rank ≡ true → CanPass reading groups recording stands rank
can_pass reading groups recording stands rank h = pass_parts reading groups recording stands rank (slice_get (calls_of recording rank) (get_or stands rank 0)) refl h

-- and back
pub can_from_pass : (reading : Reading) (groups : Groups) (recording : Lists) (stands : State) (rank : ℕ) → CanPass reading groups recording stands rank → can_move reading groups recording stands rank ≡ true
can_from_pass reading groups recording stands rank h = rw (h.is_present, h.is_no_end, h.needs_met) refl

-- a list's length, among the lengths of all
pub length_of_calls : (recording : Lists) (rank : ℕ) → get_or (map length recording) rank 0 ≡ length (calls_of recording rank)
length_of_calls [] rank = refl
length_of_calls (calls ∷ recording) zero = refl
length_of_calls (calls ∷ recording) (suc rank) = length_of_calls recording rank

pub can_move_is_bounded : (reading : Reading) (groups : Groups) (recording : Lists) → IsBounded (can_move reading groups recording) (map length recording)
can_move_is_bounded reading groups recording s rank h =
    let pass = can_pass reading groups recording s rank h in
    rw (length_of_calls recording rank) (slice_get_within (calls_of recording rank) (get_or s rank 0) pass.call pass.is_present)

-- what is met over a recording is met over each longer one
onto_longer : (recording longer : Lists) (stands : State) → GoesOn recording longer → Onto recording longer (is_met stands) (is_met stands)
onto_longer recording longer stands goes_on = record { nth = λ test rank number fails h. nth_on test rank number (slice_get (places test (calls_of recording rank)) number) refl h; none = λ rank h. h }
  where
    nth_on : (test : Call → Bool) (rank number : ℕ) (o : Option ℕ) → slice_get (places test (calls_of recording rank)) number ≡ o → is_met stands (option_map_or (At rank) o (Lacking rank)) ≡ true → is_met stands (nth_need longer test rank number) ≡ true
    nth_on test rank number None is h = absurd (false≢true h)
    nth_on test rank number (Some place) is h =
        ap (λ (o : Option ℕ). is_met stands (option_map_or (At rank) o (Lacking rank)))
        (ap (λ (calls : List Call). slice_get (places test calls) number) (goes_on.goes_on rank) ∙ places-append 0 test (calls_of recording rank) (goes_on.more rank) number place is)
        ∙ h

-- who can move over a recording can move over each longer one
pub can_move_on : (reading : Reading) (groups : Groups) (recording longer : Lists) (stands : State) (rank : ℕ) → GoesOn recording longer → can_move reading groups recording stands rank ≡ true → can_move reading groups longer stands rank ≡ true
can_move_on reading groups recording longer stands rank goes_on h =
    let pass = can_pass reading groups recording stands rank h in
    let within = slice_get_within (calls_of recording rank) (get_or stands rank 0) pass.call pass.is_present in
    can_from_pass reading groups longer stands rank
    (record {
      call = pass.call;
      is_present = call_stays recording longer rank (get_or stands rank 0) goes_on within ∙ pass.is_present;
      is_no_end = pass.is_no_end;
      needs_met = needs_onto reading reading groups recording longer (is_met stands) (is_met stands) rank (length (calls_of recording rank)) (λ call e. e) (onto_longer recording longer stands goes_on)
          (record { call = λ place inside. call_stays recording longer rank place goes_on inside; front = λ place inside. first_calls_stay recording longer rank place goes_on inside })
          (get_or stands rank 0) pass.call within (start_is_a_call recording rank (get_or stands rank 0)) pass.is_present pass.needs_met;
    })
