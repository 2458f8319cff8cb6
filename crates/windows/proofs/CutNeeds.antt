-- What ranks lack in the whole recording, by what they lack in the two windows of a clean cut.
use Rattle.moves.specs.declared.reading.Reading.{Reading}
use Rattle.std.proofs.Common.{◌≡◌, ℕ, ◌<◌, ◌≤◌, ◌==◌, Bool, true, false, ◌&&◌, ◌||◌, List, [], ◌∷◌, ◌++◌, length, map, refl, sym, ap, subst, ◌∙◌, ⊎_elim, arith}
use Rattle.std.specs.Prelude.{nat_lt, slice_index}
use Rattle.std.specs.List.{filter, fold}
use Rattle.std.proofs.lemmas.List.{map-append}
use Rattle.std.proofs.lemmas.Bool.{cases_Bool, cases_lt, lt-ltb, le-ltb, eqb-true, leb-false}
use Rattle.mpigroup.specs.Groups.{Groups}
use Rattle.callstore.specs.Recordings.{Lists}
use Rattle.callstore.proofs.PlaceLemmas.{slice_get_there}
use Rattle.moves.specs.declared.need.Need.{Need}
use Rattle.moves.specs.declared.need.Need.TheVariants.{At, Lacking}
use Rattle.moves.specs.Runs.{State}
use Rattle.moves.specs.Needs.{needs_of, is_met}
use Rattle.waitgraph.specs.Stuck.{comes_before, with_need, needs_in_order, unmet_at}
use Rattle.windows.specs.Cuts.{Cut, before_cut, first_window, front_of, second_window, place_in_whole, need_in_whole}
use Rattle.windows.proofs.CleanLemmas.{CleanCut}
use Rattle.windows.proofs.FirstNeeds.{AreBefore, needs_same}
use Rattle.windows.proofs.SecondNeeds.{lacks, StandAlike, AreMembers, needs_shift}

module _ (whole : Lists) (cut : Cut) where
  -- each of the needs is for a call behind the front of the second window, or lacks one
  abbrev pub IsBehind : Need → Type 0
  IsBehind (At rank place) = length (front_of whole cut rank) ≤ place
  IsBehind (Lacking rank) = Unit {0}

  abbrev pub AreBehind : List Need → Type 0
  AreBehind [] = Unit {0}
  AreBehind (need ∷ rest) = IsBehind need × AreBehind rest

  -- ---- Order ----

  places_alike : (rank p q : ℕ) → length (front_of whole cut rank) ≤ p → length (front_of whole cut rank) ≤ q → nat_lt (place_in_whole whole cut rank p) (place_in_whole whole cut rank q) ≡ nat_lt p q
  places_alike rank p q low low_other =
      ⊎_elim
      (λ (less : p < q). lt-ltb (place_in_whole whole cut rank p) (place_in_whole whole cut rank q) (omega (arith, less, low, low_other)) ∙ sym (lt-ltb p q less))
      (λ (more : q ≤ p). le-ltb (place_in_whole whole cut rank p) (place_in_whole whole cut rank q) (omega (arith, more, low, low_other)) ∙ sym (le-ltb p q more))
      (cases_lt p q)

  both_ranks : (rank other : ℕ) (one two : Bool) → (rank ≡ other → one ≡ two) → (nat_lt rank other || (rank == other && one)) ≡ (nat_lt rank other || (rank == other && two))
  both_ranks rank other one two same =
      ⊎_elim
      (λ (is : (rank == other) ≡ true). rw (same (eqb-true rank other is)) refl)
      (λ (no : (rank == other) ≡ false). rw no refl)
      (cases_Bool (rank == other))

  order_same : (need other : Need) → IsBehind need → IsBehind other → comes_before (need_in_whole whole cut need) (need_in_whole whole cut other) ≡ comes_before need other
  order_same (At rank p) (At other q) low low_other =
      both_ranks rank other (nat_lt (place_in_whole whole cut rank p) (place_in_whole whole cut other q)) (nat_lt p q)
      (λ same. by_rank other same q low_other)
    where
      by_rank : (other : ℕ) → rank ≡ other → (q : ℕ) → length (front_of whole cut other) ≤ q → nat_lt (place_in_whole whole cut rank p) (place_in_whole whole cut other q) ≡ nat_lt p q
      by_rank other same q low_other =
          subst (λ (r : ℕ). nat_lt (place_in_whole whole cut rank p) (place_in_whole whole cut r q) ≡ nat_lt p q) same
          (places_alike rank p q low (subst (λ (r : ℕ). length (front_of whole cut r) ≤ q) (sym same) low_other))
  order_same (At rank p) (Lacking other) low low_other = refl
  order_same (Lacking rank) (At other q) low low_other = refl
  order_same (Lacking rank) (Lacking other) low low_other = refl

  behind-append : (needs more : List Need) → AreBehind needs → AreBehind more → AreBehind (needs ++ more)
  behind-append [] more h k = k
  behind-append (need ∷ rest) more h k = (h.0, behind-append rest more h.1 k)

  behind-filter : (p : Need → Bool) (needs : List Need) → AreBehind needs → AreBehind (filter p needs)
  behind-filter p [] h = tt
  behind-filter p (need ∷ rest) h =
      ⊎_elim
      (λ (is : p need ≡ true). rw is (h.0, behind-filter p rest h.1))
      (λ (no : p need ≡ false). rw no (behind-filter p rest h.1))
      (cases_Bool (p need))

  filter_shifted : (p q : Need → Bool) (needs : List Need) → AreBehind needs → ((need : Need) → IsBehind need → p (need_in_whole whole cut need) ≡ q need) → filter p (map (need_in_whole whole cut) needs) ≡ map (need_in_whole whole cut) (filter q needs)
  filter_shifted p q [] h same = refl
  filter_shifted p q (need ∷ rest) h same =
      rw (same need h.0)
      (⊎_elim
      (λ (is : q need ≡ true). rw is (ap (λ (more : List Need). need_in_whole whole cut need ∷ more) (filter_shifted p q rest h.1 same)))
      (λ (no : q need ≡ false). rw no (filter_shifted p q rest h.1 same))
      (cases_Bool (q need)))

  with_shifted : (needs : List Need) (need : Need) → AreBehind needs → IsBehind need → with_need (map (need_in_whole whole cut) needs) (need_in_whole whole cut need) ≡ map (need_in_whole whole cut) (with_need needs need)
  with_shifted needs need behind own =
      rw (
        filter_shifted (λ other. comes_before other (need_in_whole whole cut need)) (λ other. comes_before other need) needs behind (λ other there. order_same other need there own),
        filter_shifted (comes_before (need_in_whole whole cut need)) (comes_before need) needs behind (λ other there. order_same need other own there),
        map-append (need_in_whole whole cut) (filter (λ other. comes_before other need) needs) (need ∷ filter (comes_before need) needs),
      ) refl

  with_behind : (needs : List Need) (need : Need) → AreBehind needs → IsBehind need → AreBehind (with_need needs need)
  with_behind needs need behind own =
      behind-append (filter (λ other. comes_before other need) needs) (need ∷ filter (comes_before need) needs)
      (behind-filter (λ other. comes_before other need) needs behind) (own, behind-filter (comes_before need) needs behind)

  fold_shifted : (needs more : List Need) → AreBehind needs → AreBehind more → fold with_need (map (need_in_whole whole cut) needs) (map (need_in_whole whole cut) more) ≡ map (need_in_whole whole cut) (fold with_need needs more)
  fold_shifted needs [] behind h = refl
  fold_shifted needs (need ∷ rest) behind h =
      ap (λ (some : List Need). fold with_need some (map (need_in_whole whole cut) rest)) (with_shifted needs need behind h.0)
      ∙ fold_shifted (with_need needs need) rest (with_behind needs need behind h.0) h.1

  -- needs in order are in order with the shift
  in_order_shifted : (needs : List Need) → AreBehind needs → needs_in_order (map (need_in_whole whole cut) needs) ≡ map (need_in_whole whole cut) (needs_in_order needs)
  in_order_shifted needs h = fold_shifted [] needs tt h

  -- what is lacked in the second window is behind its front
  lacked_behind : (others : State) (needs : List Need) → ((rank : ℕ) → length (front_of whole cut rank) ≤ slice_index others rank) → AreBehind (filter (lacks others) needs)
  lacked_behind others [] far = tt
  lacked_behind others (Lacking rank ∷ rest) far = (tt, lacked_behind others rest far)
  lacked_behind others (At rank place ∷ rest) far =
      ⊎_elim
      (λ (is : is_met others (At rank place) ≡ true). rw is (lacked_behind others rest far))
      (λ (no : is_met others (At rank place) ≡ false). rw no (omega (arith, far rank, leb-false place (slice_index others rank) no), lacked_behind others rest far))
      (cases_Bool (is_met others (At rank place)))

-- ---- What is lacked behind the cut ----

module _ (reading : Reading) (groups : Groups) (whole : Lists) (cut : Cut) (clean : CleanCut groups whole cut) where
  module _ (members : AreMembers groups whole) (stands others : State) (alike : StandAlike whole cut stands others) where
    -- what a rank lacks of what its call needs
    pub lacked_shift : (rank : ℕ) → filter (lacks stands) (needs_of reading groups whole rank (slice_index stands rank)) ≡ map (need_in_whole whole cut) (filter (lacks others) (needs_of reading groups (second_window whole cut) rank (slice_index others rank)))
    lacked_shift rank =
        ap (λ (place : ℕ). filter (lacks stands) (needs_of reading groups whole rank place)) (alike.in_whole rank)
        ∙ needs_shift reading groups whole cut clean members stands others alike rank (alike.index rank)
        ∙ ap (λ (place : ℕ). map (need_in_whole whole cut) (filter (lacks others) (needs_of reading groups (second_window whole cut) rank place))) (sym (alike.in_second rank))

    pub unmet_shift : (rank : ℕ) → unmet_at reading groups whole stands rank ≡ map (need_in_whole whole cut) (unmet_at reading groups (second_window whole cut) others rank)
    unfolding unmet_at
    unmet_shift rank =
        ap needs_in_order (lacked_shift rank)
        ∙ in_order_shifted whole cut (filter (lacks others) (needs_of reading groups (second_window whole cut) rank (slice_index others rank)))
        (lacked_behind whole cut others (needs_of reading groups (second_window whole cut) rank (slice_index others rank)) (λ other. omega (arith, alike.in_second other)))

  -- ---- What is lacked before the cut ----

  -- a need for a call before the cut is one or the other
  lacked_alike : (stands others : State) (needs : List Need) → AreBefore whole cut needs → ((rank place : ℕ) → place < length (before_cut whole cut rank) → is_met stands (At rank place) ≡ is_met others (At rank place)) → filter (lacks stands) needs ≡ filter (lacks others) needs
  lacked_alike stands others [] before same = refl
  lacked_alike stands others (Lacking rank ∷ rest) before same = absurd before
  lacked_alike stands others (At rank place ∷ rest) before same =
      ⊎_elim
      (λ (is : is_met others (At rank place) ≡ true). let own = same rank place before.0 ∙ is in rw (own, is) (lacked_alike stands others rest before.1 same))
      (λ (no : is_met others (At rank place) ≡ false). let own = same rank place before.0 ∙ no in rw (own, no) (ap (λ (more : List Need). At rank place ∷ more) (lacked_alike stands others rest before.1 same)))
      (cases_Bool (is_met others (At rank place)))

  pub unmet_same : (stands others : State) (rank place : ℕ) → rank < length whole → place < length (before_cut whole cut rank) → slice_index stands rank ≡ place → slice_index others rank ≡ place → ((other p : ℕ) → p < length (before_cut whole cut other) → is_met stands (At other p) ≡ is_met others (At other p)) → unmet_at reading groups whole stands rank ≡ unmet_at reading groups (first_window whole cut) others rank
  unfolding unmet_at
  unmet_same stands others rank place is_rank low own there same =
      let call = slice_get_there (before_cut whole cut rank) place low in
      let needs = needs_same reading groups whole cut clean rank is_rank place call.0 call.1 in
      ap (λ (p : ℕ). needs_in_order (filter (lacks stands) (needs_of reading groups whole rank p))) own
      ∙ ap (λ (ns : List Need). needs_in_order (filter (lacks stands) ns)) needs.same
      ∙ ap needs_in_order (lacked_alike stands others (needs_of reading groups (first_window whole cut) rank place) needs.before same)
      ∙ ap (λ (p : ℕ). needs_in_order (filter (lacks others) (needs_of reading groups (first_window whole cut) rank p))) (sym there)
