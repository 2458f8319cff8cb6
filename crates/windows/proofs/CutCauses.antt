-- Why ranks are held in the whole recording, by the second window of a clean cut.
use Rattle.moves.specs.declared.reading.Reading.{Reading}
use Rattle.std.proofs.Common.{◌≡◌, ◌↔◌, ℕ, Bool, true, false, Option, Some, None, if◌then◌else◌, List, [], ◌∷◌, ◌++◌, length, map, refl, sym, ap, subst, ◌∙◌, ⊎_elim}
use Rattle.std.specs.Prelude.{find}
use Rattle.std.specs.List.{filter_map, range_with_len}
use Rattle.std.specs.Option.{option_map, option_and_then}
use Rattle.std.proofs.lemmas.Bool.{cases_Bool}
use Rattle.mpigroup.specs.Groups.{Groups}
use Rattle.callstore.specs.Recordings.{Lists}
use Rattle.moves.specs.declared.need.Need.{Need}
use Rattle.moves.specs.declared.need.Need.TheVariants.{At, Lacking}
use Rattle.waitgraph.specs.Stuck.{rank_needed, unmet_of}
use Rattle.waitgraph.specs.Held.{Set, is_missing, is_blocked, IsHeld}
use Rattle.waitgraph.specs.Causes.{CauseView, CycleOf, MissingOf, held_by, next_of, missing_of, IsCycle, AreCauses}
use Rattle.windows.specs.Cuts.{Cut, second_window, need_in_whole}

-- functions that agree are the same
same_function : {A B : Type 0} (f g : A → B) → ((x : A) → f x ≡ g x) → f ≡ g
same_function f g agree = λ i. λ x. agree x i

find_mapped : (f : Need → Need) (p q : Need → Bool) → ((need : Need) → p (f need) ≡ q need) → (needs : List Need) → find p (map f needs) ≡ option_map f (find q needs)
find_mapped f p q same [] = refl
find_mapped f p q same (need ∷ rest) =
    rw (same need)
    (⊎_elim
    (λ (is : q need ≡ true). rw is refl)
    (λ (no : q need ≡ false). rw no (find_mapped f p q same rest))
    (cases_Bool (q need)))

module _ (reading : Reading) (groups : Groups) (whole : Lists) (cut : Cut) (ranks : length whole ≡ length (second_window whole cut)) (missing_same : (need : Need) → is_missing whole (need_in_whole whole cut need) ≡ is_missing (second_window whole cut) need) (blocked_same : (set : Set) (need : Need) → is_blocked whole set (need_in_whole whole cut need) ≡ is_blocked (second_window whole cut) set need) (unmet_is : (rank : ℕ) → unmet_of reading groups whole rank ≡ map (need_in_whole whole cut) (unmet_of reading groups (second_window whole cut) rank)) (held_same : (rank : ℕ) → IsHeld reading groups whole rank ↔ IsHeld reading groups (second_window whole cut) rank) where
  by_same : (held : Set) (rank : ℕ) → held_by reading groups whole held rank ≡ option_map (need_in_whole whole cut) (held_by reading groups (second_window whole cut) held rank)
  by_same held rank =
      ap (find (is_blocked whole held)) (unmet_is rank)
      ∙ find_mapped (need_in_whole whole cut) (is_blocked whole held) (is_blocked (second_window whole cut) held) (blocked_same held) (unmet_of reading groups (second_window whole cut) rank)

  rank_same : (need : Need) → rank_needed (need_in_whole whole cut need) ≡ rank_needed need
  rank_same (At rank place) = refl
  rank_same (Lacking rank) = refl

  next_same : (held : Set) → next_of reading groups whole held ≡ next_of reading groups (second_window whole cut) held
  next_same held =
      same_function (next_of reading groups whole held) (next_of reading groups (second_window whole cut) held)
      (λ rank.
      ap (λ (o : Option Need). option_and_then (λ need. if is_missing whole need then None else Some (rank_needed need)) o) (by_same held rank)
      ∙ by_need (held_by reading groups (second_window whole cut) held rank))
    where
      by_need : (o : Option Need) → option_and_then {U = ℕ} (λ need. if is_missing whole need then None else Some (rank_needed need)) (option_map (need_in_whole whole cut) o) ≡ option_and_then (λ need. if is_missing (second_window whole cut) need then None else Some (rank_needed need)) o
      by_need None = refl
      by_need (Some need) = rw (missing_same need, rank_same need) refl

  lacked_same : (held : Set) → missing_of reading groups whole held ≡ missing_of reading groups (second_window whole cut) held
  lacked_same held =
      same_function (missing_of reading groups whole held) (missing_of reading groups (second_window whole cut) held)
      (λ rank.
      ap (λ (o : Option Need). option_and_then (λ need. if is_missing whole need then Some (MissingOf rank (rank_needed need)) else None) o) (by_same held rank)
      ∙ by_need rank (held_by reading groups (second_window whole cut) held rank))
    where
      by_need : (rank : ℕ) (o : Option Need) → option_and_then {U = CauseView} (λ need. if is_missing whole need then Some (MissingOf rank (rank_needed need)) else None) (option_map (need_in_whole whole cut) o) ≡ option_and_then (λ need. if is_missing (second_window whole cut) need then Some (MissingOf rank (rank_needed need)) else None) o
      by_need rank None = refl
      by_need rank (Some need) = rw (missing_same need, rank_same need) refl

  -- so the causes are the same
  pub causes_same : (causes : List CauseView) → AreCauses reading groups whole causes ↔ AreCauses reading groups (second_window whole cut) causes
  causes_same causes = (to, from)
    where
      both : {P Q R : Type 0} → P ↔ Q → Q ↔ R → P ↔ R
      both one two = (λ p. two.0 (one.0 p), λ r. one.1 (two.1 r))

      turned : {P Q : Type 0} → P ↔ Q → Q ↔ P
      turned one = (one.1, one.0)

      to : AreCauses reading groups whole causes → AreCauses reading groups (second_window whole cut) causes
      to are = record {
        held = are.held;
        are_held = λ rank. both (are.are_held rank) (held_same rank);
        rest_of = are.rest_of;
        are_cycles = subst (λ (next : ℕ → Option ℕ). (low : ℕ) (rest : List ℕ) → (are.rest_of low ≡ Some rest) ↔ IsCycle next low rest) (next_same are.held) are.are_cycles;
        are_all =
            subst (λ (n : ℕ). causes ≡ filter_map (λ low. option_map (λ rest. CycleOf (low ∷ rest)) (are.rest_of low)) (range_with_len 0 n) ++ filter_map (missing_of reading groups (second_window whole cut) are.held) (range_with_len 0 n)) ranks
            (subst (λ (lacked : ℕ → Option CauseView). causes ≡ filter_map (λ low. option_map (λ rest. CycleOf (low ∷ rest)) (are.rest_of low)) (range_with_len 0 (length whole)) ++ filter_map lacked (range_with_len 0 (length whole))) (lacked_same are.held) are.are_all);
      }

      from : AreCauses reading groups (second_window whole cut) causes → AreCauses reading groups whole causes
      from are = record {
        held = are.held;
        are_held = λ rank. both (are.are_held rank) (turned (held_same rank));
        rest_of = are.rest_of;
        are_cycles = subst (λ (next : ℕ → Option ℕ). (low : ℕ) (rest : List ℕ) → (are.rest_of low ≡ Some rest) ↔ IsCycle next low rest) (sym (next_same are.held)) are.are_cycles;
        are_all =
            subst (λ (n : ℕ). causes ≡ filter_map (λ low. option_map (λ rest. CycleOf (low ∷ rest)) (are.rest_of low)) (range_with_len 0 n) ++ filter_map (missing_of reading groups whole are.held) (range_with_len 0 n)) (sym ranks)
            (subst (λ (lacked : ℕ → Option CauseView). causes ≡ filter_map (λ low. option_map (λ rest. CycleOf (low ∷ rest)) (are.rest_of low)) (range_with_len 0 (length (second_window whole cut))) ++ filter_map lacked (range_with_len 0 (length (second_window whole cut)))) (sym (lacked_same are.held)) are.are_all);
      }
