-- A state that some run over a recording passes is passed by a run over each longer one; and the first publication,
-- and those that follow it, are passed.
use Rattle.moves.specs.declared.reading.Reading.{Reading}
use Rattle.std.proofs.Common.{◌≡◌, ◌⊎◌, ℕ, zero, suc, Option, Some, None, IfSome, Result, Ok, Err, OnOk, OnErr, All, List, [], ◌∷◌, ◌++◌, length, get_or, slice_get, inl, inr, sym, subst, ◌∙◌, ⊎_elim, arith}
use Rattle.std.proofs.Math.Logic.{∥∥₁_map}
use Rattle.std.proofs.lemmas.Grind.{merely}
use Rattle.std.proofs.lemmas.List.{length-replicate}
use Rattle.mpigroup.specs.declared.limits.TheConstants.{MOST_RANKS}
use mathlib.Core.List.{IsPrefix}
use Rattle.std.proofs.lemmas.Option.{same_Some}
use Rattle.std.proofs.lemmas.List.Elements.{All-push, All-head, All-tail}
use Rattle.std.proofs.lemmas.List.FromFn.{fill_by_all}
use Rattle.mpigroup.specs.Groups.{Groups}
use Rattle.callstore.specs.Recordings.{Lists, GoesOn}
use Rattle.moves.specs.Runs.{start}
use Rattle.moves.specs.Needs.{can_move}
use Rattle.moves.specs.Stands.{stands_of}
use Rattle.moves.proofs.RunLemmas.{get_start, reached_start}
use Rattle.moves.proofs.StandLemmas.{reached_on, every_maximal_run_ends_at_the_stands}
use Rattle.watches.specs.Stands.{shown_places, Passes, IsPassed, PassedStatesStayPassed}
use Rattle.watches.proofs.RisingLemmas.{last_among}
use Rattle.watches.specs.Publications.{ArePassed, Publishes, at_start, last_published}
use Rattle.watches.specs.declared.stands.Stands.{Stands}

passes_on : (reading : Reading) (groups : Groups) (recording longer : Lists) (places : List ℕ) → GoesOn recording longer → Passes reading groups recording places → Passes reading groups longer places
passes_on reading groups recording longer places more p = record {
  state = p.state;
  is_reached = reached_on reading groups recording longer p.state more p.is_reached;
  are_its_places = p.are_its_places;
}

pub passed_states_stay_passed : PassedStatesStayPassed
passed_states_stay_passed reading groups recording longer places more is = ∥∥₁_map is (passes_on reading groups recording longer places more)

pub passed_on : (reading : Reading) (groups : Groups) (recording longer : Lists) (list : List Stands) → GoesOn recording longer → ArePassed reading groups recording list → ArePassed reading groups longer list
passed_on reading groups recording longer list more are = λ k d below. passed_states_stay_passed reading groups recording longer _ more (are k d below)

-- some run passes the stands of now: each maximal one ends there
stands_passed : (reading : Reading) (groups : Groups) (recording : Lists) (places : List ℕ) → places ≡ shown_places (stands_of reading groups recording) → Passes reading groups recording places
stands_passed reading groups recording places are = record {
  state = stands_of reading groups recording;
  is_reached = (every_maximal_run_ends_at_the_stands reading groups recording).1.is_reached;
  are_its_places = are;
}

-- the list is as it was, or has one more
either_way : {A E : Type 0} (answer : Result A E) (stands : Stands) (old new : List Stands) → OnOk answer (Publishes stands old new) → OnErr answer (new ≡ old) → (new ≡ old ++ stands ∷ []) ⊎ (new ≡ old)
either_way (Ok told) stands old new done failed = ⊎_elim (λ (more : new ≡ old ++ stands ∷ []). inl more) (λ (same : (new ≡ old) × (last_published old ≡ Some stands)). inr same.0) done
either_way (Err fault) stands old new done failed = inr failed

pub still_passed : {A E : Type 0} (reading : Reading) (groups : Groups) (recording : Lists) (answer : Result A E) (stands : Stands) (old new : List Stands) → stands.places ≡ shown_places (stands_of reading groups recording) → OnOk answer (Publishes stands old new) → OnErr answer (new ≡ old) → ArePassed reading groups recording old → ArePassed reading groups recording new
still_passed reading groups recording answer stands old new are done failed were =
    ⊎_elim
    (λ (more : new ≡ old ++ stands ∷ []). rw more (All-push (λ (s : Stands). IsPassed reading groups recording s.places) old stands were (merely (stands_passed reading groups recording stands.places are))))
    (λ (same : new ≡ old). rw same were)
    (either_way answer stands old new done failed)

-- what a watch answers by

has_at : (P : Stands → Type 0) (list : List Stands) (place : ℕ) (stands : Stands) → slice_get list place ≡ Some stands → All P list → P stands
has_at P [] place stands is all = absurd cc
has_at P (x ∷ xs) zero stands is all = subst P (same_Some x stands is) (All-head P x xs all)
has_at P (x ∷ xs) (suc place) stands is all = has_at P xs place stands is (All-tail P x xs all)

one_has : (P : Stands → Type 0) (list : List Stands) (one : Option Stands) → IfSome one (λ stands. (place : ℕ) × (slice_get list place ≡ Some stands)) → All P list → IfSome one P
one_has P list None at all = tt
one_has P list (Some stands) at all = has_at P list at.0 stands at.1 all

-- the last of a prefix of what is passed is passed
pub last_passed : (reading : Reading) (groups : Groups) (recording : Lists) (seen list : List Stands) → IsPrefix seen list → ArePassed reading groups recording list → IfSome (last_published seen) (λ stands. IsPassed reading groups recording stands.places)
last_passed reading groups recording seen list begins are = one_has (λ (s : Stands). IsPassed reading groups recording s.places) list (last_published seen) (last_among seen list begins) are

-- at the opening

start_places : (ranks : ℕ) → at_start.places ≡ shown_places (start ranks)
unfolding shown_places at_start
start_places ranks = fill_by_all (λ k. get_or (start ranks) k 0) at_start.places MOST_RANKS 0 (length-replicate {A = ℕ} MOST_RANKS 0) (λ k below. get_start MOST_RANKS k ∙ sym (get_start ranks k))

start_passed : (reading : Reading) (groups : Groups) (recording : Lists) → Passes reading groups recording at_start.places
start_passed reading groups recording = record {
  state = start (length recording);
  is_reached = reached_start (can_move reading groups recording) (length recording);
  are_its_places = start_places (length recording);
}

pub first_passed : (reading : Reading) (groups : Groups) (recording : Lists) (list : List Stands) → list ≡ at_start ∷ [] → ArePassed reading groups recording list
first_passed reading groups recording list is =
    rw is (All-push (λ (s : Stands). IsPassed reading groups recording s.places) [] at_start (λ k d below. absurd (omega (arith, below))) (merely (start_passed reading groups recording)))
