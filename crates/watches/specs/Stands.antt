-- Stands as they are published: a place for each rank that a run may have. They are this project's own; MPI says
-- nothing of them.
use Rattle.mpicall.specs.Names.{Place}
use Rattle.moves.specs.declared.reading.Reading.{Reading}
use Rattle.std.specs.Prelude.{◌≡◌, ℕ, Bool, ◌&&◌, nat_le, nat_lt, List, length, map, sum, slice_index}
use Rattle.std.specs.List.{list_all, range_with_len}
use Rattle.mpigroup.specs.Groups.{Groups}
use Rattle.mpigroup.specs.declared.limits.TheConstants.{MOST_RANKS}
use Rattle.callstore.specs.Recordings.{Lists, GoesOn}
use Rattle.moves.specs.Runs.{State, IsReached}
use Rattle.moves.specs.Needs.{can_move}

-- the places of a state: each rank's stand, 0 where the run has no such rank
unfoldable pub shown_places : State → List Place
shown_places state = map (slice_index state) (range_with_len 0 MOST_RANKS)

-- no rank stands lower in the second
unfoldable pub is_no_lower : List ℕ → List ℕ → Bool
is_no_lower xs ys = list_all (λ rank. nat_le (slice_index xs rank) (slice_index ys rank)) (range_with_len 0 MOST_RANKS)

-- no rank stands lower in the second, and all together are further on
abbrev pub is_further : List ℕ → List ℕ → Bool
is_further xs ys = is_no_lower xs ys && nat_lt (sum xs) (sum ys)

-- a state that some run over the recording passes: the run up to it ends there
pub record Passes (reading : Reading) (groups : Groups) (recording : Lists) (places : List Place) : Type 0 where
  pub state : State
  pub is_reached : IsReached (can_move reading groups recording) (length recording) state
  pub are_its_places : places ≡ shown_places state

-- there is a state with these places that some run over the recording passes
abbrev pub IsPassed : Reading → Groups → Lists → List Place → Type 0
IsPassed reading groups recording places = ∥ Passes reading groups recording places ∥₁

-- Law: a state that some run over a recording passes is passed by a run over each recording that goes on from it.
abbrev pub PassedStatesStayPassed : Type 0
PassedStatesStayPassed =
    (reading : Reading) (groups : Groups) (recording longer : Lists) (places : List ℕ) → GoesOn recording longer →
    IsPassed reading groups recording places → IsPassed reading groups longer places
