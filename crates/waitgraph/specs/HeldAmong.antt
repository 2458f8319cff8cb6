-- Ranks that are held among some that are asked for, where no wave completes whose members disagree: for a run that still
-- goes on, whose other ranks may yet make any call.
use Rattle.mpicall.specs.Names.{Rank}
use Rattle.std.specs.Prelude.{◌≡◌, ◌↔◌, ℕ, Bool, true, false, not, ◌||◌, List, length, slice_index, slice_index_or}
use Rattle.std.specs.List.{filter, range_with_len}
use Rattle.mpigroup.specs.Groups.{Groups}
use Rattle.callstore.specs.Recordings.{Lists}
use Rattle.moves.specs.Runs.{State, IsTheEnd}
use Rattle.moves.specs.declared.reading.Reading.{Reading}
use Rattle.waitgraph.specs.Disagreements.{is_barred, moves_agreed}
use Rattle.waitgraph.specs.Held.{Set}
use Rattle.waitgraph.specs.Pending.{Known, waited_at, is_over}
use Rattle.waitgraph.specs.PendingHeld.{may_come}

-- the ranks with a mark
abbrev pub asked_in : List Bool → Set
asked_in asked rank = slice_index_or asked rank false

-- where each rank ends up that never gets past a call which waits for a wave that disagrees
abbrev pub AreAgreedStands : Reading → Groups → Lists → State → Type 0
AreAgreedStands reading groups recording stands = IsTheEnd (moves_agreed reading groups recording) (length recording) stands

-- the rank stays there while each rank of the set does: it waits for a wave that disagrees, or what it waits for doesn't come
abbrev pub stays_among : Reading → Groups → Lists → Known → State → Set → Rank → Bool
stays_among reading groups recording known stands set rank =
    is_barred groups recording rank (slice_index stands rank)
    || not (is_over (may_come recording stands set) (waited_at reading groups recording known rank (slice_index stands rank)))

-- A set of ranks is deadlocked among those that are asked for if each of them is asked for, and stays while all of them
-- do. So any other rank may make any further call.
pub record IsAmong (reading : Reading) (groups : Groups) (recording : Lists) (known : Known) (asked : Set) (stands : State) (set : Set) (rank : Rank) : Type 0 where
  pub is_asked : asked rank ≡ true
  pub stays : stays_among reading groups recording known stands set rank ≡ true

abbrev pub IsDeadlockedAmong : Reading → Groups → Lists → Known → Set → State → Set → Type 0
IsDeadlockedAmong reading groups recording known asked stands set =
    (rank : Rank) → set rank ≡ true → IsAmong reading groups recording known asked stands set rank

-- a rank is held among them if it is in such a set
abbrev pub IsHeldAmong : Reading → Groups → Lists → Known → Set → State → Rank → Type 0
IsHeldAmong reading groups recording known asked stands rank =
    (set : Set) × IsDeadlockedAmong reading groups recording known asked stands set × (set rank ≡ true)

-- these ranks are held among those that are asked for, the lowest first
pub record ListsHeldAmong (reading : Reading) (groups : Groups) (recording : Lists) (known : Known) (asked : Set) (ranks : List Rank) : Type 0 where
  pub stands : State
  pub are_stands : AreAgreedStands reading groups recording stands
  pub held : Set
  pub are_held : (rank : ℕ) → (held rank ≡ true) ↔ IsHeldAmong reading groups recording known asked stands rank
  pub lists : ranks ≡ filter held (range_with_len 0 (length recording))
