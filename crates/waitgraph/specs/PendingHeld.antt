-- Held ranks where pending calls and sinks are known.
use Rattle.mpicall.specs.Names.{Rank}
use Rattle.moves.specs.declared.reading.Reading.{Reading}
use Rattle.std.specs.Prelude.{◌≡◌, ◌↔◌, ℕ, Bool, true, false, not, ◌||◌, List, length}
use Rattle.std.specs.List.{filter, range_with_len}
use Rattle.mpigroup.specs.Groups.{Groups}
use Rattle.callstore.specs.Recordings.{Lists}
use Rattle.moves.specs.Needs.{is_met}
use Rattle.moves.specs.Runs.{State}
use Rattle.moves.specs.Stands.{stands_of}
use Rattle.moves.specs.declared.need.Need.{Need}
use Rattle.waitgraph.specs.Held.{Set, is_blocked, IsHeld}
use Rattle.waitgraph.specs.Pending.{Known, none_known, waited_of, is_over}

-- the need is met, or may be though each rank of the set stays where it stands
abbrev pub may_come : Lists → State → Set → Need → Bool
may_come recording stands set need = is_met stands need || not (is_blocked recording set need)

-- so what the rank waits for may come
abbrev pub may_move : Reading → Groups → Lists → Known → Set → Rank → Bool
may_move reading groups recording known set rank =
    is_over (may_come recording (stands_of reading groups recording) set) (waited_of reading groups recording known rank)

-- a set of ranks is deadlocked if for none of them it may
abbrev pub IsDeadlockedBy : Reading → Groups → Lists → Known → Set → Type 0
IsDeadlockedBy reading groups recording known set =
    (rank : Rank) → set rank ≡ true → may_move reading groups recording known set rank ≡ false

-- a rank is held if it is in a deadlocked set
abbrev pub IsHeldBy : Reading → Groups → Lists → Known → Rank → Type 0
IsHeldBy reading groups recording known rank = (set : Set) × IsDeadlockedBy reading groups recording known set × (set rank ≡ true)

-- these are the held ranks
abbrev pub AreHeldBy : Reading → Groups → Lists → Known → Set → Type 0
AreHeldBy reading groups recording known held = (rank : ℕ) → (held rank ≡ true) ↔ IsHeldBy reading groups recording known rank

-- the held ranks, the lowest first
abbrev pub ListsHeldBy : Reading → Groups → Lists → Known → List Rank → Type 0
ListsHeldBy reading groups recording known ranks =
    (held : Set) × AreHeldBy reading groups recording known held × (ranks ≡ filter held (range_with_len 0 (length recording)))

-- the held ranks are the greatest deadlocked set
pub record HoldsTheGreatestBy (reading : Reading) (groups : Groups) (recording : Lists) (known : Known) : Type 0 where
  pub held : Set
  pub are_held : AreHeldBy reading groups recording known held
  pub is_deadlocked : IsDeadlockedBy reading groups recording known held
  pub is_greatest : (set : Set) → IsDeadlockedBy reading groups recording known set → (rank : ℕ) → set rank ≡ true → held rank ≡ true

-- Law: over every recording, they are, whatever pending calls and sinks are known.
abbrev pub TheHeldByPendingAreTheGreatest : Type 0
TheHeldByPendingAreTheGreatest =
    (reading : Reading) (groups : Groups) (recording : Lists) (known : Known) → HoldsTheGreatestBy reading groups recording known

-- Law: where none is known, these are the held ranks as they are without pending calls and sinks.
abbrev pub WithoutPendingTheHeldAreTheSame : Type 0
WithoutPendingTheHeldAreTheSame =
    (reading : Reading) (groups : Groups) (recording : Lists) (rank : ℕ) →
    IsHeldBy reading groups recording none_known rank ↔ IsHeld reading groups recording rank
