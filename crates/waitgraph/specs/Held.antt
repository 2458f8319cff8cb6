-- Ranks that stay where they stand, whatever calls come in the place of an open: those of a deadlocked set.
use Rattle.mpicall.specs.Names.{Rank}
use Rattle.moves.specs.declared.reading.Reading.{Reading}
use Rattle.std.specs.Prelude.{◌≡◌, ◌↔◌, ℕ, Bool, true, false, not, ◌&&◌, ◌||◌, List, length, slice_index}
use Rattle.std.specs.List.{filter, list_any, range_with_len}
use Rattle.mpigroup.specs.Groups.{Groups}
use Rattle.callstore.specs.Recordings.{Lists, IsClosed}
use Rattle.moves.specs.Needs.{needs_of, is_met}
use Rattle.moves.specs.Stands.{stands_of}
use Rattle.moves.specs.declared.need.Need.{Need}
use Rattle.moves.specs.declared.need.Need.TheVariants.{At, Lacking}
use Rattle.pairing.specs.LeftOpen.{is_left_open}
use Rattle.waitgraph.specs.Stuck.{rank_needed}

-- a set of ranks
abbrev pub Set : Type 0
Set = ℕ → Bool

-- what a rank needs never comes: another rank lacks the call, and its list ended
abbrev pub is_missing : Lists → Need → Bool
is_missing recording (At rank place) = false
is_missing recording (Lacking rank) = not (is_left_open recording rank)

-- what a rank needs doesn't come while each rank of the set stays where it stands
abbrev pub is_blocked : Lists → Set → Need → Bool
is_blocked recording set need = set (rank_needed need) || is_missing recording need

-- the rank waits for a member of the set, or for what is missing: some unmet need of its call at the stands is so
abbrev pub waits_for : Reading → Groups → Lists → Set → Rank → Bool
waits_for reading groups recording set rank =
    list_any (λ need. not (is_met (stands_of reading groups recording) need) && is_blocked recording set need)
    (needs_of reading groups recording rank (slice_index (stands_of reading groups recording) rank))

-- a set of ranks is deadlocked if each of them waits so
abbrev pub IsDeadlocked : Reading → Groups → Lists → Set → Type 0
IsDeadlocked reading groups recording set =
    (rank : Rank) → set rank ≡ true → waits_for reading groups recording set rank ≡ true

-- a rank is held if it is in a deadlocked set
abbrev pub IsHeld : Reading → Groups → Lists → Rank → Type 0
IsHeld reading groups recording rank = (set : Set) × IsDeadlocked reading groups recording set × (set rank ≡ true)

-- these are the held ranks
abbrev pub AreHeld : Reading → Groups → Lists → Set → Type 0
AreHeld reading groups recording held = (rank : ℕ) → (held rank ≡ true) ↔ IsHeld reading groups recording rank

-- the held ranks, the lowest first
abbrev pub ListsHeld : Reading → Groups → Lists → List Rank → Type 0
ListsHeld reading groups recording ranks =
    (held : Set) × AreHeld reading groups recording held × (ranks ≡ filter held (range_with_len 0 (length recording)))

-- the held ranks are the greatest deadlocked set
pub record HoldsTheGreatest (reading : Reading) (groups : Groups) (recording : Lists) : Type 0 where
  pub held : Set
  pub are_held : AreHeld reading groups recording held
  pub is_deadlocked : IsDeadlocked reading groups recording held
  pub is_greatest : (set : Set) → IsDeadlocked reading groups recording set → (rank : ℕ) → set rank ≡ true → held rank ≡ true

-- Law: over every closed recording, they are.
abbrev pub TheHeldAreTheGreatest : Type 0
TheHeldAreTheGreatest =
    (reading : Reading) (groups : Groups) (recording : Lists) → IsClosed recording → HoldsTheGreatest reading groups recording

-- some list was left open
abbrev pub is_some_left_open : Lists → Bool
is_some_left_open recording = list_any (is_left_open recording) (range_with_len 0 (length recording))
