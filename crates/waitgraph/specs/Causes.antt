-- Why ranks are held. A held rank waits by the first of its unmet needs that is on a held rank, or that is missing.
-- The walk from rank to rank by these needs comes to a cycle of ranks, or to a rank that waits for what is missing.
use Rattle.mpicall.specs.Names.{Rank}
use Rattle.moves.specs.declared.reading.Reading.{Reading}
use Rattle.std.specs.Prelude.{◌≡◌, ◌↔◌, ℕ, zero, suc, nat_lt, true, find, if◌then◌else◌, Option, Some, None, option_map, option_and_then, List, [], ◌∷◌, ◌++◌, length, map, slice_get}
use Rattle.std.specs.List.{list_all, filter_map, range_with_len}
use Rattle.mpigroup.specs.Groups.{Groups}
use Rattle.callstore.specs.Recordings.{Lists, IsClosed}
use Rattle.moves.specs.declared.need.Need.{Need}
use Rattle.waitgraph.specs.Stuck.{rank_needed, unmet_of}
use Rattle.waitgraph.specs.Held.{Set, is_missing, is_blocked, IsHeld, AreHeld}
use Rattle.waitgraph.specs.declared.cause.Cause.{Cause}
use Rattle.waitgraph.specs.declared.cause.Cause.TheVariants.{Cycle, Missing, Starved}

-- what contracts see of a cause: the ranks of a cycle, the rank that waits and the peer that lacks the call, or the rank
-- that waits for a message which nobody may send
pub data CauseView : Type 0 where
  CycleOf : List ℕ → CauseView
  MissingOf : ℕ → ℕ → CauseView
  StarvedOf : ℕ → CauseView

abbrev pub view_of : Cause → CauseView
view_of (Cycle ranks) = CycleOf ranks.items
view_of (Missing rank peer) = MissingOf rank peer
view_of (Starved rank) = StarvedOf rank

-- the need by which a rank is held
abbrev pub held_by : Reading → Groups → Lists → Set → Rank → Option Need
held_by reading groups recording held rank = find (is_blocked recording held) (unmet_of reading groups recording rank)

-- the rank for which it waits by it
abbrev pub next_of : Reading → Groups → Lists → Set → Rank → Option ℕ
next_of reading groups recording held rank =
    option_and_then (λ need. if is_missing recording need then None else Some (rank_needed need))
    (held_by reading groups recording held rank)

-- the missing call for which it waits by it
abbrev pub missing_of : Reading → Groups → Lists → Set → Rank → Option CauseView
missing_of reading groups recording held rank =
    option_and_then (λ need. if is_missing recording need then Some (MissingOf rank (rank_needed need)) else None)
    (held_by reading groups recording held rank)

-- a cycle from its lowest rank on: each rank waits for the one after it, and the last for the first
abbrev pub IsCycle : (ℕ → Option ℕ) → ℕ → List ℕ → Type 0
IsCycle next low rest =
    (map next (low ∷ rest) ≡ map (λ rank. Some rank) (rest ++ low ∷ [])) × (list_all (nat_lt low) rest ≡ true)

-- the causes: the cycles by their lowest rank, and then the missing calls by the rank that waits
pub record AreCauses (reading : Reading) (groups : Groups) (recording : Lists) (causes : List CauseView) : Type 0 where
  pub held : Set
  pub are_held : (rank : Rank) → (held rank ≡ true) ↔ IsHeld reading groups recording rank
  pub rest_of : ℕ → Option (List ℕ)
  pub are_cycles : (low : ℕ) (rest : List ℕ) → (rest_of low ≡ Some rest) ↔ IsCycle (next_of reading groups recording held) low rest
  pub are_all : causes ≡
      filter_map (λ low. option_map (λ rest. CycleOf (low ∷ rest)) (rest_of low)) (range_with_len 0 (length recording))
      ++ filter_map (missing_of reading groups recording held) (range_with_len 0 (length recording))

-- the rank to which a walk from a rank comes after so many steps
abbrev pub after_steps : (ℕ → Option ℕ) → ℕ → Rank → Option Rank
after_steps next zero rank = Some rank
after_steps next (suc steps) rank = option_and_then (after_steps next steps) (next rank)

-- the walk is at its end: at the lowest rank of a cycle, or at a rank that waits for what is missing
abbrev pub IsEnd : (ℕ → Option ℕ) → (ℕ → Option CauseView) → Rank → CauseView → Type 0
IsEnd next missing rank (CycleOf ranks) = (rest : List ℕ) × (ranks ≡ rank ∷ rest) × IsCycle next rank rest
IsEnd next missing rank (MissingOf waiting peer) = missing rank ≡ Some (MissingOf waiting peer)
IsEnd next missing rank (StarvedOf waiting) = missing rank ≡ Some (StarvedOf waiting)

-- the walk from the rank comes to the cause
pub record ComesTo (next : ℕ → Option ℕ) (missing : ℕ → Option CauseView) (rank : ℕ) (cause : CauseView) : Type 0 where
  pub steps : ℕ
  pub end : Rank
  pub comes_there : after_steps next steps rank ≡ Some end
  pub is_end : IsEnd next missing end cause

-- the cause is in the list
abbrev pub IsListed : CauseView → List CauseView → Type 0
IsListed cause causes = (index : ℕ) × (slice_get causes index ≡ Some cause)

-- the causes are those to which the walks from the held ranks come, each listed once
pub record TellsCauses (next : ℕ → Option ℕ) (missing : ℕ → Option CauseView) (held : Set) (causes : List CauseView) : Type 0 where
  pub each_walk_ends : (rank : ℕ) → held rank ≡ true → (cause : CauseView) × IsListed cause causes × ComesTo next missing rank cause
  pub each_is_an_end : (cause : CauseView) → IsListed cause causes → (rank : ℕ) × (held rank ≡ true) × ComesTo next missing rank cause
  pub none_twice : (index other : ℕ) (cause : CauseView) → slice_get causes index ≡ Some cause → slice_get causes other ≡ Some cause → index ≡ other

-- Law: over every closed recording, the walk from each held rank comes to a cause that is listed, and each
-- cause that is listed is one to which the walk from some held rank comes.
abbrev pub WalksEndInTheCauses : Type 0
WalksEndInTheCauses =
    (reading : Reading) (groups : Groups) (recording : Lists) (held : Set) (causes : List CauseView) → IsClosed recording →
    AreHeld reading groups recording held → AreCauses reading groups recording causes →
    TellsCauses (next_of reading groups recording held) (missing_of reading groups recording held) held causes

-- Law: every closed recording has one list of causes.
abbrev pub EachRecordingHasOneListOfCauses : Type 0
EachRecordingHasOneListOfCauses =
    (reading : Reading) (groups : Groups) (recording : Lists) → IsClosed recording →
    (causes : List CauseView) × AreCauses reading groups recording causes
    × ((others : List CauseView) → AreCauses reading groups recording others → others ≡ causes)
