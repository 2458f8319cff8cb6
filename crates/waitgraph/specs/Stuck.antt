-- Ranks that do not come to the end of their lists, and what each still waits for where it stands.
use Rattle.mpicall.specs.Names.{Rank}
use Rattle.moves.specs.declared.reading.Reading.{Reading}
use Rattle.std.specs.Prelude.{◌≡◌, ℕ, ◌<◌, Bool, true, false, not, ◌&&◌, ◌||◌, ◌==◌, nat_lt, Some, List, [], ◌∷◌, ◌++◌, length, slice_get, slice_index}
use Rattle.std.specs.List.{filter, fold, list_all, range_with_len}
use Rattle.mpigroup.specs.Groups.{Groups}
use Rattle.callstore.specs.Recordings.{Lists, IsClosed}
use Rattle.moves.specs.Runs.{State}
use Rattle.moves.specs.Needs.{needs_of, is_met}
use Rattle.moves.specs.Stands.{stands_of, is_at_end}
use Rattle.moves.specs.declared.need.Need.{Need}
use Rattle.moves.specs.declared.need.Need.TheVariants.{At, Lacking}

-- a rank is stuck if its call at the stands is not the one that ends its list
abbrev pub is_stuck : Reading → Groups → Lists → Rank → Bool
is_stuck reading groups recording rank = not (is_at_end recording (stands_of reading groups recording) rank)

-- the stuck ranks, the lowest first
abbrev pub stuck_of : Reading → Groups → Lists → List Rank
stuck_of reading groups recording =
    filter (λ rank. not (is_at_end recording (stands_of reading groups recording) rank)) (range_with_len 0 (length recording))

-- the rank that a need names
abbrev pub rank_needed : Need → Rank
rank_needed (At rank place) = rank
rank_needed (Lacking rank) = rank

-- of two needs of one rank, the one with the lower place comes first, and what the rank lacks comes last
abbrev pub is_earlier : Need → Need → Bool
is_earlier (At rank place) (At rank' place') = nat_lt place place'
is_earlier (At rank place) (Lacking rank') = true
is_earlier (Lacking rank) need = false

-- needs are ordered by rank, those of one rank by place
abbrev pub comes_before : Need → Need → Bool
comes_before need other = nat_lt (rank_needed need) (rank_needed other) || (rank_needed need == rank_needed other && is_earlier need other)

-- a need put among others: those that come before it, it once, and those that come after it
abbrev pub with_need : List Need → Need → List Need
with_need needs need = filter (λ other. comes_before other need) needs ++ need ∷ filter (comes_before need) needs

-- the needs in order, each once
abbrev pub needs_in_order : List Need → List Need
needs_in_order needs = fold with_need [] needs

-- what the rank's present call in a state needs and is not met there, in order and each once
unfoldable pub unmet_at : Reading → Groups → Lists → State → Rank → List Need
unmet_at reading groups recording stands rank =
    needs_in_order (filter (λ need. not (is_met stands need)) (needs_of reading groups recording rank (slice_index stands rank)))

-- the same at the stands
abbrev pub unmet_of : Reading → Groups → Lists → ℕ → List Need
unmet_of reading groups recording = unmet_at reading groups recording (stands_of reading groups recording)

-- the need is in the list
abbrev pub IsIn : Need → List Need → Type 0
IsIn need needs = (index : ℕ) × (slice_get needs index ≡ Some need)

-- each need of the list comes before all that are after it
abbrev pub are_needs_in_order : List Need → Bool
are_needs_in_order [] = true
are_needs_in_order (need ∷ needs) = list_all (comes_before need) needs && are_needs_in_order needs

-- what a rank still needs at the stands: each unmet need of its present call and no other, in order
pub record TellsUnmet (reading : Reading) (groups : Groups) (recording : Lists) (rank : Rank) : Type 0 where
  pub stand_in_order : are_needs_in_order (unmet_of reading groups recording rank) ≡ true
  pub are_needs : (need : Need) → IsIn need (unmet_of reading groups recording rank) → IsIn need (needs_of reading groups recording rank (slice_index (stands_of reading groups recording) rank))
  pub are_unmet : (need : Need) → IsIn need (unmet_of reading groups recording rank) → is_met (stands_of reading groups recording) need ≡ false
  pub are_all : (need : Need) → IsIn need (needs_of reading groups recording rank (slice_index (stands_of reading groups recording) rank)) → is_met (stands_of reading groups recording) need ≡ false → IsIn need (unmet_of reading groups recording rank)

-- Law: over every recording, the unmet needs of a rank are those needs of its present call that are not
-- met at the stands, and each comes before those after it, so that none is listed twice.
abbrev pub UnmetNeedsAreToldInOrder : Type 0
UnmetNeedsAreToldInOrder = (reading : Reading) (groups : Groups) (recording : Lists) (rank : ℕ) → TellsUnmet reading groups recording rank

-- who waits: each stuck rank, no other, and for stuck ranks
pub record TellsWaiting (reading : Reading) (groups : Groups) (recording : Lists) : Type 0 where
  pub each_waits : (rank : ℕ) → rank < length recording → is_stuck reading groups recording rank ≡ true → (need : Need) × IsIn need (unmet_of reading groups recording rank)
  pub no_other_waits : (rank : ℕ) → is_stuck reading groups recording rank ≡ false → unmet_of reading groups recording rank ≡ []
  pub for_stuck_ranks : (rank peer place : ℕ) → IsIn (At peer place) (unmet_of reading groups recording rank) → (peer < length recording) × (is_stuck reading groups recording peer ≡ true)

-- Law: over every closed recording, a stuck rank has an unmet need, a rank that is not stuck has none, and a
-- rank whose call is needed and not reached is stuck itself.
abbrev pub StuckRanksWaitForStuckRanks : Type 0
StuckRanksWaitForStuckRanks = (reading : Reading) (groups : Groups) (recording : Lists) → IsClosed recording → TellsWaiting reading groups recording
