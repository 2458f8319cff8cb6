-- The causes as the search finds them, by a walk from rank to rank.
use Rattle.moves.specs.declared.reading.Reading.{Reading}
use Rattle.std.specs.Prelude.{ℕ, zero, suc, ◌==◌, nat_le, if◌then◌else◌, Option, Some, None, option_map, option_and_then, List, [], ◌∷◌, ◌++◌, length, map, slice_get}
use Rattle.std.specs.List.{list_all, filter_map, range_with_len}
use Rattle.mpigroup.specs.Groups.{Groups}
use Rattle.callstore.specs.Recordings.{Lists}
use Rattle.moves.specs.Runs.{State}
use Rattle.moves.specs.Stands.{stands_of}
use Rattle.waitgraph.specs.Causes.{CauseView, CycleOf, MissingOf, StarvedOf}
use Rattle.waitgraph.specs.Held.{Set}
use Rattle.waitgraph.specs.inner.Held.{opened_of, standings_at}
use Rattle.waitgraph.specs.inner.Loose.{hop_of}
use Rattle.waitgraph.specs.inner.Waits.{waits_at}
use Rattle.waitgraph.specs.Waits.{Waits}
use Rattle.waitgraph.specs.declared.standing.Standing.{Standing}
use Rattle.waitgraph.specs.declared.next_hop.NextHop.{NextHop}
use Rattle.waitgraph.specs.declared.next_hop.NextHop.TheVariants.{To, Lacks, Nobody}

-- how the walk goes on from each rank; None where the rank isn't held
abbrev pub Walks : Type 0
Walks = List (Option NextHop)

abbrev pub walks_in : Set → List Standing → Waits → Walks
walks_in opened standings waits = map (hop_of opened standings waits) (range_with_len 0 (length standings))

-- how it does in a state
abbrev pub walks_at : Reading → Groups → Lists → State → Walks
walks_at reading groups recording stands = walks_in (opened_of recording) (standings_at recording stands) (waits_at reading groups recording stands)

-- and at the stands
abbrev pub walks_of : Reading → Groups → Lists → Walks
walks_of reading groups recording = walks_at reading groups recording (stands_of reading groups recording)

-- how it goes on from a rank
abbrev pub hop_in : Walks → ℕ → Option NextHop
hop_in walks rank = option_and_then (λ there. there) (slice_get walks rank)

-- the rank to which a walk goes on
abbrev pub to_of : NextHop → Option ℕ
to_of (To rank) = Some rank
to_of (Lacks rank) = None
to_of Nobody = None

-- the rank that lacks the call at which a walk ends
abbrev pub lacked_by : NextHop → Option ℕ
lacked_by (To rank) = None
lacked_by (Lacks rank) = Some rank
lacked_by Nobody = None

-- the rank to which the walk goes on from a rank
abbrev pub next_in : Walks → ℕ → Option ℕ
next_in walks rank = option_and_then to_of (hop_in walks rank)

-- the rank that lacks the call for which a rank waits
abbrev pub lacks_in : Walks → ℕ → Option ℕ
lacks_in walks rank = option_and_then lacked_by (hop_in walks rank)

-- the ranks of the walk from a rank until it comes to `home`; None where it does not within so many steps
abbrev pub way_round : Walks → ℕ → ℕ → ℕ → Option (List ℕ)
way_round walks zero home rank = None
way_round walks (suc most) home rank =
    option_and_then (λ next. if next == home then Some (rank ∷ []) else option_map (λ ranks. rank ∷ ranks) (way_round walks most home next)) (next_in walks rank)

-- the cycle of ranks
abbrev pub cycle_by : ℕ → List ℕ → Option CauseView
cycle_by rank ranks = if list_all (nat_le rank) ranks then Some (CycleOf ranks) else None

-- the cycle whose lowest rank is the given one: the walk from it comes back to it and goes by no lower rank
abbrev pub cycle_at : Walks → ℕ → Option CauseView
cycle_at walks rank = option_and_then (cycle_by rank) (way_round walks (length walks) rank rank)

-- the missing call for which the rank waits
abbrev pub missing_at : Walks → ℕ → Option CauseView
missing_at walks rank = option_map (MissingOf rank) (lacks_in walks rank)

-- the rank itself, if it waits for a message that nobody may send
abbrev pub starved_to : ℕ → NextHop → Option CauseView
starved_to rank Nobody = Some (StarvedOf rank)
starved_to rank _ = None

abbrev pub starved_at : Walks → ℕ → Option CauseView
starved_at walks rank = option_and_then (starved_to rank) (hop_in walks rank)

-- the cycles by their lowest rank, the missing calls by the rank that waits, and then the ranks that wait for a message
-- which nobody may send
abbrev pub causes_in : Walks → List CauseView
causes_in walks =
    filter_map (cycle_at walks) (range_with_len 0 (length walks)) ++ filter_map (missing_at walks) (range_with_len 0 (length walks))
    ++ filter_map (starved_at walks) (range_with_len 0 (length walks))

-- where the walk ends besides at a cycle
abbrev pub end_to : ℕ → NextHop → Option CauseView
end_to rank (To next) = None
end_to rank (Lacks peer) = Some (MissingOf rank peer)
end_to rank Nobody = Some (StarvedOf rank)

abbrev pub end_at : Walks → ℕ → Option CauseView
end_at walks rank = option_and_then (end_to rank) (hop_in walks rank)

-- the causes of a recording
abbrev pub causes_of : Reading → Groups → Lists → List CauseView
causes_of reading groups recording = causes_in (walks_of reading groups recording)
