-- Sets of calls, by rank and place.
use Rattle.std.specs.Prelude.{ℕ, ◌==◌, ◌&&◌, Bool, List, fold}
use Rattle.std.specs.BTreeSet.{insert_key}
use Rattle.std.specs.HashSet.{HashSet, contains_by}
use Rattle.std.specs.Ordering.{nat_cmp, ordering_then}
use Rattle.std.specs.declared.cmp.Ordering.{Ordering}
use Rattle.judging.specs.NamedCalls.{CallAt}
use Rattle.judging.specs.declared.reported.Spot.{Spot}

abbrev pub same_spot : Spot → Spot → Bool
same_spot spot other = spot.rank == other.rank && spot.place == other.place

-- the set has the call at the place of the rank
abbrev pub has_spot : {S : Type 0} → HashSet Spot S → ℕ → ℕ → Bool
has_spot spots rank place = contains_by (same_spot (record { rank = rank; place = place })) spots

-- ---- Calls that were added ----

abbrev pub spot_of : CallAt → Spot
spot_of call = record { rank = call.rank; place = call.place }

-- the order by rank, and of one rank by place
abbrev pub spot_cmp : Spot → Spot → Ordering
spot_cmp spot other = ordering_then (nat_cmp spot.rank other.rank) (nat_cmp spot.place other.place)

-- the calls of a set in order, with one more, or with more
abbrev pub with_call : List Spot → CallAt → List Spot
with_call spots call = insert_key spot_cmp spots (spot_of call)

abbrev pub with_calls : List Spot → List CallAt → List Spot
with_calls spots calls = fold with_call spots calls
