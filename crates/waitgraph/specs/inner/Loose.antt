-- Ranks that may yet move on if lists go on that were left open: the least set that has each rank which it makes loose.
-- The held ranks are the stuck ones outside of it, and the search finds them so.
use Rattle.std.specs.Prelude.{◌≡◌, ℕ, zero, suc, ◌+◌, ◌<◌, ◌⊎◌, Bool, true, false, not, ◌&&◌, ◌||◌, find, slice_index_or, Option, Some, None, option_map, unwrap_or, if◌then◌else◌, List, length, slice_get}
use Rattle.std.specs.List.{list_all}
use Rattle.moves.specs.declared.need.Need.{Need}
use Rattle.moves.specs.declared.need.Need.TheVariants.{At, Lacking}
use Rattle.waitgraph.specs.Held.{Set}
use Rattle.waitgraph.specs.inner.Least.{SetRule, after_rounds, IsWithin, IsClosedUnder}
use Rattle.waitgraph.specs.Waits.{Waits, needs_in}
use Rattle.waitgraph.specs.declared.next_hop.NextHop.{NextHop}
use Rattle.waitgraph.specs.declared.next_hop.NextHop.TheVariants.{To, Lacks, Nobody}
use Rattle.waitgraph.specs.declared.standing.Standing.{Standing}
use Rattle.waitgraph.specs.declared.standing.Standing.TheVariants.{AtFinalize, AtOpen, Stuck}

-- the ranks that are marked
abbrev pub set_of : List Bool → Set
set_of marks rank = slice_index_or marks rank false

-- where a rank stands; at its Finalize where there is no such rank
abbrev pub standing_of : List Standing → ℕ → Standing
standing_of standings rank = unwrap_or (slice_get standings rank) AtFinalize

-- The need may be met by further calls of a rank of the set. A call that a rank lacks may yet come where its list
-- was left open, and never where it ended.
abbrev pub is_on : Set → Set → Need → Bool
is_on opened set (At rank place) = set rank
is_on opened set (Lacking rank) = opened rank && set rank

-- by where it stands, and whether each of its needs is on a rank of the set
abbrev pub loosens_at : Standing → Bool → Bool
loosens_at AtFinalize all = false
loosens_at AtOpen all = true
loosens_at Stuck all = all

-- a rank at its open is loose, and so is a stuck one each of whose unmet needs is on a loose rank
abbrev pub loosens : Set → List Standing → Waits → SetRule
loosens opened standings waits set rank = loosens_at (standing_of standings rank) (list_all (is_on opened set) (needs_in waits rank))

-- the least such set, by as many rounds as there are ranks
abbrev pub are_loose : Set → List Standing → Waits → Set
are_loose opened standings waits = after_rounds (loosens opened standings waits) (length standings)

-- a stuck rank is held if it isn't loose
abbrev pub is_held_at : Standing → Bool → Bool
is_held_at Stuck loose = not loose
is_held_at _ loose = false

abbrev pub are_held : Set → List Standing → Waits → Set
are_held opened standings waits rank = is_held_at (standing_of standings rank) (are_loose opened standings waits rank)

-- the walk goes on by a need on a held rank, and ends at a call that is lacking for good
abbrev pub goes_on : Set → Set → Need → Bool
goes_on opened held (At rank place) = held rank
goes_on opened held (Lacking rank) = not (opened rank) || held rank

abbrev pub hop : Set → Need → NextHop
hop opened (At rank place) = To rank
hop opened (Lacking rank) = if opened rank then To rank else Lacks rank

-- by the first of some needs that does either
abbrev pub hop_by : Set → Set → List Need → Option NextHop
hop_by opened held needs = option_map (hop opened) (find (goes_on opened held) needs)

-- from a held rank; from another the walk doesn't go on
abbrev pub hop_from : Set → Set → Waits → ℕ → Option NextHop
hop_from opened held waits rank = if held rank then hop_by opened held (needs_in waits rank) else None

abbrev pub hop_of : Set → List Standing → Waits → ℕ → Option NextHop
hop_of opened standings waits = hop_from opened (are_held opened standings waits) waits

-- What holds of the needs of a closed recording: whose call is needed at a place is stuck, and whose list was left
-- open is stuck or stands at its open.
pub record FitTogether (opened : Set) (standings : List Standing) (waits : Waits) : Type 0 where
  pub for_stuck : (rank index peer place : ℕ) → slice_get (needs_in waits rank) index ≡ Some (At peer place) → standing_of standings peer ≡ Stuck
  pub left_open : (rank : ℕ) → opened rank ≡ true → (standing_of standings rank ≡ Stuck) ⊎ (standing_of standings rank ≡ AtOpen)

-- what a held rank's walk does
abbrev pub GoesOnOrEnds : Set → Set → Option NextHop → Type 0
GoesOnOrEnds opened held None = ⊥
GoesOnOrEnds opened held (Some (To next)) = held next ≡ true
GoesOnOrEnds opened held (Some (Lacks peer)) = opened peer ≡ false
GoesOnOrEnds opened held (Some Nobody) = ⊥

-- Law: the walk from a held rank goes on to a held rank, or ends at a call that is lacking for good.
abbrev pub HeldRanksGoOn : Type 0
HeldRanksGoOn =
    (opened : Set) (standings : List Standing) (waits : Waits) (rank : ℕ) → FitTogether opened standings waits →
    are_held opened standings waits rank ≡ true →
    GoesOnOrEnds opened (are_held opened standings waits) (hop_of opened standings waits rank)

-- Law: the loose ranks are the least set that has each rank which it makes loose.
abbrev pub TheLooseAreTheLeast : Type 0
TheLooseAreTheLeast =
    (opened : Set) (standings : List Standing) (waits : Waits) →
    IsClosedUnder (loosens opened standings waits) (are_loose opened standings waits)
    × ((set : Set) → IsClosedUnder (loosens opened standings waits) set → IsWithin (are_loose opened standings waits) set)

-- how many of the first ranks are in the set
abbrev pub size : Set → ℕ → ℕ
size set zero = 0
size set (suc n) = if set n then size set n + 1 else size set n

-- a sweep over the ranks marks none but those of each set that is closed, and at least one where it says so; where
-- it marks none, the marked ones are closed
pub record Sweeps (rule : SetRule) (ranks : ℕ) (old new : Set) (some : Bool) : Type 0 where
  pub within : (set : Set) → IsClosedUnder rule set → IsWithin old set → IsWithin new set
  pub closed : some ≡ false → IsClosedUnder rule new
  pub more : some ≡ true → size old ranks < size new ranks
