-- The held ranks where pending calls and sinks are known, as the search finds them: the ranks outside of the least set
-- that has each rank which may move once those of the set may.
use Rattle.moves.specs.declared.reading.Reading.{Reading}
use Rattle.std.specs.Prelude.{ℕ, not, ◌&&◌, nat_lt, List, length}
use Rattle.std.specs.List.{filter, range_with_len}
use Rattle.mpigroup.specs.Groups.{Groups}
use Rattle.callstore.specs.Recordings.{Lists}
use Rattle.waitgraph.specs.Held.{Set}
use Rattle.waitgraph.specs.Pending.{Known}
use Rattle.waitgraph.specs.PendingHeld.{may_move}
use Rattle.waitgraph.specs.inner.Least.{SetRule, after_rounds}

-- the other ranks, of so many
abbrev pub others_of : ℕ → Set → Set
others_of ranks set rank = nat_lt rank ranks && not (set rank)

-- a rank may move though the others stay
abbrev pub frees : Reading → Groups → Lists → Known → SetRule
frees reading groups recording known set rank =
    nat_lt rank (length recording) && may_move reading groups recording known (others_of (length recording) set) rank

-- the least such set, by as many rounds as there are ranks
abbrev pub are_free : Reading → Groups → Lists → Known → Set
are_free reading groups recording known = after_rounds (frees reading groups recording known) (length recording)

-- the others are held
abbrev pub is_held_by : Reading → Groups → Lists → Known → Set
is_held_by reading groups recording known = others_of (length recording) (are_free reading groups recording known)

-- the lowest first
abbrev pub held_by_pending : Reading → Groups → Lists → Known → List ℕ
held_by_pending reading groups recording known = filter (is_held_by reading groups recording known) (range_with_len 0 (length recording))
