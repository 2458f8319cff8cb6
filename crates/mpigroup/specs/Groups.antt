-- Groups and communicators (MPI 4.0, section 7.2). A run's communicators are numbered from 0, the
-- world; the head of a run gives each one's group, an ordered list of world ranks. The place of a
-- rank in that list, from 0, is its rank in the group.
use Rattle.mpicall.specs.Names.{Rank, Comm}
use Rattle.std.specs.Prelude.{ℕ, ◌==◌, Option, option_map, unwrap_or, List, [], length, position, slice_get}

-- the groups of all communicators, by their numbers
abbrev pub Groups : Type 0
Groups = List (List Rank)

-- the list with a number; the empty one where there is no such list
abbrev pub or_empty : {A : Type 0} → List (List A) → ℕ → List A
or_empty lists number = unwrap_or (slice_get lists number) []

-- the group of a communicator
abbrev pub group_of : Groups → Comm → List Rank
group_of groups comm = or_empty groups comm

-- how many ranks the run has: as many as the world's group
abbrev pub ranks_of : Groups → ℕ
ranks_of groups = length (group_of groups 0)

-- how many members a communicator has, if there is such a communicator
abbrev pub size_of : Groups → Comm → Option ℕ
size_of groups comm = option_map length (slice_get groups comm)

-- the world rank of the member with rank `g` in the communicator's group, if there is one
abbrev pub world_rank_of : Groups → Comm → Rank → Option Rank
world_rank_of groups comm g = slice_get (group_of groups comm) g

-- the rank in the communicator's group of the rank `world` of the world, if it is a member
abbrev pub group_rank_of : Groups → Comm → Rank → Option Rank
group_rank_of groups comm world = position (λ member. member == world) (group_of groups comm)
