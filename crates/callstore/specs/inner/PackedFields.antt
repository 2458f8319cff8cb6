-- How a peer is kept in 16 bits and the bytes of a message in 32: the greatest number stands for MPI_PROC_NULL,
-- and for bytes that are not said. A rank of a group and a number of bytes are less.
use Rattle.std.specs.Prelude.{ℕ, Option, Some, None, ◌<◌, ◌==◌, if◌then◌else◌}
use Rattle.mpicall.specs.declared.call.Peer.{Peer}
use Rattle.mpicall.specs.declared.call.Peer.TheVariants.{Rank, Null}

-- the number of MPI_PROC_NULL, and that of bytes which are not said
abbrev pub no_rank : ℕ
no_rank = 65535

abbrev pub no_bytes : ℕ
no_bytes = 4294967295

-- the peer that a number stands for
abbrev pub peer_at : ℕ → Peer
peer_at rank = if rank == no_rank then Null else Rank rank

-- the number that stands for a peer
abbrev pub rank_of : Peer → ℕ
rank_of (Rank rank) = rank
rank_of Null = no_rank

-- the number that stands for bytes
abbrev pub count_of : Option ℕ → ℕ
count_of (Some count) = count
count_of None = no_bytes

-- a peer that can be packed
abbrev pub FitsPeer : Peer → Type 0
FitsPeer (Rank rank) = rank < no_rank
FitsPeer Null = Unit {0}

-- the bytes that a number stands for
abbrev pub bytes_at : ℕ → Option ℕ
bytes_at count = if count == no_bytes then None else Some count
