-- The table of the communicators that ranks have made.
use Rattle.std.specs.Prelude.{◌≡◌, ◌<◌, ℕ, Bool, IsSome}
use Rattle.std.specs.List.{list_any}
use Rattle.mpicall.specs.declared.call.Call.{Call}
use Rattle.indexmap.specs.IndexSet.{contains, spare}
use Rattle.callstore.specs.Recordings.{Lists, calls_of}
use Rattle.callstore.specs.Communicators.{makes, does_make}
use Rattle.pairing.specs.declared.made_comms.Holding.{Holding}
use Rattle.pairing.specs.declared.made_comms.MadeComms.{MadeComms}
use Rattle.pairing.specs.contracts.made_comms.HoldingPartialEq.TheImpl as holding_eq

-- two holdings are the same
abbrev pub is_same_holding : Holding → Holding → Bool
is_same_holding = (holding_eq.ghosts).eq

-- the table has the communicator under the rank
abbrev pub has_holding : MadeComms → ℕ → ℕ → Bool
has_holding made_comms rank comm = contains is_same_holding made_comms.pairs (record { rank = rank; comm = comm })

-- the table has just what the calls of each rank have made
abbrev pub IsHolding : Lists → MadeComms → Type 0
IsHolding recording made_comms =
    (rank comm : ℕ) → has_holding made_comms rank comm ≡ list_any (does_make comm) (calls_of recording rank)

-- what the call makes can be put into the table without memory
abbrev pub HasRoomToHold : MadeComms → Call → Type 0
HasRoomToHold made_comms call = IsSome (makes call) → 0 < spare made_comms.pairs
