-- Communicators of a rank (MPI 4.0, section 7.4.2). Each rank holds the world, and the communicators that
-- its own MPI_Comm_dup and MPI_Comm_split have made.
use Rattle.mpicall.specs.Names.{Rank, Place, Comm}
use Rattle.std.specs.Prelude.{◌≡◌, ℕ, ◌==◌, Bool, false, ◌||◌, Option, Some, None, option_and_then, List, slice_get}
use Rattle.std.specs.List.{list_any}
use Rattle.std.specs.Option.{option_map_or}
use Rattle.mpicall.specs.declared.call.Call.{Call}
use Rattle.mpicall.specs.Effect.{effect_of}
use Rattle.mpicall.specs.declared.effect.Effect.{Effect}
use Rattle.mpicall.specs.declared.effect.Effect.TheVariants.{PointToPoint, Joins, Local}
use Rattle.callstore.specs.Recordings.{Lists, calls_of}

-- the communicator over which the call is made, if it names one
abbrev pub comm_of : Call → Option Comm
comm_of call = by_what (effect_of call)
  where
    by_what : Effect → Option ℕ
    by_what (PointToPoint comm sent received probed) = Some comm
    by_what (Joins comm root made) = Some comm
    by_what Local = None

-- the communicator that the call makes for its rank
abbrev pub makes : Call → Option Comm
makes call = by_what (effect_of call)
  where
    by_what : Effect → Option ℕ
    by_what (Joins comm root made) = made
    by_what _ = None

abbrev pub does_make : Comm → Call → Bool
does_make comm call = option_map_or (λ made. made == comm) (makes call) false

-- the rank holds the communicator after its calls
abbrev pub holds : List Call → Comm → Bool
holds calls comm = comm == 0 || list_any (does_make comm) calls

-- the communicator that the call at the place makes
abbrev pub made_at : Lists → Rank → Place → Option Comm
made_at recording rank place = option_and_then makes (slice_get (calls_of recording rank) place)

-- no call makes one
abbrev pub NoneIsMade : Lists → Type 0
NoneIsMade recording = (rank : Rank) (place : Place) → made_at recording rank place ≡ None

-- some call does
pub record HasMade (recording : Lists) : Type 0 where
  pub rank : Rank
  pub place : Place
  pub comm : Comm
  pub makes_it : made_at recording rank place ≡ Some comm
