-- The active requests of a rank, as they are kept: a map from its own numbers.
use Rattle.std.specs.Prelude.{ℕ, ◌==◌, ◌%◌, Bool, true, false, nat_eq, Option, Some, None, if◌then◌else◌, slice_get}
use Rattle.std.specs.HashMap.{get}
use Rattle.mpicall.specs.Word.{or_else}
use Rattle.closing.specs.declared.list.Active.{Active}
use Rattle.closing.specs.declared.started.Held.{Held}
use Rattle.closing.specs.declared.started.Started.{Started}
use Rattle.closing.specs.declared.started.TheConstants.{PLACES}

-- the request of a number, if its place has that
abbrev pub own_in : ℕ → Option (Option Held) → Option Active
own_in id (Some (Some held)) = if held.id == id then Some held.active else None
own_in id place = None

-- the place of a number is free, or its own
abbrev pub may_hold : ℕ → Option (Option Held) → Bool
may_hold id (Some (Some held)) = held.id == id
may_hold id (Some None) = true
may_hold id None = false

abbrev pub near_at : Started → ℕ → Option Active
near_at it id = own_in id (slice_get it.near (id % PLACES))

-- the active request of a number
abbrev pub active_at : Started → ℕ → Option Active
active_at it id = or_else (near_at it id) (get nat_eq it.far id)
