-- The sinks of a list as they are kept, against those of the definitions.
use Rattle.std.specs.Prelude.{◌≡◌, ℕ, nat_eq, ◌==◌, Option, None, Some, if◌then◌else◌, List}
use Rattle.std.specs.HashMap.{get}
use Rattle.closing.specs.Pending.{sinks_from}
use Rattle.closing.specs.Sinks.{sink_for}
use Rattle.closing.specs.Steps.{Own, Written}
use Rattle.closing.specs.declared.pending.Sinks.{Sinks}
use Rattle.closing.specs.declared.pending.Wanted.{Wanted}

-- what is kept of a request or message of the journal
abbrev pub named_in : Sinks → ℕ → Option Wanted
named_in it id = get nat_eq it.named id

-- those of these records, and what each request's sink may take
pub record HasSinks (records : List Written) (it : Sinks) : Type 0 where
  pub all : it.all.items ≡ sinks_from 0 records
  pub named : (id : ℕ) → named_in it id ≡ sink_for records (Own id)

-- what a sink keeps of a request or message, where it has one
abbrev pub name_of : Option ℕ → Wanted → ℕ → Option Wanted
name_of None wanted id = None
name_of (Some own) wanted id = if own == id then Some wanted else None
