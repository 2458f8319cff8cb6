-- What a walk has of a call that makes communicators.
use Rattle.std.specs.Prelude.{◌≡◌, ℕ, ◌≤◌, Option, Some, None, true, option_map, length}
use Rattle.closing.specs.Entries.{Run, Placed}
use Rattle.closing.specs.Keys.{Key, group_of_key}
use Rattle.closing.specs.Made.{key_made, wave_at}
use Rattle.closing.specs.Entry.{maker}
use Rattle.closing.specs.RankComms.{makes_comm}
use Rattle.closing.specs.Table.{Table}
use Rattle.closing.specs.inner.Views.{called_view}
use Rattle.closing.specs.inner.Walks.{Spot}
use Rattle.closing.specs.declared.called.Called.{Called as CalledCode}
use Rattle.closing.specs.Numbers.{named_key}
use Rattle.closing.specs.inner.Numbered.{IsNumberedRun}
use Rattle.closing.specs.inner.Table.{HasKey, IsPlaceOf, IsWaveOf}
use Rattle.closing.specs.declared.numbers.Communicators.{Communicators}
use Rattle.closing.specs.declared.numbers.Named.{Named}
use Rattle.closing.specs.declared.walk.At.{At}
use Rattle.closing.specs.declared.walk.made.New.{New}

-- the communicator has no more members than a run may have
abbrev pub IsSmall : Run → Key → Type 0
IsSmall run key = length (group_of_key (length run) key) ≤ 1024

-- what the rank's walk has of the communicators of an entry's call is what the definitions have
pub record MeetsMaker (run : Run) (placed : Placed) (comms : Communicators) (own : ℕ) (it : At) : Type 0 where
  pub numbered : IsNumberedRun run comms
  pub rank : placed.rank ≡ own
  pub named : IsPlaceOf comms.keys (option_map (λ (named : Named). named.key) it.named) (named_key placed)
  pub wave : IsWaveOf comms.keys it.wave (wave_at placed)
  pub made : IsPlaceOf comms.keys it.made (key_made run placed)
  pub small_on : (key : Key) → named_key placed ≡ Some key → IsSmall run key
  pub small_made : (key : Key) → key_made run placed ≡ Some key → IsSmall run key

-- the communicator that the call made, where it has a number
abbrev pub IsNewOf : Table → Option New → Option Key → Option ℕ → Type 0
IsNewOf table None key number = number ≡ None
IsNewOf table (Some it) None number = ⊥
IsNewOf table (Some it) (Some key) number = HasKey table it.key key × (number ≡ Some it.number)

-- where the call makes communicators, what the walk has of it is what the definitions have
pub record IsMaking (spot : Spot) (comms : Communicators) (rank : ℕ) (it : At) (call : CalledCode) : Type 0 where
  pub run : Run
  pub placed : Placed
  pub meets : MeetsMaker run placed comms rank it
  pub called : placed.called ≡ called_view call
  pub maker : spot.maker ≡ maker run placed

abbrev pub MayMake : Spot → Communicators → ℕ → At → CalledCode → Type 0
MayMake spot comms rank it called = makes_comm (called_view called) ≡ true → IsMaking spot comms rank it called
