-- Lists that were left open: further calls of their ranks may yet come.
use Rattle.mpicall.specs.Names.{Rank}
use Rattle.std.specs.Prelude.{◌-◌, Bool, true, false, length, slice_get}
use Rattle.std.specs.Option.{option_map_or}
use Rattle.mpicall.specs.declared.call.Call.{Call}
use Rattle.mpicall.specs.declared.call.Call.TheVariants.{Open}
use Rattle.callstore.specs.Recordings.{Lists, calls_of}

-- the call says that its rank's list was left open
abbrev pub leaves_open : Call → Bool
leaves_open Open = true
leaves_open _ = false

-- the last call of the rank's list says so
abbrev pub is_left_open : Lists → Rank → Bool
is_left_open recording rank = option_map_or leaves_open (slice_get (calls_of recording rank) (length (calls_of recording rank) - 1)) false
