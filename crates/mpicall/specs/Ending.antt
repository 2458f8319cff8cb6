-- Which calls end the list of a rank's calls.
use Rattle.std.specs.Prelude.{Bool, true, false}
use Rattle.mpicall.specs.declared.call.Call.{Call}
use Rattle.mpicall.specs.declared.call.Call.TheVariants.{Finalize, Open}

-- no call of the rank comes after this one
abbrev pub ends_list : Call → Bool
ends_list Finalize = true
ends_list Open = true
ends_list _ = false
