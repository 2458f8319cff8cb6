-- How far a source is.
use Rattle.std.specs.Prelude.{Bool, true, false, if◌then◌else◌}
use Rattle.mpicall.specs.declared.call.Call.{Call}
use Rattle.mpicall.specs.Ending.{ends_list}
use Rattle.mpicall.specs.declared.source.Stage.{Stage}
use Rattle.mpicall.specs.declared.source.Stage.TheVariants.{Reading, Ended, Failed}
use Rattle.mpicall.specs.declared.fault.SourceFault.TheVariants.{GateStopped, ThreadNotStarted}

-- after a record
abbrev pub stage_behind : Call → Stage
stage_behind call = if ends_list call then Ended else Reading

-- the fault, if there is one, is none of those that only feeding threads meet
abbrev pub is_own : Stage → Bool
is_own (Failed GateStopped) = false
is_own (Failed ThreadNotStarted) = false
is_own stage = true
