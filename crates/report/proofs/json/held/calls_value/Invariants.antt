use Rattle.std.proofs.Common.{◌≡◌, map, take}
use Rattle.serde_json.specs.View.{view}
use Rattle.report.specs.Judged.{call_data}
use Rattle.report.proofs.json.held.calls_value.Given as goal

-- the calls so far
abbrev pub invariant-loop-call : goal.invariant-loop-call
invariant-loop-call l = map view l.list.items ≡ map call_data (take l.call-index l.calls)
