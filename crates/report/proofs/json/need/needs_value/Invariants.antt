use Rattle.std.proofs.Common.{◌≡◌, map, take}
use Rattle.serde_json.specs.View.{view}
use Rattle.report.specs.JsonReport.{need_data}
use Rattle.report.proofs.json.need.needs_value.Given as goal

-- the needs so far
abbrev pub invariant-loop-need : goal.invariant-loop-need
invariant-loop-need l = map view l.list.items ≡ map need_data (take l.need-index l.needs)
