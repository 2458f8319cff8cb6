use Rattle.std.proofs.Common.{◌≡◌, map, take}
use Rattle.serde_json.specs.View.{view}
use Rattle.report.specs.PendingReport.{awaited_data}
use Rattle.report.proofs.json.pending.awaits_value.Given as goal

-- what is awaited so far
abbrev pub invariant-loop-one : goal.invariant-loop-one
invariant-loop-one l = map view l.list.items ≡ map awaited_data (take l.one-index l.awaits)
