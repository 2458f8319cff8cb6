use Rattle.std.proofs.Common.{◌≡◌, map, take}
use Rattle.serde_json.specs.View.{view}
use Rattle.report.specs.JsonReport.{numeral}
use Rattle.report.proofs.json.cause.cycle_value.Given as goal

-- the ranks so far
abbrev pub invariant-loop-rank : goal.invariant-loop-rank
invariant-loop-rank l = map view l.list.items ≡ map numeral (take l.rank-index l.ranks)
