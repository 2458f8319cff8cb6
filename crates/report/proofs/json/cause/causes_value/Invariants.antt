use Rattle.std.proofs.Common.{◌≡◌, map, take}
use Rattle.serde_json.specs.View.{view}
use Rattle.waitgraph.specs.Causes.{view_of}
use Rattle.report.specs.JsonReport.{cause_data}
use Rattle.report.proofs.json.cause.causes_value.Given as goal

-- the causes so far
abbrev pub invariant-loop-cause : goal.invariant-loop-cause
invariant-loop-cause l = map view l.list.items ≡ map (λ cause. cause_data (view_of cause)) (take l.cause-index l.causes)
