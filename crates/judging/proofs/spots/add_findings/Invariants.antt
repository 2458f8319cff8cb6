-- The calls of the findings so far.
use Rattle.std.proofs.Common.{◌≡◌, take}
use Rattle.std.specs.List.{flat_map}
use Rattle.judging.specs.NamedCalls.{calls_found}
use Rattle.judging.specs.inner.Spots.{with_calls}
use Rattle.judging.proofs.spots.add_findings.Given as goal

abbrev pub invariant-loop-finding : goal.invariant-loop-finding
invariant-loop-finding l = l.spots.keys ≡ with_calls l.fn.spots.keys (flat_map (calls_found l.analyser.groups l.analyser.recording) (take l.finding-index l.findings))
