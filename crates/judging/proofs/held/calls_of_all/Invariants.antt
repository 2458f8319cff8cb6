-- The findings so far.
use Rattle.std.proofs.Common.{◌≡◌, map, take}
use Rattle.judging.specs.HeldSaid.{call_said}
use Rattle.judging.specs.NamedCalls.{calls_found}
use Rattle.judging.proofs.held.calls_of_all.Given as goal

abbrev pub invariant-loop-finding : goal.invariant-loop-finding
invariant-loop-finding l = map (λ calls. map call_said calls.items) l.all.items ≡ map (calls_found l.analyser.groups l.analyser.recording) (take l.finding-index l.findings)
