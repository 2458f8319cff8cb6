-- The lines so far keep to the world.
use Rattle.std.proofs.Common.{◌≡◌, take, true}
use Rattle.closing.specs.inner.Surveyed.{keep_to_world}
use Rattle.closing.proofs.survey.keep_to_world.Given as goal

abbrev pub invariant-loop-line : goal.invariant-loop-line
invariant-loop-line l = keep_to_world (take l.line l.lines) ≡ true
