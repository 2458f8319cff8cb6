-- None of the lines so far names the world.
use Rattle.std.proofs.Common.{◌≡◌, false, take}
use Rattle.closing.specs.inner.Surveyed.{name_world}
use Rattle.closing.proofs.survey.world_in.Given as goal

abbrev pub invariant-loop-line : goal.invariant-loop-line
invariant-loop-line l = name_world (take l.line l.lines) ≡ false
