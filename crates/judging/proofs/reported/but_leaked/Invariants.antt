-- Those of the findings so far.
use Rattle.std.proofs.Common.{◌≡◌, take}
use Rattle.closing.specs.declared.choice.Calls.TheVariants.{Strict}
use Rattle.judging.specs.Judging.{is_no_leak, reported_by}
use Rattle.judging.specs.inner.Turns.{IsDone}
use Rattle.judging.proofs.reported.but_leaked.Given as goal

abbrev pub invariant-loop-finding : goal.invariant-loop-finding
invariant-loop-finding l =
    IsDone l.recording → l.reported.items ≡ reported_by Strict (is_no_leak l.recording.run l.recording.choice) (take l.finding-index l.findings)
