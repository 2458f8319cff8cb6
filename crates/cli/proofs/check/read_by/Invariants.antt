-- No read of the files so far waits.
use Rattle.std.proofs.Common.{ℕ, ◌<◌, List, Bor, get_or}
use Rattle.cli.proofs.check.read_by.Given as goal

abbrev pub invariant-loop-path : goal.invariant-loop-path
invariant-loop-path g l = (k : ℕ) (d : Bor (List ℕ)) → k < l.path-index → g.P.Opener.never_waits l.opener (get_or l.paths k d).now
