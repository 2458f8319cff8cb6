-- No record was asked of the sources so far.
use Rattle.driver.specs.VerdictContract.{AreFresh}
use Rattle.session_tests.proofs.whole_runs.sources_of.Given as goal

abbrev pub invariant-loop-text : goal.invariant-loop-text
invariant-loop-text l = AreFresh l.sources.items
