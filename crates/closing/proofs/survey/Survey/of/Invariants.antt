-- The journals of the ranks so far were taken.
use Rattle.closing.specs.inner.Surveyed.{IsSurveyedTo, run_of_journals}
use Rattle.closing.proofs.survey.Survey.of.Given as goal

abbrev pub invariant-loop-rank : goal.invariant-loop-rank
invariant-loop-rank l = IsSurveyedTo (run_of_journals l.journals) l.rank l.survey
