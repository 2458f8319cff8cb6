-- By the trace of what came, whose first line is the record's spelling.
use Rattle.mpicall.specs.Source.{coming}
use Rattle.mpicall.proofs.CutLemmas.{given_first}
use Rattle.mpicall.proofs.lint.records_come_before_a_failed_read.Goals as goal

pub returns : goal.returns
unfolding coming
returns g c = λ old now failed call calls gives none consumed cut. given_first _ _ _ _ _ call calls gives none consumed cut
