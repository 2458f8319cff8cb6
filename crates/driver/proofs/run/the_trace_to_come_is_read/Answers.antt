-- By the stages of a source.
use Rattle.driver.proofs.ToldLemmas.{to_come_is_read, read_is_to_come}
use Rattle.driver.proofs.run.the_trace_to_come_is_read.Goals as goal

pub returns : goal.returns
returns g c = λ source trace. (to_come_is_read g.I.Input.left source trace, read_is_to_come g.I.Input.left source trace)
