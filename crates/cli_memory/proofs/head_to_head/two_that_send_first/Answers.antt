-- The words and the texts are those of the lemmas.
use Rattle.std.proofs.Common.{refl}
use Rattle.cli_memory.proofs.HeadToHeadLemmas.{ends_in_hang}
use Rattle.cli_memory.proofs.head_to_head.two_that_send_first.Goals as goal

pub returns-clause-hang : goal.returns-clause-hang
returns-clause-hang g c other = (ends_in_hang c.program.ensures refl refl refl refl other).status_is

pub returns-clause-report : goal.returns-clause-report
returns-clause-report g c other = (ends_in_hang c.program.ensures refl refl refl refl other).output.0

pub returns-clause-errors : goal.returns-clause-errors
returns-clause-errors g c other = (ends_in_hang c.program.ensures refl refl refl refl other).errors
