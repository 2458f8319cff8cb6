use Rattle.cli.proofs.argv.status_on.Goals as goal

pub returns-clause-ended : goal.returns-clause-ended
returns-clause-ended g c = (_, c.program.ensures)
