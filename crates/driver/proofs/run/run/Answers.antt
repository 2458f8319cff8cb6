-- The clauses of `run_by`.
use Rattle.driver.proofs.run.run.Goals as goal

pub returns-clause-accepted : goal.returns-clause-accepted
returns-clause-accepted g c = c.run_by.ensures.accepted

pub returns-clause-verdict : goal.returns-clause-verdict
returns-clause-verdict g c = c.run_by.ensures.verdict

pub returns-clause-refused : goal.returns-clause-refused
returns-clause-refused g c = c.run_by.ensures.refused

pub returns-clause-fed : goal.returns-clause-fed
returns-clause-fed g c = c.run_by.ensures.fed

pub returns-clause-stopped : goal.returns-clause-stopped
returns-clause-stopped g c = c.run_by.ensures.stopped

pub returns-clause-written : goal.returns-clause-written
returns-clause-written g c = c.run_by.ensures.written

pub returns-clause-no_write_failed : goal.returns-clause-no_write_failed
returns-clause-no_write_failed g c = c.run_by.ensures.no_write_failed

pub returns-clause-output : goal.returns-clause-output
returns-clause-output g c = c.run_by.ensures.output
