-- No rank is stopped where it may not be.
use Rattle.driver.proofs.HeldLemmas.{refusing_stops}
use Rattle.driver.proofs.run.outcome_of.Goals as goal

pub returns-in-Threads-clause-stopped : goal.returns-in-Threads-clause-stopped
returns-in-Threads-clause-stopped g c = refusing_stops g.I.Input.left (g.G.Gate.may_answer c.args.gate.now) c.args.sources.items c.args.head c.outcome_in_threads.result c.outcome_in_threads.ensures.fault

pub returns-in-Turns-clause-stopped : goal.returns-in-Turns-clause-stopped
returns-in-Turns-clause-stopped g c = refusing_stops g.I.Input.left (g.G.Gate.may_answer c.args.gate.now) c.args.sources.items c.args.head c.outcome_in_turns.result c.outcome_in_turns.ensures.fault
