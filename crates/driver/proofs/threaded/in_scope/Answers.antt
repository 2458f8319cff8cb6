-- What the joined threads promised has come.
use Rattle.driver.proofs.threaded.in_scope.Goals as goal

pub returns-clause-fed : goal.returns-clause-fed
returns-clause-fed g c = c.finish_all-fed.ensures.fed c.args.sources.items c.args.feeds.items c.args.gate.now c.start_all-all.ensures.promises
