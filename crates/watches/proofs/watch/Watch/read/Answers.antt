use Rattle.watches.specs.Published.{list_known}
use Rattle.watches.proofs.RisingLemmas.{never_falls_self}
use Rattle.watches.proofs.watch.Watch.read.Goals as goal

pub returns-then-rank-self-clause-never_falls : goal.returns-then-rank-self-clause-never_falls
returns-then-rank-self-clause-never_falls c = never_falls_self (list_known c.args.self.now.known)
