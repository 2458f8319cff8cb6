-- What is known of a kept line.
use Rattle.mpicall.proofs.remembered.KnownLine.line.Goals as goal

pub returns : goal.returns
returns c = rw c.from.ensures c.args.self.now.spelled
