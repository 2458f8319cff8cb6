-- The line of a wait.
use Rattle.mpicall.proofs.OftenLemmas.{wait_spelled}
use Rattle.mpicall.proofs.often.read_wait.Goals as goal

pub returns : goal.returns
returns c = wait_spelled _ _ _ c.requires (c.begin_with.ensures c.if-not-begin_with.false) c.in_ok-req.ensures
