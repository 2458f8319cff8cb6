-- The line of a send that is started.
use Rattle.mpicall.proofs.OftenLemmas.{isend_spelled}
use Rattle.mpicall.proofs.often.read_isend.Goals as goal

pub returns : goal.returns
returns c = rw c.set_isend.ensures (isend_spelled _ _ _ _ _ _ _ _ c.requires (c.begin_with.ensures c.if-not-begin_with.false) c.in_ok-req.ensures c.in_ok-message.ensures)
