-- The line of a receive that is started.
use Rattle.std.proofs.Common.{◌∙◌, sym}
use Rattle.mpicall.proofs.OftenLemmas.{irecv_spelled}
use Rattle.mpicall.proofs.often.read_irecv.Goals as goal

pub returns : goal.returns
returns c = rw c.set_irecv.ensures (irecv_spelled _ _ _ _ _ _ _ _ (sym c.is_some.ensures ∙ c.if-is_some.false) c.requires (c.begin_with.ensures c.if-not-begin_with.false) c.in_ok-req.ensures c.in_ok-message.ensures)
