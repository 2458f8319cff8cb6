-- The line of a receive.
use Rattle.std.proofs.Common.{◌∙◌, sym}
use Rattle.mpicall.proofs.OftenLemmas.{recv_spelled}
use Rattle.mpicall.proofs.often.read_recv.Goals as goal

pub returns : goal.returns
returns c = recv_spelled _ _ _ _ _ _ (sym c.is_some.ensures ∙ c.if-is_some.false) c.requires (c.begin_with.ensures c.if-not-begin_with.false) c.in_ok-message.ensures
