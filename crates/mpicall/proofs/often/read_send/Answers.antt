-- The line of a send.
use Rattle.mpicall.proofs.OftenLemmas.{send_spelled}
use Rattle.mpicall.proofs.often.read_send.Goals as goal

pub returns : goal.returns
returns c = send_spelled _ _ _ _ _ _ c.requires (c.begin_with.ensures c.if-not-begin_with.false) c.in_ok-message.ensures
