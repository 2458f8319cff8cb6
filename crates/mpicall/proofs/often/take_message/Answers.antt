-- Each field of a message.
use Rattle.std.proofs.Common.{arith}
use Rattle.mpicall.proofs.OftenLemmas.{message_whole}
use Rattle.mpicall.proofs.often.take_message.Goals as goal

pub returns : goal.returns
returns c = message_whole _ _ _ _ _ _ _ _ _ _ c.in_ok-comm.ensures c.in_ok-rank.ensures c.in_ok-tag.ensures.is c.in_ok-said.ensures (omega arith) (omega arith)
