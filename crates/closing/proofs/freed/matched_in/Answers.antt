-- One line more, or all of them.
use Rattle.std.proofs.Common.{arith}
use Rattle.closing.proofs.FreedIds.{matched_all, matched_more}
use Rattle.closing.proofs.freed.matched_in.Goals as goal

pub loop-line-preserved : goal.loop-line-preserved
loop-line-preserved c =
    matched_more c.args.lines.now c.loop-line.line c.loop-line.matched c.take_matched.new.matched c.loop-line.invariant c.in_ok-take_matched.ensures

pub returns : goal.returns
returns c = λ places.
    matched_all c.args.lines.now c.loop-line.line c.loop-line.matched (omega (arith, places, c.loop-line-test.false, c.count_of-line-end.ensures.exact)) c.loop-line.invariant
