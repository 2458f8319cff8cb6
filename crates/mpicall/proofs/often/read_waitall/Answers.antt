-- One request after the other.
use Rattle.std.proofs.Common.{◌∙◌, ◌<◌, length, sym, arith}
use Rattle.std.proofs.lemmas.Bool.Decides.{nat_tests}
use Rattle.mpicall.proofs.OftenLemmas.{requests_begin, requests_go_on, waitall_spelled}
use Rattle.mpicall.proofs.often.read_waitall.Goals as goal

pub loop-next-init : goal.loop-next-init
loop-next-init c = rw c.of_one-reqs.ensures (requests_begin _ _ _ _ c.requires (c.begin_with.ensures c.if-not-begin_with.false) c.in_ok-first.ensures)

pub loop-next-preserved : goal.loop-next-preserved
loop-next-preserved c =
    let most = c.loop-next.invariant.most in
    let other = sym c.is_full.ensures ∙ c.if-is_full.false in
    let room : length c.loop-next.reqs < 64 = grind (arith, nat_tests, most, other) in
    rw c.push.ensures (requests_go_on _ _ _ _ _ _ _ c.loop-next.invariant c.loop-next-test.true c.in_ok-req.ensures (omega arith) room)

pub loop-next-smaller : goal.loop-next-smaller
loop-next-smaller c = omega (arith, c.loop-next.invariant.within, c.in_ok-req.ensures.is.some)

pub returns : goal.returns
returns c = waitall_spelled _ _ _ _ c.loop-next.invariant c.if-next-ne10.false
