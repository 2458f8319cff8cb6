use Rattle.std.proofs.Common.{◌≡◌, ◌∙◌, true, false, sym, subst, ap, length, arith}
use Rattle.waitgraph.proofs.AgreedLemmas.{less_left, end_agreed}
use Rattle.waitgraph.proofs.disagreement.agreed_stands.Goals as goal

pub loop-stands-smaller : goal.loop-stands-smaller
loop-stands-smaller c =
    let w = c.args.world.now in
    less_left w c.loop-stands.stands.items c.sweep.new.stands.items c.in_ok-sweep.ensures.moved.reached (c.in_ok-sweep.ensures.moved.some c.if-branch.true)

pub returns : goal.returns
returns c =
    end_agreed c.args.world.now c.sweep.new.stands.items c.in_ok-sweep.ensures.moved.reached (c.in_ok-sweep.ensures.none c.if-branch.false)
