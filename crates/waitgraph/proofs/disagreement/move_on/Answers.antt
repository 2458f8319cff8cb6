use Rattle.std.proofs.Common.{◌≡◌, ◌∙◌, true, sym, arith}
use Rattle.moves.specs.Runs.{moved}
use Rattle.waitgraph.specs.inner.Agreed.{rule_of}
use Rattle.waitgraph.proofs.AgreedLemmas.{has_ranks, one_moved, moved_more, less_left, step_reached}
use Rattle.waitgraph.proofs.disagreement.move_on.Goals as goal

pub step-requires-clause-is_rank : goal.step-requires-clause-is_rank
step-requires-clause-is_rank c =
    omega (arith, c.requires.is_rank, has_ranks c.args.world.now c.loop-stands.stands.items c.loop-stands.invariant.reached)

pub loop-stands-smaller : goal.loop-stands-smaller
loop-stands-smaller c =
    let w = c.args.world.now in
    let s = c.loop-stands.stands.items in
    let can : rule_of w s c.args.rank ≡ true = rw c.deref.ensures.value at (sym c.in_ok-moves_agreed.ensures.moves ∙ c.if-branch.true) in
    rw c.step.ensures
    (less_left w s (moved s c.args.rank) (step_reached w s c.args.rank c.requires.is_rank can c.loop-stands.invariant.reached)
    (moved_more w s c.args.rank c.requires.is_rank c.loop-stands.invariant.reached))

pub loop-stands-preserved : goal.loop-stands-preserved
loop-stands-preserved c =
    let w = c.args.world.now in
    let s = c.loop-stands.stands.items in
    let can : rule_of w s c.args.rank ≡ true = rw c.deref.ensures.value at (sym c.in_ok-moves_agreed.ensures.moves ∙ c.if-branch.true) in
    rw c.step.ensures (one_moved w c.args.stands.now.items s c.args.rank c.loop-stands.has_moved c.requires.is_rank can c.loop-stands.invariant)
