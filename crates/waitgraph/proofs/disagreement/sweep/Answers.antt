use Rattle.std.proofs.Common.{Bool, subst, sym}
use Rattle.waitgraph.specs.inner.Agreed.{MovedOn, SweptOn}
use Rattle.waitgraph.proofs.AgreedLemmas.{one_swept, passed_swept}
use Rattle.waitgraph.proofs.disagreement.sweep.Goals.{then-branch, else-branch}
use Rattle.waitgraph.proofs.disagreement.sweep.Goals as goal

pub loop-rank-preserved : goal.loop-rank-preserved
loop-rank-preserved c =
    let w = c.args.world.now in
    let old = c.args.stands.now.items in
    let s = c.loop-rank.stands.items in
    let t = c.move_on.new.stands.items in
    let rank = c.loop-rank.rank in
    elim c.if-branch.branch [
      | then-branch b ↦
          rw b.more-is (one_swept w old s t rank c.loop-rank.more c.loop-rank.invariant (subst (λ (m : Bool). MovedOn w rank s t m) b.if-branch.true c.in_ok-move_on.ensures))
      | else-branch b ↦
          rw b.more-is (passed_swept w old s t rank c.loop-rank.more c.loop-rank.invariant (subst (λ (m : Bool). MovedOn w rank s t m) b.if-branch.false c.in_ok-move_on.ensures))
    ]
