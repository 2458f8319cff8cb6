use Rattle.std.proofs.Common.{◌∙◌, Bool, refl, ap, length, arith}
use Rattle.waitgraph.specs.inner.Among.{frees_among}
use Rattle.waitgraph.proofs.HeldAmongLemmas.{rising, below}
use Rattle.waitgraph.proofs.SweepLemmas.{swept_none, swept_marked, swept_passed, swept_all}
use Rattle.waitgraph.proofs.held.sweep.Goals.{then-is_next, else-is_next}
use Rattle.waitgraph.proofs.held.sweep.Goals as goal

pub loop-rank-init : goal.loop-rank-init
loop-rank-init c = swept_none (frees_among c.args.scene.now c.args.asked.now) (length c.args.scene.now.world.now.pairs.recording) c.args.marks.now.items c.requires.marks

pub is_next-requires-clause-marks : goal.is_next-requires-clause-marks
is_next-requires-clause-marks c = ap (length {A = Bool}) c.deref.ensures.value ∙ c.loop-rank.invariant.len

pub mark-requires : goal.mark-requires
mark-requires c = omega (arith, c.loop-rank-test.true, c.loop-rank.invariant.len, c.ranks-rank-end.ensures)

pub loop-rank-preserved : goal.loop-rank-preserved
loop-rank-preserved c =
    elim c.if-is_next.branch [
      | then-is_next w ↦
          let items = ap (λ v. v.items) w.marks-is ∙ w.mark.ensures in
          rw (items, w.more-is)
          (swept_marked (frees_among c.args.scene.now c.args.asked.now) (length c.args.scene.now.world.now.pairs.recording) c.loop-rank.rank c.args.marks.now.items c.loop-rank.marks.items c.loop-rank.more
          (rising c.args.scene.now c.args.asked.now) (omega (arith, c.loop-rank-test.true, c.ranks-rank-end.ensures))
          (rw c.deref.ensures.value at (w.if-is_next.ensures.now refl)) (rw c.deref.ensures.value at (w.if-is_next.ensures.new refl)) c.loop-rank.invariant)
      | else-is_next w ↦
          let items = ap (λ v. v.items) w.marks-is in
          rw (items, w.more-is)
          (swept_passed (frees_among c.args.scene.now c.args.asked.now) (length c.args.scene.now.world.now.pairs.recording) c.loop-rank.rank c.args.marks.now.items c.loop-rank.marks.items c.loop-rank.more
          (rw c.deref.ensures.value at (w.if-is_next.ensures.not_now refl)) c.loop-rank.invariant)
    ]

pub returns-clause-len : goal.returns-clause-len
returns-clause-len c = c.loop-rank.invariant.len

pub returns-clause-sweeps : goal.returns-clause-sweeps
returns-clause-sweeps c =
    swept_all (frees_among c.args.scene.now c.args.asked.now) (length c.args.scene.now.world.now.pairs.recording) c.loop-rank.rank c.args.marks.now.items c.loop-rank.marks.items c.loop-rank.more (below c.args.scene.now c.args.asked.now)
    (omega (arith, c.loop-rank-test.false, c.ranks-rank-end.ensures)) c.loop-rank.invariant
