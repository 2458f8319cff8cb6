use Rattle.std.proofs.Common.{◌∙◌, refl, ap, length, arith}
use Rattle.waitgraph.specs.inner.Loose.{set_of, loosens}
use Rattle.waitgraph.proofs.SweepLemmas.{swept_none, swept_marked, swept_passed, swept_all, rising, below}
use Rattle.waitgraph.proofs.loose.sweep.Goals.{then-is_next, else-is_next}
use Rattle.waitgraph.proofs.loose.sweep.Goals as goal

pub loop-rank-init : goal.loop-rank-init
loop-rank-init c = swept_none (loosens (set_of c.args.opened.now) c.args.standings.now c.args.waits.now) (length c.args.standings.now) c.args.marks.now.items c.requires.marks

pub mark-requires : goal.mark-requires
mark-requires c = omega (arith, c.loop-rank-test.true, c.loop-rank.invariant.len)

pub loop-rank-preserved : goal.loop-rank-preserved
loop-rank-preserved c =
    elim c.if-is_next.branch [
      | then-is_next w ↦
          let items = ap (λ v. v.items) w.marks-is ∙ w.mark.ensures in
          rw (items, w.more-is)
          (swept_marked (loosens (set_of c.args.opened.now) c.args.standings.now c.args.waits.now) (length c.args.standings.now) c.loop-rank.rank c.args.marks.now.items c.loop-rank.marks.items c.loop-rank.more
          (rising (set_of c.args.opened.now) c.args.standings.now c.args.waits.now) c.loop-rank-test.true
          (rw c.deref.ensures.value at (w.if-is_next.ensures.now refl)) (rw c.deref.ensures.value at (w.if-is_next.ensures.new refl)) c.loop-rank.invariant)
      | else-is_next w ↦
          let items = ap (λ v. v.items) w.marks-is in
          rw (items, w.more-is)
          (swept_passed (loosens (set_of c.args.opened.now) c.args.standings.now c.args.waits.now) (length c.args.standings.now) c.loop-rank.rank c.args.marks.now.items c.loop-rank.marks.items c.loop-rank.more
          (rw c.deref.ensures.value at (w.if-is_next.ensures.not_now refl)) c.loop-rank.invariant)
    ]

pub returns-clause-len : goal.returns-clause-len
returns-clause-len c = c.loop-rank.invariant.len

pub returns-clause-sweeps : goal.returns-clause-sweeps
returns-clause-sweeps c =
    swept_all (loosens (set_of c.args.opened.now) c.args.standings.now c.args.waits.now) (length c.args.standings.now) c.loop-rank.rank c.args.marks.now.items c.loop-rank.marks.items c.loop-rank.more (below (set_of c.args.opened.now) c.args.standings.now c.args.waits.now) c.loop-rank-test.false c.loop-rank.invariant
