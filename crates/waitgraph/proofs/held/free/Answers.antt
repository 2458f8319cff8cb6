use Rattle.std.proofs.Common.{◌∙◌, false, refl, sym, length}
use Rattle.std.proofs.lemmas.List.{length-replicate}
use Rattle.std.proofs.lemmas.Bool.{false≢true}
use Rattle.waitgraph.specs.inner.Among.{free_among}
use Rattle.waitgraph.specs.inner.Loose.{set_of}
use Rattle.waitgraph.proofs.HeldAmongLemmas.{free_closed, marks_are_free}
use Rattle.waitgraph.proofs.SweepLemmas.{none_marked, less_left}
use Rattle.waitgraph.proofs.held.free.Goals as goal

pub loop-init : goal.loop-init
loop-init c = record {
  len = rw c.in_ok-marks.ensures (length-replicate (length c.args.scene.now.world.now.pairs.recording) false);
  within = rw c.in_ok-marks.ensures (λ rank h. absurd (false≢true (sym (none_marked (length c.args.scene.now.world.now.pairs.recording) rank) ∙ h)));
}

pub loop-smaller : goal.loop-smaller
loop-smaller c = less_left (set_of c.loop.marks.items) (length c.args.scene.now.world.now.pairs.recording) (set_of c.loop.marks.items) (set_of c.sweep.new.marks.items) (c.loop-test.ensures.sweeps.more refl)

pub loop-preserved : goal.loop-preserved
loop-preserved c = record {
  len = c.loop-test.ensures.len;
  within = c.loop-test.ensures.sweeps.within (free_among c.args.scene.now c.args.asked.now) (free_closed c.args.scene.now c.args.asked.now) c.loop.invariant.within;
}

pub returns-clause-len : goal.returns-clause-len
returns-clause-len c = c.loop-test.ensures.len

pub returns-clause-are : goal.returns-clause-are
returns-clause-are c =
    marks_are_free c.args.scene.now c.args.asked.now c.sweep.new.marks.items
    (c.loop-test.ensures.sweeps.within (free_among c.args.scene.now c.args.asked.now) (free_closed c.args.scene.now c.args.asked.now) c.loop.invariant.within)
    (c.loop-test.ensures.sweeps.closed refl)
