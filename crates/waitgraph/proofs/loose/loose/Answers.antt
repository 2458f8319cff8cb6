use Rattle.std.proofs.Common.{◌∙◌, false, refl, sym, length}
use Rattle.std.proofs.lemmas.List.{length-replicate}
use Rattle.std.proofs.lemmas.Bool.{false≢true}
use Rattle.waitgraph.specs.inner.Loose.{set_of, are_loose}
use Rattle.waitgraph.proofs.SweepLemmas.{none_marked, marks_are_loose, less_left, the_loose_are_the_least}
use Rattle.waitgraph.proofs.loose.loose.Goals as goal

pub loop-init : goal.loop-init
loop-init c = record {
  len = rw c.in_ok-marks.ensures (length-replicate (length c.args.standings.now) false);
  within = rw c.in_ok-marks.ensures (λ rank h. absurd (false≢true (sym (none_marked (length c.args.standings.now) rank) ∙ h)));
}

pub loop-smaller : goal.loop-smaller
loop-smaller c = less_left (set_of c.args.opened.now) (length c.args.standings.now) (set_of c.loop.marks.items) (set_of c.sweep.new.marks.items) (c.loop-test.ensures.sweeps.more refl)

pub loop-preserved : goal.loop-preserved
loop-preserved c = record {
  len = c.loop-test.ensures.len;
  within = c.loop-test.ensures.sweeps.within (are_loose (set_of c.args.opened.now) c.args.standings.now c.args.waits.now) (the_loose_are_the_least (set_of c.args.opened.now) c.args.standings.now c.args.waits.now).0 c.loop.invariant.within;
}

pub returns : goal.returns
returns c =
    marks_are_loose (set_of c.args.opened.now) c.args.standings.now c.args.waits.now c.sweep.new.marks.items
    (c.loop-test.ensures.sweeps.within (are_loose (set_of c.args.opened.now) c.args.standings.now c.args.waits.now) (the_loose_are_the_least (set_of c.args.opened.now) c.args.standings.now c.args.waits.now).0 c.loop.invariant.within)
    (c.loop-test.ensures.sweeps.closed refl)
