use Rattle.waitgraph.proofs.HeldAmongLemmas.{lists_among}
use Rattle.waitgraph.proofs.held.held_in.Goals as goal

pub returns : goal.returns
returns c =
    lists_among c.args.scene.now c.args.asked.now c.in_ok-marks.marks.items c.in_ok-held.held.items c.requires.stands c.in_ok-marks.ensures.len c.in_ok-marks.ensures.are (rw c.deref.ensures.value at c.in_ok-held.ensures)
