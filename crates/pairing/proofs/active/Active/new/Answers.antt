-- Nothing is active where no call was made.
use Rattle.std.proofs.Common.{◌*◌, arith, rules}
use Rattle.std.proofs.lemmas.Grind.{common_steps}
use Rattle.pairing.specs.inner.Starts.{cell_no}
use Rattle.pairing.proofs.ActiveLemmas.{no_cell}
use Rattle.callstore.proofs.PlacesLemmas.{no_calls}
use Rattle.pairing.proofs.active.Active.new.Goals as goal

pub returns : goal.returns
returns c ranks rank req =
    let cells = c.in_ok-vec.ensures.items_if_clones_equal (λ y is. search rules) in
    rw (no_calls ranks rank, cells, no_cell (c.from.result * 64) (cell_no rank req)) (grind (arith, common_steps))
