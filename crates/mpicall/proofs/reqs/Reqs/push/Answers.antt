-- The cells after the numbers stay 0.
use Rattle.std.proofs.Common.{arith, ◌<◌, ap, length, ◌∙◌}
use Rattle.std.proofs.lemmas.List.{length-set}
use Rattle.mpicall.specs.inner.Cells.{same_len}
use Rattle.mpicall.proofs.CellLemmas.{zeros_behind}
use Rattle.mpicall.proofs.reqs.Reqs.push.Goals as goal

pub invariant_of-self : goal.invariant_of-self
invariant_of-self c =
    let i = c.self.invariant in
    let buffered = same_len c.self.inside.len c.self.inside.cells i.1 i.2 in
    let count = ap length c.self.view_is in
    let room : c.self.inside.len < 64 = omega (arith, buffered, count) in
    rw c.from.ensures (omega arith, omega arith, length-set _ _ _ ∙ i.2, zeros_behind c.self.inside.cells c.self.inside.len c.args.number room i.3)
