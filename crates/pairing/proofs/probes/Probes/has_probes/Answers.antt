use Rattle.std.proofs.Common.{arith}
use Rattle.pairing.proofs.ProbingLemmas.{has_probes_if}
use Rattle.pairing.proofs.probes.Probes.has_probes.Goals as goal

pub returns : goal.returns
returns c groups recording seating are = has_probes_if groups recording seating c.args.self.now _ (grind (arith, c.is_empty.ensures)) are
