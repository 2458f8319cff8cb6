-- No rank so far has a fault.
use Rattle.std.proofs.Common.{◌≡◌, drop}
use Rattle.gather.specs.Collected.{refusal_in}
use Rattle.gather.proofs.ledger.Ledger.refusal.Given as goal

abbrev pub invariant-loop-rank : goal.invariant-loop-rank
invariant-loop-rank l = refusal_in 0 l.fn.self.faults ≡ refusal_in l.rank (drop l.rank l.fn.self.faults)
