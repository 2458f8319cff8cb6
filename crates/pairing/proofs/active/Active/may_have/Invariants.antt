use Rattle.std.proofs.Common.{◌≡◌, ◌%◌, ◌<◌, ℕ, None}
use Rattle.pairing.specs.inner.Starts.{cell_in, place_at}
use Rattle.pairing.proofs.active.Active.may_have.Given as goal

-- the cells so far have no request of their own
abbrev pub invariant-loop-index : goal.invariant-loop-index
invariant-loop-index l = (req : ℕ) → req % 64 < l.index → place_at req (cell_in l.self l.rank req) ≡ None
