-- What stands for the requests so far.
use Rattle.std.proofs.Common.{◌≡◌, ◌==◌, ℕ, nat_eq, take}
use Rattle.std.specs.HashSet.{contains}
use Rattle.std.specs.List.{list_any}
use Rattle.closing.specs.inner.Standings.{id_in}
use Rattle.closing.proofs.freed.ids_of.Given as goal

abbrev pub invariant-loop-request : goal.invariant-loop-request
invariant-loop-request l = (id : ℕ) → contains nat_eq l.ids id ≡ list_any (λ request. id_in l.matched request == id) (take l.request-index l.requests)
