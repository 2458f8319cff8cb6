use Rattle.std.proofs.Common.{◌≡◌, true, not, take}
use Rattle.std.specs.List.{list_all}
use Rattle.waitgraph.specs.Pending.{may_take}
use Rattle.waitgraph.proofs.may_move.first_sink.Given as goal

-- none of the sinks so far may take it
abbrev pub invariant-loop-sink : goal.invariant-loop-sink
invariant-loop-sink l = list_all (λ sink. not (may_take l.head l.envelope sink)) (take l.sink-index l.sinks) ≡ true
