use Rattle.std.proofs.Common.{◌≡◌, true, not, take}
use Rattle.std.specs.List.{list_all}
use Rattle.waitgraph.specs.inner.Loose.{set_of, are_held, goes_on}
use Rattle.waitgraph.proofs.loose.hop_by.Given as goal

-- the walk goes on by none of the needs so far
abbrev pub invariant-loop-need : goal.invariant-loop-need
invariant-loop-need l = list_all (λ need. not (goes_on (set_of l.opened) (are_held (set_of l.opened) l.standings l.waits) need)) (take l.need-index l.needs) ≡ true
