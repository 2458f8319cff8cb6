use Rattle.std.proofs.Common.{◌≡◌, [], map, replicate}
use Rattle.callstore.specs.inner.Notes.{NotedList}
use Rattle.callstore.proofs.notes.Notes.new.Given as goal

abbrev pub invariant-loop-rank : goal.invariant-loop-rank
invariant-loop-rank l = map (λ (list : NotedList). list.calls) l.lists.items ≡ replicate l._rank []
