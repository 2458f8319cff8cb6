-- The ranks so far have the mark.
use Rattle.std.proofs.Common.{◌≡◌, ℕ, ◌<◌}
use Rattle.journals.specs.inner.Marks.{ranks_in, mark_at}
use Rattle.journals.proofs.group.Marks.set_all.Given as goal

abbrev pub invariant-loop-rank : goal.invariant-loop-rank
invariant-loop-rank l = record {
  ranks : ranks_in l.self ≡ ranks_in l.initial.self;
  marks : (k : ℕ) → k < l.rank → mark_at l.self k ≡ l.mark;
}
