-- The members to come still answer what all of them do.
use Rattle.std.proofs.Common.{◌≡◌, ℕ, ◌||◌, length}
use Rattle.journals.specs.Known.{is_among}
use Rattle.journals.specs.inner.Naturals.{naturals, each_once, AreMembers}
use Rattle.journals.specs.inner.Marks.{ranks_in, mark_at, is_in_parent, is_in_both}
use Rattle.journals.proofs.group.Marks.mark_group.Given as goal

abbrev pub invariant-loop-group : goal.invariant-loop-group
invariant-loop-group l = record {
  ranks : ranks_in l.self ≡ ranks_in l.initial.self;
  members : AreMembers (ranks_in l.initial.self) l.group;
  value : each_once (λ rank. is_in_parent (mark_at l.self rank)) (naturals l.group) ≡ each_once (λ rank. is_in_parent (mark_at l.initial.self rank)) (naturals l.initial.group);
  marks : (rank : ℕ) → (is_in_both (mark_at l.self rank) || is_among rank (naturals l.group)) ≡ (is_in_both (mark_at l.initial.self rank) || is_among rank (naturals l.initial.group));
}

abbrev pub decreases-loop-group : goal.decreases-loop-group
decreases-loop-group l = length l.group
