-- The marks that the members to come still make are those that all of them make.
use Rattle.std.proofs.Common.{◌≡◌, ℕ, ◌<◌, if◌then◌else◌, length}
use Rattle.journals.specs.Known.{is_among}
use Rattle.journals.specs.inner.Naturals.{naturals}
use Rattle.journals.specs.inner.Marks.{ranks_in, mark_at}
use Rattle.journals.specs.declared.group.Mark.TheVariants.{InParent}
use Rattle.journals.proofs.group.Marks.mark_members.Given as goal

abbrev pub invariant-loop-members : goal.invariant-loop-members
invariant-loop-members l = record {
  ranks : ranks_in l.self ≡ ranks_in l.initial.self;
  marks : (rank : ℕ) → rank < ranks_in l.initial.self → (if is_among rank (naturals l.members) then InParent else mark_at l.self rank) ≡ (if is_among rank (naturals l.initial.members) then InParent else mark_at l.initial.self rank);
}

abbrev pub decreases-loop-members : goal.decreases-loop-members
decreases-loop-members l = length l.members
