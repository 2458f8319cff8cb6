-- What the members so far are given.
use Rattle.std.proofs.Common.{◌≡◌, ℕ, take}
use Rattle.std.specs.List.{slice_get}
use Rattle.closing.specs.inner.Surveyed.{inferred_with}
use Rattle.closing.proofs.survey.tell_members.Given as goal

abbrev pub invariant-loop-member : goal.invariant-loop-member
invariant-loop-member l =
    (rank : ℕ) → slice_get l.inferred.items rank ≡ inferred_with l.waiting l.fn.inferred.items (take l.member-index l.members) l.key l.made_by rank
