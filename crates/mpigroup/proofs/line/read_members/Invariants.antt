use Rattle.std.proofs.Common.{◌≡◌, length}
use Rattle.mpigroup.proofs.MemberLemmas.{AreMembers}
use Rattle.mpigroup.proofs.PlaceLemmas.{AreTold}
use Rattle.mpigroup.proofs.line.read_members.Given as goal

abbrev pub invariant-loop-number : goal.invariant-loop-number
invariant-loop-number l = record {
  read : AreMembers l.ranks l.fn.numbers l.members.items l.numbers;
  told : AreTold l.members.items l.places.items;
  table : length l.places.items ≡ l.ranks;
}

abbrev pub decreases-loop-number : goal.decreases-loop-number
decreases-loop-number l = length l.numbers
