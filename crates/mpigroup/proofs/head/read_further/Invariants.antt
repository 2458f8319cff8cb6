use Rattle.std.proofs.Common.{length}
use Rattle.mpicall.specs.Lines.{lines_of}
use Rattle.mpigroup.specs.HeadText.{groups_of_lines}
use Rattle.mpigroup.proofs.ReadingLemmas.{AreRead}
use Rattle.mpigroup.proofs.head.read_further.Given as goal

abbrev pub invariant-loop-line : goal.invariant-loop-line
invariant-loop-line l =
    AreRead l.ranks l.number (groups_of_lines l.ranks 2 (lines_of l.text)) l.groups.items (lines_of l.rest)

abbrev pub decreases-loop-line : goal.decreases-loop-line
decreases-loop-line l = length (lines_of l.rest)
