-- What is left of both is the same exactly if they are.
use Rattle.std.proofs.Common.{◌≡◌, length}
use Rattle.std.specs.Str.{bytes_eq}
use Rattle.journals.proofs.remembered.are_same_lines.Given as goal

abbrev pub invariant-loop-front : goal.invariant-loop-front
invariant-loop-front l = bytes_eq l.one l.other ≡ bytes_eq l.initial.one l.initial.other

abbrev pub decreases-loop-front : goal.decreases-loop-front
decreases-loop-front l = length l.one
