-- What is left of both is the same exactly if they are.
use Rattle.std.proofs.Common.{◌≡◌, length}
use Rattle.std.specs.Str.{bytes_eq}
use Rattle.journals.proofs.word.are_same.Given as goal

abbrev pub invariant-loop-one : goal.invariant-loop-one
invariant-loop-one l = bytes_eq l.one l.other ≡ bytes_eq l.initial.one l.initial.other

abbrev pub decreases-loop-one : goal.decreases-loop-one
decreases-loop-one l = length l.one
