-- The word and the members so far.
use Rattle.std.proofs.Common.{◌≡◌, ◌++◌, take}
use Rattle.std.specs.Prelude.{codes, string_bytes}
use Rattle.judging.proofs.HeadTextLemmas.{fields_with}
use Rattle.judging.proofs.head.push_group.Given as goal

abbrev pub invariant-loop-member : goal.invariant-loop-member
invariant-loop-member l = string_bytes l.text ≡ string_bytes l.fn.text ++ fields_with (codes "comm") (take l.member-index l.group)
