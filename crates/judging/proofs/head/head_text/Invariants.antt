-- The first line, and those of the groups so far.
use Rattle.std.proofs.Common.{◌≡◌, ◌∷◌, [], ◌++◌, ◌-◌, take, drop}
use Rattle.std.specs.Prelude.{codes, string_bytes}
use Rattle.closing.specs.Groups.{groups_in}
use Rattle.closing.specs.Texts.{line_with}
use Rattle.judging.specs.inner.Heads.{group_lines}
use Rattle.judging.proofs.head.head_text.Given as goal

abbrev pub invariant-loop-number : goal.invariant-loop-number
invariant-loop-number l = string_bytes l.text ≡ line_with (codes "ranks") (l.fn.ranks ∷ []) ++ group_lines (take (l.number - 1) (drop 1 (groups_in l.run)))
