-- The entries so far.
use Rattle.std.proofs.Common.{◌≡◌, ◌≤◌, ◌++◌, All, length, map, take}
use Rattle.closing.specs.Left.{left_said as left_found}
use Rattle.report.specs.declared.judged.TheConstants.{MOST_WORDS}
use Rattle.judging.specs.Judging.{left_said, left_words}
use Rattle.judging.proofs.judge.add_left_out.Given as goal

abbrev pub invariant-loop-left : goal.invariant-loop-left
invariant-loop-left l = record {
  short : All (λ one. length one.why.now ≤ MOST_WORDS) l.fn.all.items → All (λ one. length one.why.now ≤ MOST_WORDS) l.all.items;
  left : map left_said l.all.items ≡ map left_said l.fn.all.items ++ map left_words (map (left_found l.rank) (take l.left-index l.left_out));
}
