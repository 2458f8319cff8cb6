-- The words so far are short, and those of the lists so far.
use Rattle.std.proofs.Common.{◌≡◌, ◌≤◌, All, length, map}
use Rattle.report.specs.declared.judged.TheConstants.{MOST_WORDS}
use Rattle.judging.specs.Judging.{left_said, left_words}
use Rattle.judging.specs.inner.Turns.{IsDone}
use Rattle.judging.proofs.LeftLemmas.{left_ranks}
use Rattle.judging.proofs.judge.left_of.Given as goal

abbrev pub invariant-loop-rank : goal.invariant-loop-rank
invariant-loop-rank l = record {
  short : All (λ one. length one.why.now ≤ MOST_WORDS) l.all.items;
  left : IsDone l.recording → map left_said l.all.items ≡ map left_words (left_ranks l.recording.run l.recording.choice l.rank);
}
