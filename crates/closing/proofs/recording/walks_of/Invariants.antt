-- There is a list of each rank so far, of which nothing was handed on.
use Rattle.std.proofs.Common.{◌≡◌, length, map, replicate}
use Rattle.closing.specs.Fit.{IsFit}
use Rattle.closing.specs.Journals.{run_in}
use Rattle.closing.specs.Recordings.{choice_in}
use Rattle.closing.specs.inner.Numbered.{IsNumberedRun}
use Rattle.closing.specs.inner.Rankwise.{AreFew, HaveWalks}
use Rattle.closing.proofs.recording.walks_of.Given as goal

abbrev pub invariant-loop-rank : goal.invariant-loop-rank
invariant-loop-rank l = record {
  count : length l.walks.items ≡ l.rank;
  handed : map (λ walk. walk.handed) l.walks.items ≡ replicate (length l.walks.items) 0;
  before : map (λ walk. walk.before) l.walks.items ≡ replicate (length l.walks.items) 0;
  numbered : (IsFit (run_in l.journals) (choice_in l.choice) → IsNumberedRun (run_in l.journals) l.fn.run) → AreFew l.journals
      → IsFit (run_in l.journals) (choice_in l.choice) → IsNumberedRun (run_in l.journals) l.run;
  have : (IsFit (run_in l.journals) (choice_in l.choice) → IsNumberedRun (run_in l.journals) l.fn.run) → AreFew l.journals
      → HaveWalks l.journals l.choice l.run l.walks.items;
}
