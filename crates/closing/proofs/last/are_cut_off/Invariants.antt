-- The journals are cut if those of the ranks from here on are.
use Rattle.std.proofs.Common.{◌≡◌, drop}
use Rattle.closing.specs.Entries.{is_window}
use Rattle.closing.specs.Journals.{run_in}
use Rattle.closing.specs.inner.Rankwise.{AreFew}
use Rattle.closing.proofs.last.are_cut_off.Given as goal

abbrev pub invariant-loop-rank : goal.invariant-loop-rank
invariant-loop-rank l = AreFew l.journals → is_window (drop l.rank (run_in l.journals)) ≡ is_window (run_in l.journals)
