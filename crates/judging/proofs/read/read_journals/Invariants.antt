-- The journals so far are the first ones of the run.
use Rattle.std.proofs.Common.{◌≡◌, ◌≤◌, length}
use Rattle.journals.specs.declared.limits.TheConstants.{MOST_RANKS}
use Rattle.judging.specs.inner.OneJournal.{first_heading}
use Rattle.judging.proofs.FileLemmas.{AreBegun}
use Rattle.judging.proofs.read.read_journals.Given as goal

abbrev pub invariant-loop-rank : goal.invariant-loop-rank
invariant-loop-rank g l = record {
  count : length l.all.items ≡ l.rank;
  few : length l.all.items ≤ MOST_RANKS;
  heading : first_heading l.all.items ≡ first_heading l.initial.all.items;
  begun : AreBegun (g.J.Journals.known l.fn.journals) l.all.items;
}
