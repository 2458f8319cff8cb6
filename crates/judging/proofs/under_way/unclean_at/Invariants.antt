-- At none of the ranks so far is the cut unclean.
use Rattle.std.proofs.Common.{◌≡◌, ◌-◌, length}
use Rattle.std.specs.List.{range_with_len}
use Rattle.judging.specs.UnderWay.{first_at, first_of, unclean_at}
use Rattle.judging.specs.inner.Cuts.{AreFullBelow, IsGatheredIfCut}
use Rattle.judging.specs.inner.Tables.{rows_of}
use Rattle.judging.proofs.under_way.unclean_at.Given as goal

abbrev pub invariant-loop-rank : goal.invariant-loop-rank
invariant-loop-rank l = record {
  kept : AreFullBelow l.analyser.groups l.analyser.recording l.waves;
  first : IsGatheredIfCut l.lists.recording (rows_of l.lists.table) l.analyser →
      first_of (first_at l.lists.recording.run l.lists.recording.choice) (range_with_len l.rank (length l.lists.recording.run - l.rank)) ≡ unclean_at l.lists.recording.run l.lists.recording.choice;
}
