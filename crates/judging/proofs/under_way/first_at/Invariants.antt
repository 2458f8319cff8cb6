-- With none of the records so far is anything under way.
use Rattle.std.proofs.Common.{◌≡◌, ◌<◌, drop, length, map}
use Rattle.closing.specs.Entries.{lines_at}
use Rattle.closing.specs.Numbers.{groups_of}
use Rattle.closing.specs.Recording.{calls_of, list_of, recording_of}
use Rattle.judging.specs.UnderWay.{first_at, first_from}
use Rattle.judging.specs.inner.Cuts.{AreFullBelow, IsGathered}
use Rattle.judging.specs.inner.Tables.{rows_of}
use Rattle.judging.proofs.UnderWayLemmas.{first_sink}
use Rattle.judging.proofs.under_way.first_at.Given as goal

abbrev pub invariant-loop-place : goal.invariant-loop-place
invariant-loop-place l = record {
  kept : AreFullBelow l.analyser.groups l.analyser.recording l.waves;
  sinks : IsGathered l.lists.recording (rows_of l.lists.table) l.analyser → l.rank < length l.lists.recording.run →
      l.sink ≡ first_sink l.place (drop l.place (list_of l.lists.recording.run l.lists.recording.choice l.rank).records);
  first : IsGathered l.lists.recording (rows_of l.lists.table) l.analyser → l.rank < length l.lists.recording.run →
      first_from (groups_of l.lists.recording.run) (map calls_of (recording_of l.lists.recording.run l.lists.recording.choice).lists) l.rank (lines_at l.lists.recording.run l.rank) l.place l.moved.items
      (drop l.place (list_of l.lists.recording.run l.lists.recording.choice l.rank).records) ≡ first_at l.lists.recording.run l.lists.recording.choice l.rank;
}
