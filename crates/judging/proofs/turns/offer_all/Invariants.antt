-- The records so far are at the end of the rank's list.
use Rattle.std.proofs.Common.{◌≡◌, take}
use Rattle.judging.specs.inner.Turns.{appended_all}
use Rattle.judging.specs.inner.Unwritten.{KeepsRanks}
use Rattle.judging.proofs.turns.offer_all.Given as goal

abbrev pub invariant-loop-record : goal.invariant-loop-record
invariant-loop-record l = record {
  kept : KeepsRanks l.fn.analyser l.analyser;
  more : l.analyser.recording ≡ appended_all l.fn.analyser.recording l.rank (take l.record-index l.records);
}
