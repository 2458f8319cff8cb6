-- With each entry less of the rank's journal is left.
use Rattle.std.proofs.Common.{◌≤◌, ◌+◌}
use Rattle.closing.specs.Recordings.{count_at}
use Rattle.judging.specs.inner.Tables.{HasTable}
use Rattle.judging.specs.inner.Turns.{IsWithIt, StaysElse}
use Rattle.judging.specs.inner.Unwritten.{KeepsRanks}
use Rattle.judging.proofs.turns.Lists.take_a_turn.Given as goal

abbrev pub invariant-loop-entry : goal.invariant-loop-entry
invariant-loop-entry l = record {
  kept : KeepsRanks l.fn.analyser l.analyser;
  with_it : IsWithIt l.fn.self.recording l.fn.analyser → IsWithIt l.self.recording l.analyser;
  table : IsWithIt l.fn.self.recording l.fn.analyser → HasTable l.fn.self → HasTable l.self;
  stays : IsWithIt l.fn.self.recording l.fn.analyser → StaysElse l.rank l.fn.self.recording l.self.recording;
  less : IsWithIt l.fn.self.recording l.fn.analyser → count_at l.self.recording.left l.rank + l._entry ≤ count_at l.fn.self.recording.left l.rank;
}
