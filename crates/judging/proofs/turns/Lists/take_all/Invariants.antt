-- With each round less of each journal is left.
use Rattle.std.proofs.Common.{◌≡◌, ◌<◌, ◌+◌, ◌^◌, ℕ, length}
use Rattle.closing.specs.Recordings.{count_at}
use Rattle.judging.specs.inner.Tables.{HasTable}
use Rattle.judging.specs.inner.Turns.{IsWithIt, IsHandedOn}
use Rattle.judging.specs.inner.Unwritten.{KeepsRanks}
use Rattle.judging.proofs.turns.Lists.take_all.Given as goal

abbrev pub invariant-loop-round : goal.invariant-loop-round
invariant-loop-round g l = record {
  kept : KeepsRanks l.fn.analyser l.analyser;
  with_it : IsWithIt l.fn.self.recording l.fn.analyser → IsWithIt l.self.recording l.analyser;
  table : IsWithIt l.fn.self.recording l.fn.analyser → HasTable l.fn.self → HasTable l.self;
  run : IsWithIt l.fn.self.recording l.fn.analyser → l.self.recording.run ≡ l.fn.self.recording.run;
  choice : IsWithIt l.fn.self.recording l.fn.analyser → l.self.recording.choice ≡ l.fn.self.recording.choice;
  handed : IsWithIt l.fn.self.recording l.fn.analyser → 0 < l._round → (rank : ℕ) → rank < length l.self.recording.run → IsHandedOn l.self.recording rank;
  few : IsWithIt l.fn.self.recording l.fn.analyser → 0 < l._round → (rank : ℕ) → rank < length l.self.recording.run → count_at l.self.recording.left rank + l._round < 2 ^ 32;
}
