-- The ranks so far have had their turn.
use Rattle.std.proofs.Common.{◌≡◌, ◌<◌, ℕ, true}
use Rattle.closing.specs.Recordings.{count_at}
use Rattle.judging.specs.inner.Tables.{HasTable}
use Rattle.judging.specs.inner.Turns.{IsWithIt, HaveTurns}
use Rattle.judging.specs.inner.Unwritten.{KeepsRanks}
use Rattle.judging.proofs.turns.Lists.take_a_round.Given as goal

abbrev pub invariant-loop-rank : goal.invariant-loop-rank
invariant-loop-rank l = record {
  kept : KeepsRanks l.fn.analyser l.analyser;
  with_it : IsWithIt l.fn.self.recording l.fn.analyser → IsWithIt l.self.recording l.analyser;
  table : IsWithIt l.fn.self.recording l.fn.analyser → HasTable l.fn.self → HasTable l.self;
  turns : IsWithIt l.fn.self.recording l.fn.analyser → HaveTurns l.rank l.fn.self.recording l.self.recording;
  over : IsWithIt l.fn.self.recording l.fn.analyser → l.are_over ≡ true → (rank : ℕ) → rank < l.rank → count_at l.self.recording.left rank ≡ 0;
}
