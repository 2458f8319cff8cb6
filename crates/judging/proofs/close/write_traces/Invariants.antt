-- The traces of the ranks so far are written, and the other lists aren't begun.
use Rattle.std.proofs.Common.{◌≡◌}
use Rattle.lawful.specs.Laws.{IsRead}
use Rattle.judging.specs.declared.close.FileName.TheVariants.{Head}
use Rattle.judging.specs.inner.Closed.{HasTraces}
use Rattle.judging.specs.inner.Turns.{IsFresh}
use Rattle.judging.proofs.CloseLemmas.{AreUnbegun}
use Rattle.judging.proofs.close.write_traces.Given as goal

abbrev pub invariant-loop-rank : goal.invariant-loop-rank
invariant-loop-rank g l = record {
  empty : g.F.Folder.empty l.folder ≡ g.F.Folder.empty l.fn.folder;
  head : g.F.Folder.text l.folder Head ≡ g.F.Folder.text l.fn.folder Head;
  run : IsFresh l.fn.recording → IsRead l.fn.recording.run → l.recording.run ≡ l.fn.recording.run;
  choice : IsFresh l.fn.recording → IsRead l.fn.recording.run → l.recording.choice ≡ l.fn.recording.choice;
  unbegun : IsFresh l.fn.recording → IsRead l.fn.recording.run → AreUnbegun l.rank l.recording;
  traces : IsFresh l.fn.recording → IsRead l.fn.recording.run → HasTraces (g.F.Folder.empty l.fn.folder) (g.F.Folder.text l.folder) l.rank l.fn.recording;
}
