-- The head, and all traces.
use Rattle.std.proofs.Common.{◌≡◌, ◌∙◌, length}
use Rattle.closing.specs.Recording.{recording_of}
use Rattle.lawful.specs.Laws.{IsRead}
use Rattle.judging.specs.Closing.{AreFilesOf}
use Rattle.judging.specs.declared.close.FileName.TheVariants.{Head}
use Rattle.judging.specs.inner.Closed.{HasTraces}
use Rattle.judging.specs.inner.Turns.{IsFresh}
use Rattle.judging.proofs.CloseLemmas.{files_of, subst_empty}
use Rattle.judging.proofs.JudgeLemmas.{on_ok_both}
use Rattle.judging.proofs.close.write_all_files.Goals as goal

pub returns-clause-written : goal.returns-clause-written
returns-clause-written g c =
    let empty = g.F.Folder.empty in
    let text = g.F.Folder.text in
    let it = c.args.recording.now in
    on_ok_both c.write_traces.result
    (IsFresh it → IsRead it.run → HasTraces (empty c.write_head.new.folder) (text c.write_traces.new.folder) (length it.run) it)
    (text c.write_traces.new.folder Head ≡ text c.write_head.new.folder Head)
    (IsFresh it → IsRead it.run → AreFilesOf (empty c.args.folder.now) (text c.write_traces.new.folder) (recording_of it.run it.choice))
    (λ traces kept fresh read.
    files_of (empty c.args.folder.now) (empty c.write_head.new.folder) (text c.write_head.new.folder) (text c.write_traces.new.folder) it
    (c.in_ok-write_head.ensures.empty ∙ c.make.ensures.empty)
    (subst_empty (empty c.make.new.self) (empty c.write_head.new.folder) (text c.write_head.new.folder Head) it c.in_ok-write_head.ensures.empty (c.in_ok-write_head.ensures.text read)) kept (traces fresh read))
    c.write_traces.ensures.text c.write_traces.ensures.head
