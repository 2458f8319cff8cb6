-- The recording of the run that the files hold.
use Rattle.lawful.specs.Laws.{IsRead}
use Rattle.closing.specs.Recording.{recording_of}
use Rattle.closing.specs.Recordings.{choice_in}
use Rattle.judging.specs.Closing.{AreFilesOf, IsWritten}
use Rattle.judging.specs.inner.Turns.{IsFresh}
use Rattle.judging.proofs.BegunLemmas.{is_run_of}
use Rattle.judging.proofs.CloseLemmas.{written_of}
use Rattle.judging.proofs.JudgeLemmas.{on_ok}
use Rattle.judging.proofs.close.close.Goals as goal

pub returns-clause-written : goal.returns-clause-written
returns-clause-written g c =
    let known = g.J.Journals.known c.args.journals.now in
    let empty = g.F.Folder.empty c.args.folder.now in
    let text = g.F.Folder.text c.write_all_files.new.folder in
    let begun = c.in_ok-recording.recording in
    on_ok c.write_all_files.result (IsFresh begun → IsRead begun.run → AreFilesOf empty text (recording_of begun.run begun.choice))
    (IsWritten known (choice_in c.args.choice) empty text)
    (written_of known begun (choice_in c.args.choice) empty text
    (is_run_of known c.in_ok-journals.journals.items begun.run c.in_ok-journals.ensures.run c.in_ok-recording.ensures.run)
    (record { handed = c.in_ok-recording.ensures.handed; parts = c.in_ok-recording.ensures.part })
    c.in_ok-recording.ensures.choice)
    c.write_all_files.ensures.written
