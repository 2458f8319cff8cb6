-- The text of the recording's head.
use Rattle.std.proofs.Common.{List, ℕ, subst}
use Rattle.std.specs.Prelude.{string_bytes}
use Rattle.std.specs.Io.KnownBytes.{Appends}
use Rattle.closing.specs.Groups.{groups_in}
use Rattle.closing.specs.Recording.{recording_of}
use Rattle.closing.specs.Texts.{head_text}
use Rattle.lawful.specs.Laws.{IsRead}
use Rattle.judging.specs.declared.close.FileName.TheVariants.{Head}
use Rattle.judging.proofs.HeadOf.{head_written, some_ranks}
use Rattle.judging.proofs.JudgeLemmas.{on_ok}
use Rattle.lawful.proofs.ReadRuns.{fit_of_read}
use Rattle.judging.proofs.close.write_head.Goals as goal

pub returns-clause-text : goal.returns-clause-text
returns-clause-text g c =
    let it = c.args.recording.now in
    let empty = g.F.Folder.empty c.args.folder.now in
    let told = g.F.Folder.text c.write_text.new.folder Head in
    on_ok c.write_text.result (Appends empty told c.as_bytes.result.now) (IsRead it.run → Appends empty told (head_text (recording_of it.run it.choice)))
    (λ appends read.
    subst (λ (text : List ℕ). Appends empty told text)
    (head_written it.run it.choice c.as_bytes.result.now (string_bytes c.in_ok-text.text) c.ranks.result (groups_in c.communicators.result.now) c.as_bytes.ensures.value c.in_ok-text.ensures c.ranks.ensures.ranks
    (c.communicators.ensures (fit_of_read it.run it.choice read) (some_ranks it.run read)))
    appends)
    c.write_text.ensures.text
