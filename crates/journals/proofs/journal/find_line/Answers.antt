-- The whole line that was found passes.
use Rattle.std.proofs.KnownBytes.{Keeps-refl}
use Rattle.journals.proofs.PassLemmas.{line_passes}
use Rattle.journals.proofs.ReaderLemmas.{finds_whole}
use Rattle.journals.proofs.journal.find_line.Goals as goal

pub returns-in-Some-clause-lines : goal.returns-in-Some-clause-lines
returns-in-Some-clause-lines g c = finds_whole _ _ c.args.window.now c.in-Some.count (Keeps-refl _) c.in-Some.ensures

pub returns-in-Some-clause-passes : goal.returns-in-Some-clause-passes
returns-in-Some-clause-passes g c =
    let line = c.in-Some.ensures in
    line_passes _ c.args.window.now _ c.in-Some.count line.some line.within line.feed (Keeps-refl _)

pub returns-in-Ok-Whole-clause-passes : goal.returns-in-Ok-Whole-clause-passes
returns-in-Ok-Whole-clause-passes g c =
    let held = rw c.in-Ok-Whole.field-0-is at c.in-Ok-Whole.ensures.held in
    let known = rw c.in-Ok-Whole.field-0-is at c.in-Ok-Whole.ensures.known in
    line_passes _ c.next_line.new.window _ c.in-Ok-Whole.count held.some held.within held.feed known
