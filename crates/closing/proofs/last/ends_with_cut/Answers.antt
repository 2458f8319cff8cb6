-- The last call line is that of the last entry.
use Rattle.std.proofs.Common.{◌∙◌, ap}
use Rattle.closing.specs.inner.Noted.{call_if, is_cut_if}
use Rattle.closing.proofs.CutLemmas.{cut_last, cut_none}
use Rattle.closing.proofs.last.ends_with_cut.Goals as goal

pub returns-in-Some : goal.returns-in-Some
returns-in-Some c = λ places.
    c.is_cut.ensures ∙ ap (λ o. is_cut_if (call_if o)) c.word.ensures ∙ cut_last c.args.journal.now.lines _ c.in-Some.last (c.in-Some.ensures places)

pub returns-in-None : goal.returns-in-None
returns-in-None c = λ places. cut_none c.args.journal.now.lines (c.in-None.ensures places)
