-- What follows `finalize`, by what is held of it.
use Rattle.std.proofs.Common.{◌∙◌, ap, Ok}
use Rattle.mpicall.specs.Source.{coming}
use Rattle.mpicall.proofs.GivesLemmas.{gives_read_failed, gives_sealed, gives_text}
use Rattle.mpicall.proofs.CutLemmas.{cut_behind_end}
use Rattle.mpicall.proofs.source.Source.read_end.Goals as goal

pub returns-in-Err-clause-trace : goal.returns-in-Err-clause-trace
unfolding coming
returns-in-Err-clause-trace g c = λ call. gives_read_failed _

pub returns-in-Ok-true-clause-trace : goal.returns-in-Ok-true-clause-trace
unfolding coming
returns-in-Ok-true-clause-trace g c =
    λ call. rw c.requires (gives_text _ _ c.has_more.new.window (c.has_more.ensures.some (c.in-Ok-true.is ∙ ap Ok c.in-Ok-true.field-0-test)) c.in-Ok-true.ensures.known)

pub returns-in-Ok-false-clause-trace : goal.returns-in-Ok-false-clause-trace
unfolding coming
returns-in-Ok-false-clause-trace g c =
    λ call. rw c.requires (gives_sealed _ _ c.has_more.new.window (c.has_more.ensures.none (c.in-Ok-false.is ∙ ap Ok c.in-Ok-false.field-0-test)) c.in-Ok-false.ensures.known)

pub returns-in-Err-clause-cut : goal.returns-in-Err-clause-cut
returns-in-Err-clause-cut g c = λ failed. cut_behind_end _ _ _ _ c.requires c.in-Err.ensures.known c.in-Err.ensures.cut
