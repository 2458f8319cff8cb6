-- What the next line is, by what is held of it.
use Rattle.std.proofs.Common.{sym, ap, ◌∙◌, take, List, ℕ}
use Rattle.mpicall.specs.Source.{coming}
use Rattle.mpicall.specs.Parsing.{record_of_line}
use Rattle.mpicall.proofs.GivesLemmas.{gives_read_failed, gives_no_finalize, gives_record, gives_line_fault}
use Rattle.mpicall.proofs.CutLemmas.{cut_in_line}
use Rattle.mpicall.proofs.source.Source.read_other.Goals as goal

pub returns-in-Err-clause-trace : goal.returns-in-Err-clause-trace
unfolding coming
returns-in-Err-clause-trace g c = gives_read_failed _

pub returns-then-len-eq0-clause-trace : goal.returns-then-len-eq0-clause-trace
unfolding coming
returns-then-len-eq0-clause-trace g c =
    rw c.requires (gives_no_finalize _ _ c.line_end.new.window c.in-Ok.ensures.known (rw c.if-len-eq0.true at c.in-Ok.ensures.ends))

pub returns-in-Ok-read-clause-trace : goal.returns-in-Ok-read-clause-trace
unfolding coming
returns-in-Ok-read-clause-trace g c =
    let read = ap (λ (buffered : List ℕ). record_of_line (take c.in-Ok.len buffered)) (sym c.buffered.ensures) ∙ c.in-Ok-read.ensures.reading in
    rw (c.requires, c.stage_behind-self.ensures, c.drop_front.ensures)
    (gives_record _ _ c.line_end.new.window c.in-Ok.len c.read.new.into c.in-Ok.ensures.known c.in-Ok.ensures.ends read)

pub returns-in-Err-read-clause-trace : goal.returns-in-Err-read-clause-trace
unfolding coming
returns-in-Err-read-clause-trace g c =
    let read = ap (λ (buffered : List ℕ). record_of_line (take c.in-Ok.len buffered)) (sym c.buffered.ensures) ∙ c.in-Err-read.ensures.reading.0 in
    rw c.requires
    (gives_line_fault _ _ c.line_end.new.window c.in-Ok.len c.in-Err-read.fault c.in-Ok.ensures.known c.in-Ok.ensures.ends c.if-len-eq0.false read)

pub returns-in-Err-clause-cut : goal.returns-in-Err-clause-cut
returns-in-Err-clause-cut g c = λ failed. cut_in_line _ _ _ _ c.requires c.in-Err.ensures.known c.in-Err.ensures.cut c.in-Err.ensures.short
