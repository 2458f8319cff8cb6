use Rattle.mpicall.specs.Lines.{lines_of}
use Rattle.mpicall.specs.Trace.{trace_of}
use Rattle.gather.proofs.SealedLemmas.{sealed_lines}
use Rattle.gather.proofs.feed.a_sealed_text_has_its_end_record.Goals as goal

pub returns : goal.returns
unfolding trace_of
returns c = λ text sealed. sealed_lines (lines_of text) sealed
