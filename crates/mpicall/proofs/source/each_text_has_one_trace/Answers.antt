-- By the laws of a line.
use Rattle.mpicall.specs.Lines.{lines_of}
use Rattle.mpicall.specs.Trace.{trace_of}
use Rattle.mpicall.proofs.OneTraceLemmas.{one_trace}
use Rattle.mpicall.proofs.source.each_text_has_one_trace.Goals as goal

pub returns : goal.returns
unfolding trace_of
returns c = λ bytes trace. one_trace (lines_of bytes) trace
