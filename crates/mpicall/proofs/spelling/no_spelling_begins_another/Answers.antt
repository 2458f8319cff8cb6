-- By the one line feed of a spelling, which is its last byte.
use Rattle.mpicall.proofs.BeginningLemmas.{begins_no_other}
use Rattle.mpicall.proofs.spelling.no_spelling_begins_another.Goals as goal

pub returns : goal.returns
returns c = begins_no_other
