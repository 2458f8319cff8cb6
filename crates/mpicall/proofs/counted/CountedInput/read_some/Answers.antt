-- Where a read failed, the reader has what it had.
use Rattle.mpicall.proofs.counted.CountedInput.read_some.Goals as goal

pub returns-in-Err-clause-bytes : goal.returns-in-Err-clause-bytes
returns-in-Err-clause-bytes g c = rw (c.count_failure.ensures.inner) c.in-Err.ensures.bytes
