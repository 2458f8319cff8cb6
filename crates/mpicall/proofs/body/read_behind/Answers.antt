-- Each word with its forms is read as its reader says.
use Rattle.std.proofs.Common.{refl}
use Rattle.mpicall.proofs.BodyLemmas.{fixed_reads}
use Rattle.mpicall.proofs.body.read_behind.Goals as goal

pub returns-in-Blocking : goal.returns-in-Blocking
returns-in-Blocking c = rw c.in-Blocking.is (fixed_reads _ _ _ _ _ _ _ refl c.read_blocking.ensures c.is_some.ensures)

pub returns-in-Started : goal.returns-in-Started
returns-in-Started c = rw c.in-Started.is (fixed_reads _ _ _ _ _ _ _ refl c.read_started.ensures c.is_some-in-Started.ensures)
