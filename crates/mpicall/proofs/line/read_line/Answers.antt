-- The two laws of the line.
use Rattle.std.proofs.Common.{refl}
use Rattle.mpicall.proofs.LineLemmas.{record_exactly, spells_same, fault_exactly}
use Rattle.mpicall.proofs.line.read_line.Goals as goal

pub returns-in-Ok-clause-ok : goal.returns-in-Ok-clause-ok
returns-in-Ok-clause-ok c =
    λ x. record_exactly c.args.line.now _ x c.in-Ok.ensures.reading
    (λ call is. spells_same c.args.line.now _ _ call refl c.in-Ok.ensures.ok is)

pub returns-in-Ok-clause-fault : goal.returns-in-Ok-clause-fault
returns-in-Ok-clause-fault c = λ fault. fault_exactly c.args.line.now _ fault c.in-Ok.ensures.reading

pub returns-in-Err-clause-ok : goal.returns-in-Err-clause-ok
returns-in-Err-clause-ok c = λ x. record_exactly c.args.line.now _ x c.in-Err.ensures.reading.0 (λ call is. cc)

pub returns-in-Err-clause-fault : goal.returns-in-Err-clause-fault
returns-in-Err-clause-fault c = λ fault. fault_exactly c.args.line.now _ fault c.in-Err.ensures.reading.0
