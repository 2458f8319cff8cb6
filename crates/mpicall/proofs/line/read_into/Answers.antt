-- What the readers of the body say of the line.
use Rattle.std.proofs.Common.{sym, ◌∙◌, refl}
use Rattle.mpicall.proofs.LineLemmas.{fault_read, body_spells, spells_read, body_fault, few_fields}
use Rattle.mpicall.proofs.line.read_into.Goals as goal

pub returns-in-Err-clause-reading : goal.returns-in-Err-clause-reading
returns-in-Err-clause-reading c = (fault_read _ _ c.in-Err.ensures, refl)

pub fault_of_fields-requires-clause-few : goal.fault_of_fields-requires-clause-few
fault_of_fields-requires-clause-few c = rw c.of-else-read_fields.ensures (few_fields _ _ c.in-Ok.ensures)

pub returns-then-read_fields-clause-reading : goal.returns-then-read_fields-clause-reading
returns-then-read_fields-clause-reading c =
    spells_read _ _ (body_spells _ _ _ c.in-Ok.ensures (sym c.of.ensures ∙ c.if-read_fields.ensures.0) c.if-read_fields.ensures.1)

pub returns-then-read_fields-clause-ok : goal.returns-then-read_fields-clause-ok
returns-then-read_fields-clause-ok c =
    body_spells _ _ _ c.in-Ok.ensures (sym c.of.ensures ∙ c.if-read_fields.ensures.0) c.if-read_fields.ensures.1

pub returns-else-read_fields-clause-reading : goal.returns-else-read_fields-clause-reading
returns-else-read_fields-clause-reading c =
    let fault = body_fault _ _ _ c.in-Ok.ensures (rw c.of-else-read_fields.ensures at c.fault_of_fields.ensures) in
    (fault_read _ _ fault, c.if-read_fields.ensures.1)
