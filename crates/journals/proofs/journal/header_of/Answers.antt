-- There was no memory for the run's field.
use Rattle.std.proofs.lemmas.Result.{err_from_is_err_and}
use Rattle.journals.proofs.journal.header_of.Goals as goal

pub returns-in_err-to_vec : goal.returns-in_err-to_vec
returns-in_err-to_vec c =
    let p = err_from_is_err_and c.from_residual.result c.from_residual.ensures.1 in
    rw (p.1, p.2) tt
