-- Each name with its forms is read as its reader says.
use Rattle.std.proofs.Common.{refl}
use Rattle.mpicall.proofs.BodyLemmas.{fixed_reads}
use Rattle.mpicall.proofs.CallArgsLemmas.{args_else, name_shape}
use Rattle.mpicall.proofs.body.read_named.Goals as goal

pub returns-in-Wait : goal.returns-in-Wait
returns-in-Wait c = rw c.in-Wait.is (fixed_reads _ _ _ _ _ _ _ refl c.read_wait.ensures c.is_some.ensures)

pub returns-in_default : goal.returns-in_default
returns-in_default c =
    let others = args_else c.args.name c.in_default.not-Waitall c.in_default.not-Wait c.in_default.not-Waitany in
    fixed_reads _ _ _ _ _ _ _ (name_shape c.args.name _ others) c.read_args.ensures c.is_some-in_default.ensures
