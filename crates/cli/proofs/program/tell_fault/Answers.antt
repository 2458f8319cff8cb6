use Rattle.std.proofs.Common.{rules, ◌≢◌, refl, inr}
use Rattle.cli.specs.declared.fault.Fault.TheVariants.{Memory, Write}
use Rattle.cli.proofs.program.tell_fault.Goals as goal

pub returns-in-Err : goal.returns-in-Err
returns-in-Err g c =
    let other : c.args.fault ≢ Write = search rules in
    (Memory, inr (refl, other), c.tell-in-Err.ensures.status, c.tell-in-Err.ensures.told)
