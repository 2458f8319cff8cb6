-- None as it went; strictly those that aren't of freed requests.
use Rattle.std.proofs.Common.{◌≡◌, sym, subst}
use Rattle.std.specs.Prelude.{IfOk}
use Rattle.closing.specs.declared.choice.Calls.{Calls}
use Rattle.judging.specs.Judging.{is_no_leak, reported_by}
use Rattle.judging.specs.inner.Turns.{IsDone}
use Rattle.judging.proofs.reported.reported_findings.Goals as goal

pub returns-in-Strict : goal.returns-in-Strict
returns-in-Strict c =
    let it = c.args.recording.now in
    subst (λ (calls : Calls). IfOk c.but_leaked.result (λ reported. IsDone it → reported.items ≡ reported_by calls (is_no_leak it.run it.choice) c.args.findings.now)) (sym c.in-Strict.is) c.but_leaked.ensures
