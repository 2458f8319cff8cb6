use Rattle.std.proofs.Common.{sym, append-nil, refl}
use Rattle.findings.proofs.AlikeLemmas.{no_differences}
use Rattle.findings.proofs.finding.add_differences.Goals as goal

pub returns-then-are_all_alike : goal.returns-then-are_all_alike
returns-then-are_all_alike c =
    rw (no_differences c.args.pairs.now.groups c.args.pairs.now.recording (c.if-are_all_alike.ensures refl))
    (sym (append-nil c.args.findings.now.items))
