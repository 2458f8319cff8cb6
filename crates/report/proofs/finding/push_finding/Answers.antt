use Rattle.std.proofs.Common.{◌++◌, sym, ap, ◌∙◌}
use Rattle.std.specs.List.{join_with_byte}
use Rattle.mpicall.specs.Spelling.{space}
use Rattle.findings.specs.declared.finding.Finding.{Finding}
use Rattle.report.specs.FindingTexts.{finding_fields}
use Rattle.report.proofs.finding.push_finding.Goals as goal

pub returns-in-Unreceived-clause-value : goal.returns-in-Unreceived-clause-value
returns-in-Unreceived-clause-value c =
    c.push_place.ensures.value ∙ ap (λ (finding : Finding). c.args.page.now ++ join_with_byte space (finding_fields finding)) (sym c.in-Unreceived.is)
