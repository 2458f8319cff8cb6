use Rattle.std.proofs.Common.{ℕ, List, ◌++◌, ap, ◌∙◌}
use Rattle.std.proofs.lemmas.Result.{IfOk-weaker}
use Rattle.std.specs.List.{join_with_byte}
use Rattle.mpicall.specs.Spelling.{space}
use Rattle.report.specs.FindingTexts.{finding_fields}
use Rattle.report.proofs.json.finding.finding_text.Goals as goal

pub returns : goal.returns
returns c =
    let fields = join_with_byte space (finding_fields c.args.finding.now) in
    IfOk-weaker c.from_str.result _ _
    (λ text same. same ∙ c.as_str.ensures ∙ c.push_finding.ensures.value ∙ ap (λ (line : List ℕ). line ++ fields) c.new-page.ensures)
    c.from_str.ensures.ok
