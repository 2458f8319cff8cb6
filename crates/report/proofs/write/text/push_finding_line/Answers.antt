use Rattle.std.proofs.Common.{◌≡◌, List, ℕ, ◌∷◌, [], ◌++◌, append_assoc, codes, ap, ◌∙◌}
use Rattle.std.specs.List.{join_with_byte}
use Rattle.mpicall.specs.Spelling.{space, line_feed}
use Rattle.findings.specs.declared.finding.Finding.{Finding}
use Rattle.findings.specs.declared.finding.Finding.TheVariants.{Kind, Root, Unreceived, Request, Group}
use Rattle.report.specs.FindingTexts.{finding_fields}
use Rattle.report.specs.TextReport.{finding_line}
use Rattle.report.proofs.write.text.push_finding_line.Goals as goal

regroup : (page word fields : List ℕ) → ((page ++ word) ++ fields) ++ line_feed ∷ [] ≡ page ++ ((word ++ fields) ++ line_feed ∷ [])
regroup page word fields =
    ap (λ (bytes : List ℕ). bytes ++ line_feed ∷ []) (append_assoc page word fields) ∙ append_assoc page (word ++ fields) (line_feed ∷ [])

finding_put : (page : List ℕ) (finding : Finding) → ((page ++ codes "finding ") ++ join_with_byte space (finding_fields finding)) ++ line_feed ∷ [] ≡ page ++ finding_line finding
finding_put page (Kind comm wave member first word) = regroup page (codes "finding ") (join_with_byte space (finding_fields (Kind comm wave member first word)))
finding_put page (Root comm wave member first root) = regroup page (codes "finding ") (join_with_byte space (finding_fields (Root comm wave member first root)))
finding_put page (Unreceived rank place) = regroup page (codes "finding ") (join_with_byte space (finding_fields (Unreceived rank place)))
finding_put page (Request rank place req) = regroup page (codes "finding ") (join_with_byte space (finding_fields (Request rank place req)))
finding_put page (Group rank place) = regroup page (codes "finding ") (join_with_byte space (finding_fields (Group rank place)))

pub returns : goal.returns
returns c =
    let fields = join_with_byte space (finding_fields c.args.finding.now) in
    c.push_str-2.ensures.value
    ∙ ap (λ (bytes : List ℕ). bytes ++ line_feed ∷ [])
    (c.push_finding.ensures.value ∙ ap (λ (bytes : List ℕ). bytes ++ fields) c.push_str.ensures.value)
    ∙ finding_put c.args.page.now c.args.finding.now
