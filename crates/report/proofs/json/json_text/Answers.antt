use Rattle.std.proofs.Common.{◌≡◌, ℕ, List, ◌++◌, string_bytes, sym, ap, ◌∙◌}
use Rattle.std.specs.Prelude.{codes}
use Rattle.serde_json.specs.Data.{string}
use Rattle.serde_json.specs.Written.{compact_text}
use Rattle.waitgraph.specs.Causes.{CauseView}
use Rattle.findings.specs.Findings.{findings_of}
use Rattle.waitgraph.specs.Stuck.{stuck_of}
use Rattle.waitgraph.specs.Verdicts.{verdict_by}
use Rattle.findings.specs.declared.finding.Finding.{Finding}
use Rattle.waitgraph.specs.declared.verdict.Verdict.{Verdict}
use Rattle.report.specs.inner.ArrayTexts.{elements_text, key_text}
use Rattle.report.specs.JsonReport.{each, cause_data, finding_data, rank_data}
use Rattle.report.specs.TextReport.{verdict_text}
use Rattle.report.proofs.ArrayLemmas.{report_parts, nine}
use Rattle.report.proofs.json.json_text.Goals as goal

pub returns : goal.returns
returns c =
    let reading = c.args.analyser.now.reading in
    let groups = c.args.analyser.now.groups in
    let recording = c.args.analyser.now.recording in
    let causes = compact_text (each cause_data c.args.graph.now.causes) in
    let findings = elements_text finding_data (findings_of groups recording) in
    let ranks = elements_text (rank_data reading groups recording) (stuck_of reading groups recording) in
    let said = verdict_by c.args.graph.now.held c.args.graph.now.left_open in
    let verdict = compact_text (string (verdict_text said)) in
    let first = key_text (codes "{") (codes "causes") (codes ":") in
    let second = key_text (codes ",") (codes "findings") (codes ":[") in
    let third = key_text (codes "],") (codes "ranks") (codes ":[") in
    let last = key_text (codes "],") (codes "verdict") (codes ":") in
    let a : string_bytes c.push_key.new.text ≡ first =
    c.in_ok-push_key.ensures ∙ ap (λ (text : List ℕ). text ++ first) c.new-text.ensures.bytes in
    let b : string_bytes c.push_causes.new.text ≡ first ++ causes =
    c.in_ok-push_causes.ensures
    ∙ ap (λ (seen : List CauseView). string_bytes c.push_key.new.text ++ compact_text (each cause_data seen)) c.causes.ensures
    ∙ ap (λ (text : List ℕ). text ++ causes) a in
    let d : string_bytes c.push_findings.new.text ≡ ((first ++ causes) ++ second) ++ findings =
    c.in_ok-push_findings.ensures
    ∙ ap (λ (found : List Finding). string_bytes c.push_key-2.new.text ++ elements_text finding_data found) (c.findings.ensures ∙ c.requires.findings)
    ∙ ap (λ (text : List ℕ). text ++ findings) (c.in_ok-push_key-2.ensures ∙ ap (λ (text : List ℕ). text ++ second) b) in
    let f : string_bytes c.push_ranks.new.text ≡ ((((first ++ causes) ++ second) ++ findings) ++ third) ++ ranks =
    c.in_ok-push_ranks.ensures
    ∙ ap (λ (text : List ℕ). text ++ ranks) (c.in_ok-push_key-3.ensures ∙ ap (λ (text : List ℕ). text ++ third) d) in
    c.in_ok-push_str.ensures.bytes
    ∙ ap (λ (text : List ℕ). text ++ codes "}\n")
    (c.in_ok-push_verdict.ensures
    ∙ ap (λ (told : Verdict). string_bytes c.push_key-4.new.text ++ compact_text (string (verdict_text told))) c.verdict.ensures
    ∙ ap (λ (text : List ℕ). text ++ verdict) (c.in_ok-push_key-4.ensures ∙ ap (λ (text : List ℕ). text ++ last) f))
    ∙ nine first causes second findings third ranks last verdict (codes "}\n")
    ∙ sym (report_parts reading groups recording said c.args.graph.now.causes)
