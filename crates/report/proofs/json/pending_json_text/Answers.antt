use Rattle.std.proofs.Common.{◌≡◌, ℕ, List, ◌++◌, length, map, string_bytes, sym, ap, ◌∙◌}
use Rattle.std.specs.Prelude.{codes}
use Rattle.serde_json.specs.Data.{string}
use Rattle.serde_json.specs.Written.{compact_text}
use Rattle.waitgraph.specs.Causes.{CauseView}
use Rattle.std.specs.List.{filter, range_with_len}
use Rattle.waitgraph.specs.Pending.{view_of}
use Rattle.report.specs.PendingReport.{has_lines, data_of_rank}
use Rattle.waitgraph.specs.Verdicts.{verdict_by}
use Rattle.waitgraph.specs.declared.verdict.Verdict.{Verdict}
use Rattle.report.specs.inner.ArrayTexts.{elements_text, key_text}
use Rattle.report.specs.inner.HeldTexts.{finding_calls_text, held_text}
use Rattle.report.specs.JsonReport.{each, cause_data, finding_data}
use Rattle.report.specs.Judged.{left_data, line_data}
use Rattle.report.specs.TextReport.{verdict_text}
use Rattle.report.proofs.JudgedLemmas.{pending_parts, fifteen}
use Rattle.report.proofs.json.pending_json_text.Goals as goal

pub returns : goal.returns
returns c =
    let reading = c.args.run.now.analyser.now.reading in
    let groups = c.args.run.now.analyser.now.groups in
    let recording = c.args.run.now.analyser.now.recording in
    let pending = map view_of c.args.run.now.pending.now in
    let causes = compact_text (each cause_data c.args.run.now.graph.now.causes) in
    let findings = elements_text finding_data c.args.judged.now.findings.now in
    let left = elements_text left_data c.args.judged.now.left.now in
    let lines = elements_text line_data c.args.judged.now.lines.now in
    let ranks = elements_text (data_of_rank reading groups recording pending c.args.run.now.graph.now.at_open) (filter (has_lines reading groups recording c.args.run.now.graph.now.at_open) (range_with_len 0 (length recording))) in
    let said = verdict_by c.args.run.now.graph.now.held c.args.run.now.graph.now.left_open in
    let verdict = compact_text (string (verdict_text said)) in
    let calls = finding_calls_text c.args.judged.now.held in
    let held = held_text c.args.judged.now.held in
    let key_1 = key_text (codes "{") (codes "causes") (codes ":") in
    let key_2 = key_text (codes ",") (codes "findings") (codes ":[") in
    let key_3 = key_text (codes "],") (codes "left") (codes ":[") in
    let key_4 = key_text (codes "],") (codes "lines") (codes ":[") in
    let key_5 = key_text (codes "],") (codes "ranks") (codes ":[") in
    let key_6 = key_text (codes "],") (codes "verdict") (codes ":") in
    let a : string_bytes c.push_key.new.text ≡ key_1 =
    c.in_ok-push_key.ensures ∙ ap (λ (text : List ℕ). text ++ key_1) c.new-text.ensures.bytes in
    let b : string_bytes c.push_causes.new.text ≡ key_1 ++ causes =
    c.in_ok-push_causes.ensures
    ∙ ap (λ (seen : List CauseView). string_bytes c.push_key.new.text ++ compact_text (each cause_data seen)) c.causes.ensures
    ∙ ap (λ (text : List ℕ). text ++ causes) a in
    let d : string_bytes c.push_findings.new.text ≡ (((key_1 ++ causes) ++ calls) ++ key_2) ++ findings =
    c.in_ok-push_findings.ensures
    ∙ ap (λ (text : List ℕ). text ++ findings) (c.in_ok-push_key-2.ensures ∙ ap (λ (text : List ℕ). text ++ key_2) (c.in_ok-push_finding_calls.ensures ∙ ap (λ (text : List ℕ). text ++ calls) b)) in
    let d_held : string_bytes c.push_held.new.text ≡ ((((key_1 ++ causes) ++ calls) ++ key_2) ++ findings) ++ held =
    c.in_ok-push_held.ensures ∙ ap (λ (text : List ℕ). text ++ held) d in
    let e : string_bytes c.push_left.new.text ≡ ((((((key_1 ++ causes) ++ calls) ++ key_2) ++ findings) ++ held) ++ key_3) ++ left =
    c.in_ok-push_left.ensures
    ∙ ap (λ (text : List ℕ). text ++ left) (c.in_ok-push_key-3.ensures ∙ ap (λ (text : List ℕ). text ++ key_3) d_held) in
    let f : string_bytes c.push_lines.new.text ≡ ((((((((key_1 ++ causes) ++ calls) ++ key_2) ++ findings) ++ held) ++ key_3) ++ left) ++ key_4) ++ lines =
    c.in_ok-push_lines.ensures
    ∙ ap (λ (text : List ℕ). text ++ lines) (c.in_ok-push_key-4.ensures ∙ ap (λ (text : List ℕ). text ++ key_4) e) in
    let h : string_bytes c.push_pending_ranks.new.text ≡ ((((((((((key_1 ++ causes) ++ calls) ++ key_2) ++ findings) ++ held) ++ key_3) ++ left) ++ key_4) ++ lines) ++ key_5) ++ ranks =
    c.in_ok-push_pending_ranks.ensures
    ∙ ap (λ (text : List ℕ). text ++ ranks) (c.in_ok-push_key-5.ensures ∙ ap (λ (text : List ℕ). text ++ key_5) f) in
    c.in_ok-push_str.ensures.bytes
    ∙ ap (λ (text : List ℕ). text ++ codes "}\n")
    (c.in_ok-push_verdict.ensures
    ∙ ap (λ (told : Verdict). string_bytes c.push_key-6.new.text ++ compact_text (string (verdict_text told))) c.verdict.ensures
    ∙ ap (λ (text : List ℕ). text ++ verdict) (c.in_ok-push_key-6.ensures ∙ ap (λ (text : List ℕ). text ++ key_6) h))
    ∙ fifteen key_1 causes calls key_2 findings held key_3 left key_4 lines key_5 ranks key_6 verdict (codes "}\n")
    ∙ sym (pending_parts reading groups recording said pending c.args.run.now.graph.now.at_open c.args.run.now.graph.now.causes c.args.judged.now.findings.now c.args.judged.now.left.now c.args.judged.now.lines.now c.args.judged.now.held)
