use Rattle.std.proofs.Common.{◌≡◌, ◌++◌, string_bytes, take}
use Rattle.report.specs.inner.ArrayTexts.{elements_text}
use Rattle.report.specs.JsonReport.{finding_data}
use Rattle.report.proofs.json.finding.push_findings.Given as goal

-- the findings so far
abbrev pub invariant-loop-index : goal.invariant-loop-index
invariant-loop-index l = string_bytes l.text ≡ string_bytes l.fn.text ++ elements_text finding_data (take l.index l.findings)
