use Rattle.std.proofs.Common.{◌≡◌, ◌++◌, string_bytes, take}
use Rattle.report.specs.inner.ArrayTexts.{elements_text}
use Rattle.report.specs.JsonReport.{numeral}
use Rattle.report.proofs.json.held.push_ranks.Given as goal

-- the elements so far
abbrev pub invariant-loop-index : goal.invariant-loop-index
invariant-loop-index l = string_bytes l.text ≡ string_bytes l.fn.text ++ elements_text numeral (take l.index l.ranks)
