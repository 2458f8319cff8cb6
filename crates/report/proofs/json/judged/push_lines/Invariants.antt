use Rattle.std.proofs.Common.{◌≡◌, ◌++◌, string_bytes, take}
use Rattle.report.specs.inner.ArrayTexts.{elements_text}
use Rattle.report.specs.Judged.{line_data}
use Rattle.report.proofs.json.judged.push_lines.Given as goal

-- the elements so far
abbrev pub invariant-loop-index : goal.invariant-loop-index
invariant-loop-index l = string_bytes l.text ≡ string_bytes l.fn.text ++ elements_text line_data (take l.index l.lines)
