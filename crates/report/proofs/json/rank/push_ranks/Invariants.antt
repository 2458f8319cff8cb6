use Rattle.std.proofs.Common.{◌≡◌, ◌++◌, string_bytes, take}
use Rattle.report.specs.inner.ArrayTexts.{elements_text}
use Rattle.report.specs.JsonReport.{rank_data}
use Rattle.report.proofs.json.rank.push_ranks.Given as goal

-- the ranks so far
abbrev pub invariant-loop-index : goal.invariant-loop-index
invariant-loop-index l = string_bytes l.text ≡ string_bytes l.fn.text ++ elements_text (rank_data l.analyser.reading l.analyser.groups l.analyser.recording) (take l.index l.stuck)
