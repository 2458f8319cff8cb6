use Rattle.std.proofs.Common.{◌≡◌, ◌++◌, string_bytes, map, take}
use Rattle.waitgraph.specs.Pending.{view_of}
use Rattle.report.specs.inner.ArrayTexts.{elements_text}
use Rattle.report.specs.PendingReport.{data_of_rank}
use Rattle.report.proofs.json.pending.push_these.Given as goal

-- the ranks so far
abbrev pub invariant-loop-index : goal.invariant-loop-index
invariant-loop-index l = string_bytes l.text ≡ string_bytes l.fn.text ++ elements_text (data_of_rank l.run.analyser.now.reading l.run.analyser.now.groups l.run.analyser.now.recording (map view_of l.run.pending.now) l.run.graph.now.at_open) (take l.index l.ranks)
