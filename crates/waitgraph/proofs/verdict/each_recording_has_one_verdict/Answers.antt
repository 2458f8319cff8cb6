use Rattle.waitgraph.proofs.VerdictLemmas.{each_recording_has_one_verdict}
use Rattle.waitgraph.proofs.verdict.each_recording_has_one_verdict.Goals as goal

pub returns : goal.returns
returns c = each_recording_has_one_verdict
