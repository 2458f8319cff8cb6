use Rattle.std.proofs.Common.{◌≡◌, length, sym, ap, ◌∙◌}
use Rattle.mpigroup.specs.Groups.{ranks_of}
use Rattle.moves.proofs.AnalyserLemmas.{closed_where_ended}
use Rattle.moves.proofs.analyser.are_closed.Goals as goal

pub returns : goal.returns
returns c =
    let p = c.args.pairs.now in
    let many : c.ranks.result ≡ length p.recording = c.ranks.ensures.value ∙ ap ranks_of c.head.ensures.value ∙ sym c.head.ensures.ranks in
    closed_where_ended p.groups p.recording c.ranks.result c.are_ended.result c.calls_are_lawful.ensures many c.are_ended.ensures
