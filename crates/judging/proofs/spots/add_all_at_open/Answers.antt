-- The calls of a rank more.
use Rattle.std.specs.Prelude.{slice_index}
use Rattle.moves.specs.Stands.{stands_of}
use Rattle.judging.specs.KnownCalls.{calls_at_open}
use Rattle.judging.specs.inner.Known.{known_in}
use Rattle.judging.proofs.KnownLemmas.{opens_more}
use Rattle.judging.proofs.spots.add_all_at_open.Goals as goal

pub loop-rank-preserved : goal.loop-rank-preserved
loop-rank-preserved c =
    let at = c.args.analyser.now in
    opens_more (λ rank. calls_at_open at.recording (known_in c.args.known.now) c.args.graph.now.at_open rank (slice_index (stands_of at.reading at.groups at.recording) rank))
    c.loop-rank.rank c.args.spots.now.keys c.loop-rank.spots.keys c.add_at_open.new.spots.keys c.loop-rank.invariant c.in_ok-add_at_open.ensures
