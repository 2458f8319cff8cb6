use Rattle.std.proofs.Common.{◌==◌, ◌&&◌, ◌∙◌}
use Rattle.waitgraph.proofs.SinkTableLemmas.{is_of_rank}
use Rattle.waitgraph.proofs.graph.pending.is_sink_at.Goals as goal

pub returns : goal.returns
returns c =
    c.is_sink_among.ensures
    ∙ (c.of.ensures (λ sink. sink.rank == c.args.rank && sink.place == c.args.place) (λ sink is. is_of_rank c.args.rank c.args.place sink is)).1
