use Rattle.moves.proofs.WakeLemmas.{none_probe}
use Rattle.moves.proofs.settle.wake_prober.Goals as goal

pub returns-else-has_probes : goal.returns-else-has_probes
returns-else-has_probes c =
    let p = c.args.pairs.now in
    none_probe p.groups p.recording c.args.rank c.args.place c.args.waiters.now (c.has_probes.ensures.none c.if-has_probes.false)
