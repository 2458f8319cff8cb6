-- What is known of a rank more.
use Rattle.std.proofs.Common.{◌<◌, length, map, ap, arith}
use Rattle.closing.specs.Pending.{pending_of, sinks_of}
use Rattle.closing.specs.Recording.{list_of}
use Rattle.lawful.proofs.ReadRuns.{fit_of_read}
use Rattle.judging.specs.KnownCalls.{call_as, sink_as}
use Rattle.judging.proofs.KnownLemmas.{all_more, views_more}
use Rattle.judging.proofs.known.known_of.Goals as goal

pub loop-rank-preserved : goal.loop-rank-preserved
loop-rank-preserved c =
    let it = c.args.recording.now in
    let rank = c.loop-rank.rank in
    record {
      pending = λ done.
          let within : rank < length it.run = omega (arith, c.loop-rank-test.true, c.ranks-rank-end.ensures.ranks) in
          views_more (λ r. call_as (pending_of it.run it.choice r)) rank c.loop-rank.pending.items c.push.new.self.items c.in_ok-call_at.field-0
          c.in_ok-push.ensures.items (c.in_ok-call_at.ensures done within) (c.loop-rank.invariant.pending done);
      sinks = λ done.
          let within : rank < length it.run = omega (arith, c.loop-rank-test.true, c.ranks-rank-end.ensures.ranks) in
          all_more (λ r. map (sink_as r) (sinks_of (list_of it.run it.choice r))) rank c.loop-rank.sinks.items c.add_sinks.new.all.items (map (sink_as rank) c.sinks.result.now)
          c.in_ok-add_sinks.ensures (ap (map (sink_as rank)) (c.sinks.ensures (fit_of_read it.run it.choice done.read) within (done.over rank within))) (c.loop-rank.invariant.sinks done);
    }
