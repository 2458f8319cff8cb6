use Rattle.std.proofs.Common.{ap, sym, ◌∙◌, arith}
use Rattle.crossbeam_channel.specs.Claims.{view}
use Rattle.rankfeed.specs.Items.{mark_in}
use Rattle.channelfeed.proofs.RelayLemmas.{takes, finds_empty, has_taken, took_left}
use Rattle.channelfeed.proofs.channel.Taker.pull.Goals as goal

pub try_recv_as-requires-clause-rule : goal.try_recv_as-requires-clause-rule
try_recv_as-requires-clause-rule g c = (takes _ _ c.args.self.now.takes, finds_empty _ _ c.args.self.now.takes)

pub invariant_of-self-2 : goal.invariant_of-self-2
invariant_of-self-2 g c =
    let has = has_taken (view c.args.self.now.pass) (view c.try_recv_as.new.pass) c.in-Ok.item c.in-Ok.ensures.rule c.args.self.now.takes c.args.self.now.in_order in record {
      on = c.in-Ok.ensures.channel.0;
      takes = has.takes;
      in_order = has.in_order;
      ended = ap mark_in has.last ∙ sym c.mark-self.ensures;
      counted = (let count = c.args.self.now.counted in let longer = has.longer in omega arith);
    }

pub returns-clause-left : goal.returns-clause-left
returns-clause-left g c = took_left _ _ _ c.in-Ok.ensures.rule (c.args.self.now.ended ∙ c.requires)
