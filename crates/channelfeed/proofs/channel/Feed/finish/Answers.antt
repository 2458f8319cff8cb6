use Rattle.std.proofs.Common.{is_some, ap, arith}
use Rattle.rankfeed.specs.declared.item.Item.TheVariants.{Mark}
use Rattle.crossbeam_channel.specs.Claims.{view}
use Rattle.rankfeed.specs.Items.{mark_in}
use Rattle.channelfeed.proofs.RelayLemmas.{puts, finds_full, has_put}
use Rattle.channelfeed.proofs.channel.Feed.finish.Goals as goal

pub send_as-requires-clause-rule : goal.send_as-requires-clause-rule
send_as-requires-clause-rule g c = (
  puts _ _ _ _ c.args.self.puts c.requires (let count = c.args.self.counted in let room = c.args.self.countable in omega arith),
  finds_full _ _ c.args.self.puts,
)

pub invariant_of-result : goal.invariant_of-result
invariant_of-result g c =
    let has = has_put (view c.args.self.pass) (view c.send_as.new.pass) (Mark c.args.end) c.in-Ok.ensures.rule c.args.self.puts c.args.self.in_order c.requires in record {
      on = c.in-Ok.ensures.channel.0;
      puts = has.puts;
      in_order = has.in_order;
      whole = ap (λ o. is_some (mark_in o)) has.last;
      counted = (let count = c.args.self.counted in let longer = has.longer in omega arith);
    }
