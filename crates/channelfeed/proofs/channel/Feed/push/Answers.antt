use Rattle.std.proofs.Common.{◌≡◌, true, ap, sym, ◌∙◌, arith}
use Rattle.rankfeed.specs.declared.item.Item.TheVariants.{Entry}
use Rattle.crossbeam_channel.specs.Claims.{view}
use Rattle.rankfeed.specs.Items.{last_item, item_ends_list, mark_in}
use Rattle.rankfeed.specs.inner.Items.{may_follow}
use Rattle.rankfeed.proofs.ItemLemmas.{entry_may_follow}
use Rattle.channelfeed.proofs.RelayLemmas.{puts, finds_full, has_put}
use Rattle.channelfeed.proofs.channel.Feed.push.Goals as goal

pub try_send_as-sent-requires-clause-rule : goal.try_send_as-sent-requires-clause-rule
try_send_as-sent-requires-clause-rule g c = (
  puts _ _ (view c.args.self.now.pass) (Entry c.args.call.now) c.args.self.now.puts (entry_may_follow (view c.args.self.now.pass).put_items c.args.call.now (c.args.self.now.closed ∙ c.requires.open) c.args.self.now.unended) (let count = c.args.self.now.counted in let room = c.args.self.now.countable in omega arith),
  finds_full _ _ c.args.self.now.puts,
)

pub invariant_of-self : goal.invariant_of-self
invariant_of-self g c =
    let follows : may_follow (last_item (view c.args.self.now.pass).put_items) (Entry c.args.call.now) ≡ true = entry_may_follow (view c.args.self.now.pass).put_items c.args.call.now (c.args.self.now.closed ∙ c.requires.open) c.args.self.now.unended in
    let has = has_put (view c.args.self.now.pass) (view c.try_send_as-sent.new.pass) (Entry c.args.call.now) c.in-Ok.ensures.rule c.args.self.now.puts c.args.self.now.in_order follows in record {
      on = c.in-Ok.ensures.channel.0;
      puts = has.puts;
      in_order = has.in_order;
      closed = ap item_ends_list has.last ∙ sym c.ends_list-self.ensures;
      unended = ap mark_in has.last;
      counted = (let count = c.args.self.now.counted in let longer = has.longer in omega arith);
      countable = (let room = c.requires.countable in omega arith);
      small = c.args.self.now.small;
    }
