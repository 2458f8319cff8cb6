-- The rule of a feed over a channel, and what its steps do to the hand of an end.
use Rattle.std.specs.Prelude.{if◌then◌else◌, List, [], length, drop}
use Rattle.rankfeed.specs.declared.item.Item.{Item}
use Rattle.channelfeed.specs.declared.channel.rule.Hand.{Hand}

-- what a hand knows to be left: all that is, where it has all that was put
abbrev pub left_in_relay : Hand → List Item
left_in_relay v = if v.may_put then drop (length v.taken_items) v.put_items else []
