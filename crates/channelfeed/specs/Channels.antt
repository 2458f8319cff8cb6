-- What contracts see of a feed over a channel, of its taker and of its receipt.
use Rattle.mpicall.specs.Names.{Rank}
use Rattle.std.specs.Prelude.{◌≡◌, ℕ, List}
use Rattle.mpicall.specs.declared.call.Call.{Call}
use Rattle.crossbeam_channel.specs.Claims.{view}
use Rattle.crossbeam_channel.specs.Ends.{sends_on, receives_on, ruled_capacity}
use Rattle.rankfeed.specs.declared.item.Item.{Item}
use Rattle.channelfeed.specs.declared.channel.PutFault.{PutFault}
use Rattle.channelfeed.specs.declared.channel.PutFault.TheVariants.{Full, Closed, Lost}
use Rattle.channelfeed.specs.declared.channel.Feed.{Feed}
use Rattle.channelfeed.specs.declared.channel.Taker.{Taker}
use Rattle.channelfeed.specs.declared.channel.Receipt.{Receipt}
use Rattle.channelfeed.specs.Relays.{left_in_relay}

-- the record that a refused put hands back
abbrev pub handed_back : PutFault → Call
handed_back (Full call) = call
handed_back (Closed call) = call
handed_back (Lost call) = call

-- the two are ends, or a receipt, of one feed: of one rank, and over one channel
abbrev pub SameFeed : Feed → Feed → Type 0
SameFeed old new = (new.rank ≡ old.rank) × (sends_on new.sender ≡ sends_on old.sender)

abbrev pub SameTaker : Taker → Taker → Type 0
SameTaker old new = (new.rank ≡ old.rank) × (receives_on new.receiver ≡ receives_on old.receiver)

abbrev pub IsTakerOf : Feed → Taker → Type 0
IsTakerOf feed taker = (taker.rank ≡ feed.rank) × (receives_on taker.receiver ≡ sends_on feed.sender)

abbrev pub IsReceiptOf : Feed → Receipt → Type 0
IsReceiptOf feed receipt = (receipt.rank ≡ feed.rank) × (sends_on receipt.sender ≡ sends_on feed.sender)

abbrev pub IsReceiptFor : Taker → Receipt → Type 0
IsReceiptFor taker receipt = (receipt.rank ≡ taker.rank) × (sends_on receipt.sender ≡ receives_on taker.receiver)

-- the rank whose records are put
abbrev pub feed_rank : Feed → Rank
feed_rank feed = feed.rank

-- the rank whose records are taken
abbrev pub taker_rank : Taker → Rank
taker_rank taker = taker.rank

-- how many items the feed has room for
abbrev pub feed_capacity : Feed → ℕ
feed_capacity feed = ruled_capacity (sends_on feed.sender)

-- the items put so far
abbrev pub sent_by : Feed → List Item
sent_by feed = (view feed.pass).put_items

-- all the items that were put on the feed of a receipt
abbrev pub sent_whole : Receipt → List Item
sent_whole receipt = (view receipt.pass).put_items

-- the items taken so far
abbrev pub received_by : Taker → List Item
received_by taker = (view taker.pass).taken_items

-- the items that are known to be left; all of them, once the taker met its receipt
abbrev pub left_for : Taker → List Item
left_for taker = left_in_relay (view taker.pass)
