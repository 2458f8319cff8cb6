-- What is listed so far and what the other requests give is what all give.
use Rattle.std.proofs.Common.{◌≡◌, ◌++◌, drop}
use Rattle.std.specs.List.{filter_map}
use Rattle.closing.specs.inner.Sunk.{item_at}
use Rattle.closing.proofs.walk.sinks.push_items.Given as goal

abbrev pub invariant-loop-field : goal.invariant-loop-field
invariant-loop-field l = l.into.items ++ filter_map (item_at l.standing l.sinks l.list) (drop l.field-index l.requests) ≡ l.fn.into.items ++ filter_map (item_at l.standing l.sinks l.list) l.requests
