use Rattle.std.proofs.Common.{◌≡◌, [], map, replicate}
use Rattle.callstore.specs.inner.Seats.{Listed}
use Rattle.callstore.proofs.place_lists.PlaceLists.new.Given as goal

abbrev pub invariant-loop-index : goal.invariant-loop-index
invariant-loop-index l = map (λ (list : Listed). list.places) l.lists.items ≡ replicate l._index []
