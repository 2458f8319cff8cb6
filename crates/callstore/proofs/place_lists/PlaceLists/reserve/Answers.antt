use Rattle.std.proofs.Common.{◌∙◌, ◌<◌, length, map, ap, arith}
use Rattle.std.proofs.lemmas.List.{length-map}
use Rattle.std.proofs.Math.Seq.{map-set_same}
use Rattle.callstore.specs.Seats.{Seats}
use Rattle.callstore.specs.inner.Seats.{Listed}
use Rattle.callstore.proofs.SeatLemmas.{room_set, places_set}
use Rattle.callstore.proofs.NumberLemmas.{on_ok_then}
use Rattle.callstore.proofs.place_lists.PlaceLists.reserve.Goals as goal

pub returns-clause-places : goal.returns-clause-places
returns-clause-places c =
    map-set_same (λ (list : Listed). list.places) c.self.inside.lists.items c.args.index c.reserve.new.self c.index_mut-list.result.now
    (c.reserve.ensures.places ∙ ap (λ (list : Listed). list.places) c.index_mut-list.ensures.value)
    ∙ ap (λ (seats : Seats). seats.places) c.self.view_is

pub returns-clause-room : goal.returns-clause-room
returns-clause-room c =
    let there : c.args.index < length (map (λ (list : Listed). list.places) c.self.inside.lists.items) = rw (← c.self.view_is) at c.requires in
    let within : c.args.index < length c.self.inside.lists.items = omega (arith, there, length-map c.self.inside.lists.items (λ (list : Listed). list.places)) in
    on_ok_then c.reserve.result
    (λ room. rw (places_set c.self.inside.lists.items c.args.index c.reserve.new.self within, room_set c.self.inside.lists.items c.args.index c.reserve.new.self within) room)
    c.reserve.ensures.room
