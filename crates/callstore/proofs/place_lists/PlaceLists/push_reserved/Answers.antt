use Rattle.std.proofs.Common.{◌∙◌, ◌<◌, length, ap, subst, sym}
use Rattle.callstore.specs.Seats.{Seats, with_place_in, HasRoomIn}
use Rattle.callstore.proofs.SeatLemmas.{place_more, room_within}
use Rattle.callstore.proofs.place_lists.PlaceLists.push_reserved.Goals as goal

pub returns : goal.returns
returns c =
    let room : HasRoomIn _ c.args.index = subst (λ (seats : Seats). HasRoomIn seats c.args.index) (sym c.self.view_is) c.requires in
    let within : c.args.index < length c.self.inside.lists.items = room_within c.self.inside.lists.items c.args.index room in
    place_more c.self.inside.lists.items c.args.index c.args.place c.index_mut-list.result.now c.push_reserved.new.self within c.index_mut-list.ensures.value c.push_reserved.ensures
    ∙ ap (λ (seats : Seats). with_place_in seats.places c.args.index c.args.place) c.self.view_is
