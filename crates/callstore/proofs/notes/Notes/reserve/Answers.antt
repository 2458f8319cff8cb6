use Rattle.std.proofs.Common.{◌≡◌, ◌∙◌, ◌<◌, length, map, set, sym, ap, subst, arith}
use Rattle.std.specs.Prelude.{OnOk}
use Rattle.std.specs.Option.{unwrap_or}
use Rattle.std.specs.List.{slice_get}
use Rattle.std.proofs.Math.Seq.{map-set_same}
use Rattle.std.proofs.lemmas.List.{length-map}
use Rattle.callstore.specs.Notes.{Notebook, NoteRoom, Holds, no_room}
use Rattle.callstore.specs.inner.Notes.{NotedList}
use Rattle.callstore.proofs.NoteLemmas.{room_set}
use Rattle.callstore.proofs.notes.Notes.reserve.Goals as goal

pub returns-clause-lists : goal.returns-clause-lists
returns-clause-lists c =
    let at_rank = c.index_mut-list.ensures.value in
    let same = c.reserve.ensures.calls ∙ ap (λ (list : NotedList). list.calls) at_rank in
    map-set_same (λ (list : NotedList). list.calls) c.self.inside.lists.items c.from.result c.reserve.new.self c.index_mut-list.result.now same
    ∙ ap (λ (notes : Notebook). notes.lists) c.self.view_is

pub returns-clause-ok : goal.returns-clause-ok
returns-clause-ok c =
    let ranks : length c.args.self.now.lists ≡ length c.self.inside.lists.items =
    ap (λ (notes : Notebook). length notes.lists) (sym c.self.view_is) ∙ length-map c.self.inside.lists.items (λ (list : NotedList). list.calls) in
    let is_rank : c.args.rank < length c.self.inside.lists.items = omega (arith, c.requires) in
    let is : unwrap_or (slice_get (map (λ (list : NotedList). list.room) (set c.self.inside.lists.items c.from.result c.reserve.new.self)) c.args.rank) no_room ≡ c.reserve.new.self.room =
    rw c.from.ensures (room_set c.self.inside.lists.items c.args.rank c.reserve.new.self is_rank) in
    subst (λ (room : NoteRoom). OnOk c.reserve.result (Holds room c.args.call.now)) (sym is) c.reserve.ensures.ok
