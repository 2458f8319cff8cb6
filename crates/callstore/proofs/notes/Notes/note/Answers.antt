use Rattle.std.proofs.Common.{◌≡◌, ◌∙◌, ◌<◌, length, sym, ap, arith}
use Rattle.std.proofs.lemmas.List.{length-map}
use Rattle.callstore.specs.Notes.{Notebook, with_note}
use Rattle.callstore.specs.inner.Notes.{NotedList}
use Rattle.callstore.specs.Packed.{noted}
use Rattle.callstore.proofs.NoteLemmas.{with_note_set}
use Rattle.callstore.proofs.notes.Notes.note.Goals as goal

pub returns : goal.returns
returns g c =
    let ranks : length c.args.self.now.lists ≡ length c.self.inside.lists.items =
    ap (λ (notes : Notebook). length notes.lists) (sym c.self.view_is) ∙ length-map c.self.inside.lists.items (λ (list : NotedList). list.calls) in
    let is_rank : c.args.rank < length c.self.inside.lists.items = omega (arith, c.requires.is_rank) in
    let note = noted c.args.call.now c.args.cached c.args.starts.now in
    rw c.from.ensures
    (with_note_set c.self.inside.lists.items c.args.rank c.index_mut-list.result.now c.note.new.self note is_rank (rw c.from.ensures at c.index_mut-list.ensures.value) c.note.ensures
    ∙ ap (λ (notes : Notebook). with_note notes.lists c.args.rank note) c.self.view_is)
