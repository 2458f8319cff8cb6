use Rattle.std.proofs.Common.{◌∙◌, ◌<◌, length, ap, arith}
use Rattle.callstore.specs.Notes.{Notebook, partnered}
use Rattle.callstore.proofs.NoteLemmas.{partnered_set}
use Rattle.callstore.proofs.notes.Notes.set_partner.Goals as goal

pub returns-then-from-len : goal.returns-then-from-len
returns-then-from-len c =
    let is_rank : c.args.rank < length c.self.inside.lists.items = omega arith in
    rw c.from-then-from-len.ensures
    (partnered_set c.self.inside.lists.items c.args.rank c.args.place c.args.half c.args.there c.index_mut-list.result.now c.set_partner.new.self is_rank (rw c.from-then-from-len.ensures at c.index_mut-list.ensures.value) c.set_partner.ensures
    ∙ ap (λ (notes : Notebook). partnered notes.lists c.args.rank c.args.place c.args.half c.args.there) c.self.view_is)
