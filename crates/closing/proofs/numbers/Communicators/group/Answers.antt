-- The group of a numbered key.
use Rattle.std.proofs.Common.{◌≡◌, ◌∙◌, sym, Some, None}
use Rattle.std.specs.Prelude.{slice_get}
use Rattle.closing.proofs.RunLemmas.{group_gone, group_got}
use Rattle.closing.proofs.numbers.Communicators.group.Goals as goal

pub returns-in-Some : goal.returns-in-Some
returns-in-Some c =
    let self = c.args.self.now in
    let e : slice_get self.numbered.items c.args.number ≡ Some c.in-Some.key = cc (c.in-Some.ensures) in
    c.group.ensures.at ∙ sym (group_got self c.args.number c.in-Some.key e)

pub returns-in-None : goal.returns-in-None
returns-in-None c =
    let self = c.args.self.now in
    let e : slice_get self.numbered.items c.args.number ≡ None = cc (c.in-None.ensures) in
    sym (group_gone self c.args.number e)
