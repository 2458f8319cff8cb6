-- A place has a number exactly if it is among those that have.
use Rattle.std.proofs.Common.{◌≡◌, ◌∙◌, Some, None}
use Rattle.std.specs.Prelude.{slice_get}
use Rattle.closing.proofs.NumberLemmas.{number_past, number_test}
use Rattle.closing.proofs.numbers.Numbering.has.Goals as goal

pub returns-in-Some : goal.returns-in-Some
returns-in-Some c =
    let self = c.args.self.now in
    let e : slice_get self.numbers.items c.args.key ≡ Some c.in-Some.number = cc (c.in-Some.ensures) in
    c.is_some.ensures ∙ number_test self.numbers.items self.numbered.items c.args.key c.in-Some.number c.requires e

pub returns-in-None : goal.returns-in-None
returns-in-None c =
    let self = c.args.self.now in
    let e : slice_get self.numbers.items c.args.key ≡ None = cc (c.in-None.ensures) in
    number_past self.numbers.items self.numbered.items c.args.key c.requires e
