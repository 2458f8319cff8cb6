-- One that is there is given a number as a list of it alone is.
use Rattle.std.proofs.Common.{◌≡◌, sym, subst, Option, OnOk, vec_len}
use Rattle.closing.specs.inner.Given.{AreBelow, as_places, with_places}
use Rattle.closing.proofs.numbers.Numbering.give_if.Goals as goal
use Rattle.std.specs.Prelude.{ℕ}

pub returns-in-Some-clause-given : goal.returns-in-Some-clause-given
returns-in-Some-clause-given c =
    let self = c.args.self.now in
    let P : Option ℕ → Type 0 = λ it. OnOk c.give_named.result (AreBelow (vec_len self.numbers) (as_places it) → c.give_named.new.self.numbered.items ≡ with_places c.args.named.now self.numbered.items (as_places it)) in
    subst P (sym c.in-Some.is) c.give_named.ensures.given
