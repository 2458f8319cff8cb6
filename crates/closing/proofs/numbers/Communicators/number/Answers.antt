-- The number of a key is that of its place.
use Rattle.std.proofs.Common.{◌≡◌, Some, None}
use Rattle.std.specs.Prelude.{slice_get}
use Rattle.closing.proofs.RunLemmas.{number_named}
use Rattle.closing.proofs.numbers.Communicators.number.Goals as goal

pub returns-in-Some-clause-number : goal.returns-in-Some-clause-number
returns-in-Some-clause-number c =
    λ run it h has.
    let self = c.args.self.now in
    let e : slice_get self.named.items c.args.key ≡ Some c.in-Some.named = cc (c.in-Some.ensures.kept) in
    number_named run self c.args.key it (Some c.in-Some.named) h has e

pub returns-in-None-clause-number : goal.returns-in-None-clause-number
returns-in-None-clause-number c =
    λ run it h has.
    let self = c.args.self.now in
    let e : slice_get self.named.items c.args.key ≡ None = cc (c.in-None.ensures.kept) in
    number_named run self c.args.key it None h has e
