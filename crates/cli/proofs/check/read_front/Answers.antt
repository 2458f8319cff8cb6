-- The front is whole where no bytes are left, or once it is as long as it needs to be.
use Rattle.std.proofs.Common.{arith, ℕ, ◌<◌, length}
use Rattle.std.proofs.lemmas.List.{length-take}
use Rattle.cli.proofs.FrontLemmas.{stays_after, whole_after, whole_when_full}
use Rattle.cli.proofs.check.read_front.Goals as goal

pub returns-then-count-eq0-clause-front : goal.returns-then-count-eq0-clause-front
returns-then-count-eq0-clause-front g c =
    let within = c.pieces.front.ok.0 in
    let same = c.read_some.auto.into in
    let room : 0 < length c.read_some.new.into = omega (arith, length-take {A = ℕ}, c.min-most.ensures, c.len.ensures, c.len-in-pieces.ensures) in
    whole_after _ _ _ c.pieces.front.items c.read_some.new.into c.in-Ok.count c.pieces.invariant.known c.if-count-eq0.true c.in-Ok.ensures.bytes.0
    (omega arith) (c.in-Ok.ensures.bytes.1 c.if-count-eq0.true room)

pub returns-then-count-eq0-clause-left : goal.returns-then-count-eq0-clause-left
returns-then-count-eq0-clause-left g c =
    stays_after _ _ _ c.pieces.front.items c.read_some.new.into c.in-Ok.count c.pieces.invariant.known c.if-count-eq0.true c.in-Ok.ensures.bytes.0

pub returns-clause-front : goal.returns-clause-front
returns-clause-front g c = whole_when_full _ _ c.pieces.front.items c.pieces.invariant.known (omega (arith, c.pieces.front.ok.0))
