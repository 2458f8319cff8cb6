-- The communicator is put into the first free line.
use Rattle.std.proofs.Common.{◌∙◌, ℕ, ap, arith, sym, subst, List, length}
use Rattle.closing.specs.inner.Prefaces.{AreRanks}
use Rattle.closing.proofs.PrefaceLemmas.{put_done}
use Rattle.closing.proofs.numbers.Preface.put.Goals as goal

pub returns-clause-colours : goal.returns-clause-colours
returns-clause-colours c =
    let mid = c.line_for.new.self in
    let seated = c.seat.new.self in
    c.colour.ensures.room ∙ seated.colours.ok.0 ∙ ap (λ (xs : List ℕ). length xs) c.in_ok-seat.ensures.colours
    ∙ sym mid.colours.ok.0 ∙ c.in_ok-line.ensures.colours

pub returns-clause-lines : goal.returns-clause-lines
returns-clause-lines c =
    λ ranks inside lines h.
    let mid = c.line_for.new.self in
    let done = c.in_ok-line.ensures.lines ranks c.args.comm lines h in
    let P : ℕ → Type 0 = λ n. AreRanks n c.args.group.now in
    let members = subst P (sym c.in_ok-line.ensures.ranks) ranks in
    let of = c.in_ok-seat.ensures in
    let by = c.colour.ensures in
    put_done mid c.seat.new.self c.colour.new.self c.in_ok-line.line c.args.comm c.args.group.now lines
    done.0 done.1 members (omega (arith, c.in_ok-line.ensures.colours)) (omega arith)
    of.ranks of.sizes of.colours (of.seats members) by.ranks by.seats by.sizes by.colours
