-- The line is there, or it is put after the others.
use Rattle.std.proofs.Common.{◌≡◌, ◌<◌, ◌≤◌, arith, sym, subst, List, length}
use Rattle.closing.specs.inner.Prefaces.{IsPreface, Seated, first_free}
use Rattle.closing.proofs.PrefaceLemmas.{free_most, line_end, line_inside, line_more}
use Rattle.closing.proofs.numbers.Preface.line_for.Goals as goal

pub returns-in_ok-push_line-clause-lines : goal.returns-in_ok-push_line-clause-lines
returns-in_ok-push_line-clause-lines c =
    λ ranks next lines h.
    let n = c.first_free-line.result in
    let e = c.first_free-line.ensures ranks next lines h in
    let last : n ≡ length lines = omega (arith, h.count) in
    let new = c.push_line.new.self in
    let P : List (List Seated) → Type 0 = λ xs. IsPreface new next xs in
    let of = c.in_ok-push_line.ensures in
    (e, subst P (sym (line_end n lines last)) (line_more c.args.self.now new next lines h of.ranks of.sizes of.seats of.colours))

pub returns-else-line-len-clause-lines : goal.returns-else-line-len-clause-lines
returns-else-line-len-clause-lines c =
    λ ranks next lines h.
    let n = c.first_free-line.result in
    let e = c.first_free-line.ensures ranks next lines h in
    let few : first_free c.args.group.now lines ≤ length lines = free_most c.args.group.now lines in
    let inside : n < length lines = omega (arith, h.count) in
    let P : List (List Seated) → Type 0 = λ xs. IsPreface c.args.self.now next xs in
    (e, subst P (sym (line_inside n lines inside)) h)
