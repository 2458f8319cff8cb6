use Rattle.std.proofs.Common.{sym, ◌∙◌, arith}
use Rattle.std.proofs.lemmas.Slice.Eq.{bytes_eq-Decides}
use Rattle.mpicall.proofs.RememberedLemmas.{same_ends}
use Rattle.mpicall.proofs.remembered.are_same.Goals as goal

pub returns-then-eq : goal.returns-then-eq
returns-then-eq c same =
    let first = (bytes_eq-Decides c.in-Some-Some.first.now c.in-Some-Some.second.now).0 (sym c.eq-2.ensures ∙ c.if-eq.true) in
    let last = (bytes_eq-Decides c.in-Some-Some-2.last.now c.in-Some-Some-2.latter.now).0 (sym c.eq-then-eq.ensures ∙ same) in
    same_ends c.args.one.now c.args.other.now c.requires c.in-Some-Some.ensures.cases.enough (omega (arith, c.if-one-gt16.false))
    (sym c.in-Some-Some.ensures.cases.same ∙ first ∙ c.in-Some-Some.ensures'.cases.same)
    (sym c.in-Some-Some-2.ensures.cases.1.same ∙ last ∙ c.in-Some-Some-2.ensures'.cases.1.same)
