-- Numbers one after the other.
use Rattle.std.proofs.Common.{◌≡◌, ◌∙◌, arith, get_or, length, sym, subst, Some}
use Rattle.std.specs.Prelude.{slice_get}
use Rattle.std.proofs.lemmas.Option.{slice_get-get_or}
use Rattle.closing.specs.inner.Prefaces.{AreRanks}
use Rattle.closing.specs.Table.{group_at}
use Rattle.closing.proofs.KeptLemmas.{left_first, left_next, left_none}
use Rattle.closing.proofs.numbers.preface_of.Goals as goal

pub loop-number-init : goal.loop-number-init
loop-number-init c = record {
  ranks = c.in_ok-preface.ensures.ranks;
  colours = omega (arith, c.in_ok-preface.ensures.colours);
  low = omega arith;
  high = λ some. omega arith;
  left = λ some below groups. left_first c.args.keys.now c.args.numbered.now c.in_ok-preface.preface c.in_ok-preface.ensures.lines;
}

pub loop-number-preserved : goal.loop-number-preserved
loop-number-preserved c =
    let n = c.loop-number.number in
    let numbered = c.args.numbered.now in
    let table = c.args.keys.now in
    let cur = c.loop-number.preface in
    let inv = c.loop-number.invariant in
    let of = c.in_ok-put_into.ensures in
    let p = get_or numbered n 0 in
    let e : slice_get numbered n ≡ Some p = slice_get-get_or numbered n 0 (omega arith) in
    record {
      ranks = of.ranks ∙ inv.ranks;
      colours = of.colours ∙ inv.colours;
      low = omega arith;
      high = λ some. omega arith;
      left = λ some below groups.
          let h = inv.left some below groups in
          left_next table numbered cur c.put_into.new.preface n p e h
          (of.lines (below n p e) (subst (λ k. AreRanks k (group_at table p)) (sym inv.ranks) (groups n p e)) (omega (arith, inv.colours)) h.lines h.is);
    }

pub returns-clause-lines : goal.returns-clause-lines
returns-clause-lines c =
    λ some below groups.
    let n = c.loop-number.number in
    let numbered = c.args.numbered.now in
    let inv = c.loop-number.invariant in
    let high = inv.high some in
    let all : n ≡ length numbered = omega arith in
    left_none c.args.keys.now numbered c.loop-number.preface n all (inv.left some below groups)
