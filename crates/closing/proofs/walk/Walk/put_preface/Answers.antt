-- Each line of the preface is put in its turn.
use Rattle.std.proofs.Common.{◌≡◌, ◌∙◌, ◌<◌, get_or, sym, arith, ap, refl, length, subst, ℕ, [], Some}
use Rattle.std.proofs.lemmas.Option.{slice_get-get_or}
use Rattle.closing.specs.Numbers.{preface_lines, preface_of, preface_split}
use Rattle.closing.specs.declared.walk.Walk.{Walk}
use Rattle.closing.proofs.PrefaceCount.{line_put, lines_put, split_at, with_lines}
use Rattle.closing.proofs.walk.Walk.put_preface.Goals as goal

pub loop-line-init : goal.loop-line-init
loop-line-init c = record { same = refl; stands = λ said handed is within all first. first }

pub loop-line-preserved : goal.loop-line-preserved
loop-line-preserved c = record {
  same = ap (λ (it : Walk). record it { list = c.put.new.self }) c.loop-line.invariant.same;
  stands = λ said handed is within all first.
      let rank_is : c.loop-line.self.rank ≡ c.args.self.now.rank = ap (λ (it : Walk). it.rank) c.loop-line.invariant.same in
      let count = c.count-line-end.ensures.lines said (length c.args.run.now.numbered.items) is.preface in
      let below : c.loop-line.line < length (preface_lines said) = omega (arith, count, c.loop-line-test.true) in
      let at = slice_get-get_or (preface_lines said) c.loop-line.line [] below in
      let call =
      c.split.ensures said (length c.args.run.now.numbered.items) _ is.preface at (subst (λ (n : ℕ). n < length said) (sym rank_is) within)
      ∙ ap (λ (n : ℕ). preface_split said n 0 (get_or (preface_lines said) c.loop-line.line [])) rank_is in
      let prior = c.loop-line.invariant.stands said handed is within all first in
      line_put handed said c.args.self.now.rank c.loop-line.line c.split.result c.loop-line.self.list c.put.new.self
      (split_at said c.args.self.now.rank c.loop-line.line _ at ∙ ap Some (sym call)) all
      (λ ranges few. c.in_ok-put.ensures.stands handed (with_lines c.loop-line.line (preface_of said c.args.self.now.rank)) 0 prior ranges few) prior;
}

pub returns-clause-stands : goal.returns-clause-stands
returns-clause-stands c = λ said handed is within all first.
    let count = c.count-line-end.ensures.lines said (length c.args.run.now.numbered.items) is.preface in
    lines_put handed said c.args.self.now.rank c.loop-line.line c.loop-line.self.list (omega (arith, count, c.loop-line-test.false))
    (c.loop-line.invariant.stands said handed is within all first)
