-- The lines to the text's end say what all of them do.
use Rattle.std.proofs.Common.{◌≡◌, ℕ, ◌+◌, ◌≤◌, ◌∙◌, refl, sym, ap, subst, arith, Ok, Bool, List}
use Rattle.journals.specs.Inputs.{text_left}
use Rattle.journals.specs.Lines.{Line}
use Rattle.journals.specs.inner.Knows.{owner_of}
use Rattle.journals.specs.inner.Reader.{coming}
use Rattle.journals.specs.inner.JournalAnswers.{lines_to_come, GoesOn, AnswersComing}
use Rattle.journals.specs.Faults.{Owner}
use Rattle.journals.proofs.JournalLemmas.{goes_same, goes_further, checked_last, checked_failed, checked_cut}
use Rattle.journals.proofs.PassLemmas.{passes_none, passes_both, cut_within}
use Rattle.journals.proofs.journal.read_lines.Goals as goal

pub loop-init : goal.loop-init
loop-init g c = record {
  owner = refl;
  ranks = c.requires.ranks;
  knows = c.requires.knows;
  some = c.requires.some;
  number = c.requires.number;
  passed = (0, omega arith, passes_none _);
  on = goes_same _;
}

pub loop-preserved : goal.loop-preserved
loop-preserved g c =
    let next = rw c.in-Ok-true.field-0-test at c.in-Ok-true.ensures.next in
    let passes = rw c.in-Ok-true.field-0-test at c.in-Ok-true.ensures.passes in
    let on = rw c.in-Ok-true.field-0-test at c.in-Ok-true.ensures.lines in
    let more : c.read_next.new.self.number ≡ c.loop.reading.number + 1 = next in
    let goes : GoesOn (lines_to_come (owner_of c.loop.reading.known) c.loop.reading.lines (coming c.loop.window (text_left g.I.Input.left c.loop.text))) (lines_to_come (owner_of c.loop.reading.known) c.read_next.new.self.lines (coming c.read_next.new.window (text_left g.I.Input.left c.read_next.new.text))) = on in
    record {
      owner = c.read_next.ensures.owner ∙ c.loop.invariant.owner;
      ranks = ap (λ owner. owner.ranks) c.read_next.ensures.owner ∙ c.loop.invariant.ranks ∙ sym c.read_next.ensures.ranks;
      knows = c.in-Ok-true.ensures.knows;
      some = subst (λ n. 1 ≤ n) (sym c.read_next.ensures.ranks) c.loop.invariant.some;
      number = c.in-Ok-true.ensures.number;
      passed = (c.loop.invariant.passed.0 + 1, more ∙ one_more c.loop.reading.number c.args.reading.number c.loop.invariant.passed.0 c.loop.invariant.passed.1, passes_both _ _ _ c.loop.invariant.passed.0 1 c.loop.invariant.passed.2 passes);
      on = goes_further _ _ _ c.loop.invariant.on (subst (λ (owner : Owner). GoesOn (lines_to_come (owner_of c.loop.reading.known) c.loop.reading.lines (coming c.loop.window (text_left g.I.Input.left c.loop.text))) (lines_to_come owner c.read_next.new.self.lines (coming c.read_next.new.window (text_left g.I.Input.left c.read_next.new.text)))) (sym c.read_next.ensures.owner) goes);
    }
  where
    one_more : (number first count : ℕ) → number ≡ first + count → number + 1 ≡ first + (count + 1)
    one_more number first count is = omega arith

pub returns-in-Ok-false-clause-lines : goal.returns-in-Ok-false-clause-lines
returns-in-Ok-false-clause-lines g c =
    let read = rw c.in-Ok-false.field-0-test at c.in-Ok-false.ensures.lines in
    let answered : AnswersComing (lines_to_come (owner_of c.loop.reading.known) c.loop.reading.lines (coming c.loop.window (text_left g.I.Input.left c.loop.text))) (Ok c.read_next.new.self.lines) = read in
    let fitted = subst (λ (lines : List Line). AnswersComing (lines_to_come (owner_of c.loop.reading.known) c.loop.reading.lines (coming c.loop.window (text_left g.I.Input.left c.loop.text))) (Ok lines)) (sym c.fit.ensures) answered in
    checked_last _ _ c.fit.new.lines _ c.loop.invariant.on fitted c.checked-lines.ensures.lines

pub returns-in-Ok-false-clause-cut : goal.returns-in-Ok-false-clause-cut
returns-in-Ok-false-clause-cut g c =
    checked_cut c.args.reading.number _ _ c.checked-lines.result c.checked-lines.ensures.whole

pub returns-in-Err-clause-lines : goal.returns-in-Err-clause-lines
returns-in-Err-clause-lines g c = checked_failed _ _ c.in-Err.error c.loop.invariant.on c.in-Err.ensures.lines

pub returns-in-Err-clause-cut : goal.returns-in-Err-clause-cut
returns-in-Err-clause-cut g c =
    cut_within Bool (List Line) c.args.reading.number c.loop.reading.number c.loop.invariant.passed.0 _ _ _ c.in-Err.error c.loop.invariant.passed.1 c.loop.invariant.passed.2 c.in-Err.ensures.cut
