-- The journals so far, and the first fault.
use Rattle.std.proofs.Common.{◌≡◌, ◌<◌, ◌∙◌, ◌+◌, Option, List, [], ◌∷◌, ◌++◌, length, Ok, Err, refl, sym, ap, subst, arith}
use Rattle.journals.specs.Header.{Heading}
use Rattle.journals.specs.declared.journal.Journal.{Journal}
use Rattle.judging.specs.inner.OneJournal.{AnswersOne, first_heading, ranks_by}
use Rattle.judging.proofs.FileLemmas.{AreBegun, length_snoc, few_by, heading_kept, first_read, next_read, all_read, first_fault, next_fault, fault_answered}
use Rattle.judging.proofs.read.read_journals.Goals as goal

pub loop-rank-init : goal.loop-rank-init
loop-rank-init g c =
    let known = g.J.Journals.known c.args.journals.now in
    let items : c.push.new.self.items ≡ c.in_ok-read_of.field-0 ∷ [] =
    c.in_ok-push.ensures.items ∙ ap (λ (l : List (Option Journal)). l ++ c.in_ok-read_of.field-0 ∷ []) c.new-all.ensures.items in
    let one : length c.push.new.self.items ≡ 1 = ap (λ (l : List (Option Journal)). length l) items in
    record {
      count = one;
      few = omega (arith, one);
      heading = refl;
      begun = subst (λ (l : List (Option Journal)). AreBegun known l) (sym items) (first_read known c.in_ok-read_of.field-0 c.in_ok-read_of.ensures);
    }

pub loop-rank-preserved : goal.loop-rank-preserved
loop-rank-preserved g c =
    let known = g.J.Journals.known c.args.journals.now in
    let so_far = c.loop-rank.all.items in
    let items : c.push-in-loop-rank.new.self.items ≡ so_far ++ c.in_ok-journal.journal ∷ [] = c.in_ok-push-2.ensures.items in
    let more : length c.push-in-loop-rank.new.self.items ≡ length so_far + 1 =
    ap (λ (l : List (Option Journal)). length l) items ∙ length_snoc so_far c.in_ok-journal.journal in
    let later : 0 < c.loop-rank.rank = omega (arith, c.loop-rank.auto.rank) in
    let place : c.loop-rank.rank ≡ length so_far = sym c.loop-rank.invariant.count in
    let end : c.ranks_of-rank-end.result ≡ ranks_by (first_heading c.as_slice.result.now) = c.ranks_of-rank-end.ensures in
    let heading = c.first_header.ensures ∙ ap first_heading c.as_slice-in-loop-rank.ensures.value in
    let answers = subst (λ (h : Option Heading). AnswersOne (known c.loop-rank.rank) c.loop-rank.rank h (Ok c.in_ok-journal.journal)) heading c.in_ok-journal.ensures in
    record {
      count = omega (arith, more, c.loop-rank.invariant.count);
      few = omega (arith, more, c.loop-rank.invariant.count, c.loop-rank-test.true, end, few_by (first_heading c.as_slice.result.now));
      heading = ap first_heading items ∙ heading_kept so_far c.in_ok-journal.journal (omega (arith, later, place)) ∙ c.loop-rank.invariant.heading;
      begun = subst (λ (l : List (Option Journal)). AreBegun known l) (sym items)
          (next_read known so_far c.loop-rank.rank c.in_ok-journal.journal place later c.loop-rank.invariant.begun answers);
    }

pub returns-clause-run : goal.returns-clause-run
returns-clause-run g c =
    let known = g.J.Journals.known c.args.journals.now in
    let read = c.loop-rank.all.items in
    let end : c.ranks_of-rank-end.result ≡ ranks_by (first_heading read) =
    c.ranks_of-rank-end.ensures ∙ ap (λ (l : List (Option Journal)). ranks_by (first_heading l)) c.as_slice.ensures.value ∙ ap ranks_by (sym c.loop-rank.invariant.heading) in
    all_read known read (omega (arith, c.loop-rank.invariant.count, c.loop-rank.auto.rank)) c.loop-rank.invariant.few
    (λ some.
    let last = c.loop-rank.auto.rank-end (omega (arith, end, some)) in
    omega (arith, c.loop-rank.invariant.count, c.loop-rank-test.false, last, end))
    c.loop-rank.invariant.begun

pub returns-in_err-read_of-clause-fault : goal.returns-in_err-read_of-clause-fault
returns-in_err-read_of-clause-fault g c =
    let known = g.J.Journals.known c.args.journals.now in
    fault_answered c.from_residual.result known c.in_err-read_of.field-0.0 c.from_residual.ensures.1
    (first_fault known c.in_err-read_of.field-0.0 c.in_err-read_of.ensures)

pub returns-in_err-journal-clause-fault : goal.returns-in_err-journal-clause-fault
returns-in_err-journal-clause-fault g c =
    let known = g.J.Journals.known c.args.journals.now in
    let so_far = c.loop-rank.all.items in
    let rank = c.loop-rank.rank in
    let fault = c.in_err-journal.field-0.0 in
    let end : c.ranks_of-rank-end.result ≡ ranks_by (first_heading so_far) =
    c.ranks_of-rank-end.ensures ∙ ap (λ (l : List (Option Journal)). ranks_by (first_heading l)) c.as_slice.ensures.value ∙ ap ranks_by (sym c.loop-rank.invariant.heading) in
    let heading = c.first_header.ensures ∙ ap first_heading c.as_slice-in-loop-rank.ensures.value in
    let answers = subst (λ (h : Option Heading). AnswersOne (known rank) rank h (Err fault)) heading c.in_err-journal.ensures in
    fault_answered c.from_residual-in_err-journal.result known fault c.from_residual-in_err-journal.ensures.1
    (next_fault known so_far rank (sym c.loop-rank.invariant.count) (omega (arith, c.loop-rank.auto.rank)) (omega (arith, c.loop-rank-test.true, end)) c.loop-rank.invariant.begun fault answers)
