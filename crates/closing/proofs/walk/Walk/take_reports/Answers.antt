-- Each report is taken in its turn.
use Rattle.std.proofs.Common.{◌∙◌, ◌<◌, ap, refl, arith, subst, sym, drop, ◌+◌, Option, ℕ}
use Rattle.closing.specs.inner.Pending.{pending}
use Rattle.closing.specs.inner.SoFar.{comms_at}
use Rattle.closing.proofs.PendingLemmas.{IsMadeTo, made_first, made_last, made_next}
use Rattle.closing.proofs.SoFarLemmas.{none_to_come, reports_first, reports_next, there_is}
use Rattle.closing.specs.declared.numbers.Communicators.{Communicators}
use Rattle.closing.specs.declared.walk.Walk.{Walk}
use Rattle.closing.proofs.walk.Walk.take_reports.Goals as goal

pub loop-line-init : goal.loop-line-init
loop-line-init c = record {
  same = refl;
  run = refl;
  comms = λ rank e has. reports_first rank c.args.lines.now c.args.start c.args.end c.args.run.now.keys c.args.self.now.comms e has;
  made = λ rank all e has. made_first c.args.run.now.keys (pending (comms_at rank c.args.lines.now c.args.start) (drop c.args.start c.args.lines.now));
}

pub loop-line-preserved : goal.loop-line-preserved
loop-line-preserved c =
    let below : c.loop-line.line < c.args.end = omega (arith, c.loop-line-test.true) in
    record {
      same = c.take_report.ensures.same ∙ ap (λ (it : Walk). record it { comms = c.take_report.new.self.comms }) c.loop-line.invariant.same;
      run = c.take_report.ensures.run ∙ ap (λ (it : Communicators). record it { keys = c.take_report.new.run.keys }) c.loop-line.invariant.run;
      comms = λ rank e has.
          reports_next rank c.args.lines.now c.loop-line.line c.args.end c.args.run.now.keys c.loop-line.run.keys c.take_report.new.run.keys
          c.loop-line.self.comms c.take_report.new.self.comms below (λ word at have. c.in_ok-key.ensures.comms rank word at have)
          (λ have. c.in_ok-key.ensures.grows rank have) (c.loop-line.invariant.comms rank e has);
      made = λ rank all e has.
          let lines = c.args.lines.now in
          let line = c.loop-line.line in
          let to = c.loop-line.invariant.comms rank e has in
          let word = there_is lines line (omega (arith, below, to.left)) in
          let whole = pending (comms_at rank lines c.args.start) (drop c.args.start lines) in
          subst (λ (place : Option ℕ). IsMadeTo c.take_report.new.run.keys place whole (pending (comms_at rank lines (line + 1)) (drop (line + 1) lines))) (sym c.or-made.ensures)
          (made_next rank lines line word.0 c.loop-line.run.keys c.take_report.new.run.keys c.loop-line.made c.in_ok-key.key whole all word.1
          (c.in_ok-key.ensures.grows rank to.comms) (c.in_ok-key.ensures.made rank word.0 word.1 to.comms) (c.loop-line.invariant.made rank all e has));
    }

pub returns-clause-made : goal.returns-clause-made
returns-clause-made c = λ rank all e has.
    let lines = c.args.lines.now in
    let to = c.loop-line.invariant.comms rank e has in
    made_last c.loop-line.run.keys c.loop-line.made (pending (comms_at rank lines c.args.start) (drop c.args.start lines)) (comms_at rank lines c.loop-line.line) (drop c.loop-line.line lines)
    (none_to_come lines c.loop-line.line c.args.end (omega (arith, c.loop-line-test.false)) to.left) (c.loop-line.invariant.made rank all e has)
