-- One record more was read; or none, since one follows the last.
use Rattle.std.proofs.Common.{rules, refl, ◌∙◌}
use Rattle.gather.proofs.FedLemmas.{one_further, next_line, coming_closed, asked_more, asked_push, fed_closed}
use Rattle.gather.proofs.feed.next_of.Goals as goal

pub returns-in-Ok-true-clause-read : goal.returns-in-Ok-true-clause-read
returns-in-Ok-true-clause-read g c start items done read =
    fed_closed _ _ _ _ items _ _ read.told (coming_closed g.I.Input.left start) (done ∙ c.if-done.true) (rw c.in-Ok-true.field-0-test at c.in-Ok-true.ensures.trace) refl
    (asked_more (g.G.Gate.may_answer c.args.gate.now c.args.rank) _ _ _ read.asked read.at c.ask.ensures c.if-not-ask.false)

pub returns-in-Ok-true-2-clause-read : goal.returns-in-Ok-true-2-clause-read
returns-in-Ok-true-2-clause-read g c start items done read = record {
  fresh = search rules;
  told = one_further _ _ _ _ _ _ read.told (rw c.in-Ok-true.field-0-test at c.in-Ok-true.ensures.trace) refl;
  at = next_line _ _ _ _ _ read.at c.saturating_add.ensures refl;
  asked = asked_push (g.G.Gate.may_answer c.args.gate.now c.args.rank) items _ _ refl (asked_more (g.G.Gate.may_answer c.args.gate.now c.args.rank) _ _ _ read.asked read.at c.ask.ensures c.if-not-ask.false);
}
