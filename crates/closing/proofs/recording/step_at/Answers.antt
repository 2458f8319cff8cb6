-- The list of the rank after its next entry.
use Rattle.std.proofs.Common.{◌∙◌, List, refl, set, subst, sym, ℕ}
use Rattle.journals.specs.Lines.{Line}
use Rattle.closing.specs.inner.Rankwise.{TakesStep}
use Rattle.closing.proofs.RankwiseLemmas.{got_walk}
use Rattle.closing.proofs.RecordedLemmas.{HasStepped, stays_put, takes_step}
use Rattle.closing.proofs.recording.step_at.Goals as goal

pub returns-then-is_over : goal.returns-then-is_over
returns-then-is_over c ranks journals choice journal is within there same =
    let walks = c.args.walks.now.items in
    let walk = c.in-Some.walk.now in
    let at = got_walk walks walks c.from-at.result c.args.rank walk refl c.from-at.ensures c.in-Some.ensures.item.3 in
    subst (λ (n : ℕ). TakesStep c.args.rank ranks journals choice c.args.run.now walks (set walks n walk)) (sym c.from-at.ensures)
    (stays_put ranks journals choice c.args.run.now walks c.args.rank walk is at (sym c.is_over.ensures ∙ c.if-is_over.true))

pub returns : goal.returns
returns c ranks journals choice journal is within there same =
    let walks = c.args.walks.now.items in
    let old = c.in-Some.walk.now in
    let new = c.step.new.self in
    let at = got_walk walks walks c.from-at.result c.args.rank old refl c.from-at.ensures c.in-Some.ensures.item.3 in
    let has : HasStepped c.args.run.now c.step.new.run c.args.lines.now old new =
    record {
      rank = c.in_ok-step.ensures.rank;
      handed = c.in_ok-step.ensures.handed;
      before = c.in_ok-step.ensures.before;
      run = c.in_ok-step.ensures.run;
      next = c.in_ok-step.ensures.next;
      walk = c.in_ok-step.ensures.walk;
      more = c.in_ok-step.ensures.more;
    } in
    subst (λ (n : ℕ). TakesStep c.args.rank ranks journals choice c.step.new.run walks (set walks n new)) (sym c.from-at.ensures)
    (takes_step ranks journals choice c.args.run.now c.step.new.run walks c.args.rank old new journal is at there (sym c.is_over.ensures ∙ c.if-is_over.false)
    (subst (λ (lines : List Line). HasStepped c.args.run.now c.step.new.run lines old new) (sym same) has))
