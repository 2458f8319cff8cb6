-- What the journal says, and that it is there.
use Rattle.std.proofs.Common.{◌≡◌, ◌<◌, ◌∙◌, ℕ, not, Option, Some, None, List, Ok, Err, option_map, sym, ap, subst, arith}
use Rattle.std.specs.Option.{option_copied}
use Rattle.journals.specs.Inputs.{text_left}
use Rattle.journals.specs.JournalAnswers.{heading_in, AnswersJournal}
use Rattle.journals.specs.Text.{text_of}
use Rattle.judging.specs.JournalTexts.{bytes_in}
use Rattle.judging.specs.inner.OneJournal.{AnswersOne}
use Rattle.judging.specs.declared.read.ReadFault.{ReadFault}
use Rattle.judging.proofs.OneLemmas.{text_is, opened_left, found, one_ok, one_err}
use Rattle.judging.proofs.read.read_of.Goals as goal
use Rattle.judging.proofs.read.read_of.Goals.{else-rank-gt0-via-then-rank-gt0+in_ok-is_there+else-not-branch, else-rank-gt0-via-else-rank-gt0}

pub returns-in-Ok : goal.returns-in-Ok
returns-in-Ok g c =
    let known = g.J.Journals.known c.args.journals.now c.args.rank in
    let first = option_map heading_in (option_copied c.args.first) in
    let left : g.J.In.Input.left c.in-Some.input ≡ bytes_in known = opened_left g.J.In.Input.left known c.in_ok-input.field-0 c.in-Some.input c.in-Some.is c.in_ok-input.ensures.opened in
    let text = text_is g.J.In.Input.left c.new-text.result c.in-Some.input c.new-text.ensures.within c.new-text.ensures.fresh ∙ ap (λ (l : Option (List ℕ)). option_map text_of l) left in
    let there = elim c.else-rank-gt0.branch as (λ _. known ≡ Some None → 0 < c.args.rank → ⊥) [
      | else-rank-gt0-via-then-rank-gt0+in_ok-is_there+else-not-branch w ↦ λ none later.
          found known w.in_ok-is_there.field-0 w.in_ok-is_there.ensures (λ gone. cc (ap not gone, w.if-not-branch.false)) none
      | else-rank-gt0-via-else-rank-gt0 w ↦ λ none later. absurd (omega (arith, later, w.if-rank-gt0.false))
    ] in
    one_ok c.args.rank first known (text_left g.J.In.Input.left c.new-text.result) c.in-Ok.journal text there
    (subst (λ (r : ℕ). AnswersJournal r first (text_left g.J.In.Input.left c.new-text.result) (Ok c.in-Ok.journal)) c.from.ensures c.in-Ok.ensures.journal)

pub returns : goal.returns
returns g c =
    let known = g.J.Journals.known c.args.journals.now c.args.rank in
    let first = option_map heading_in (option_copied c.args.first) in
    let left : g.J.In.Input.left c.in-Some.input ≡ bytes_in known = opened_left g.J.In.Input.left known c.in_ok-input.field-0 c.in-Some.input c.in-Some.is c.in_ok-input.ensures.opened in
    let text = text_is g.J.In.Input.left c.new-text.result c.in-Some.input c.new-text.ensures.within c.new-text.ensures.fresh ∙ ap (λ (l : Option (List ℕ)). option_map text_of l) left in
    let there = elim c.else-rank-gt0.branch as (λ _. known ≡ Some None → 0 < c.args.rank → ⊥) [
      | else-rank-gt0-via-then-rank-gt0+in_ok-is_there+else-not-branch w ↦ λ none later.
          found known w.in_ok-is_there.field-0 w.in_ok-is_there.ensures (λ gone. cc (ap not gone, w.if-not-branch.false)) none
      | else-rank-gt0-via-else-rank-gt0 w ↦ λ none later. absurd (omega (arith, later, w.if-rank-gt0.false))
    ] in
    let journal = subst (λ (r : ℕ). AnswersJournal r first (text_left g.J.In.Input.left c.new-text.result) (Err c.in-Err.error)) c.from.ensures c.in-Err.ensures.journal in
    subst (λ (f : ReadFault). AnswersOne known c.args.rank first (Err f)) (sym c.fault_of.ensures)
    (one_err c.args.rank first known (text_left g.J.In.Input.left c.new-text.result) (text_left g.J.In.Input.left c.read_journal.new.text) c.in-Err.error text there journal c.in-Err.ensures.cut)
