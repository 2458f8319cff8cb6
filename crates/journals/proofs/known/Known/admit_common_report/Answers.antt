-- The first fault of a report that brings no communicator, and what is held after it.
use Rattle.std.proofs.Common.{◌≡◌, ℕ, ◌∙◌, ap, sym, subst, refl, true, false, take, Err}
use Rattle.std.proofs.lemmas.Result.{on_ok_weaker, err_from_is_err_and}
use Rattle.journals.specs.Faults.{fault_of_line}
use Rattle.journals.specs.inner.Marks.{ranks_in}
use Rattle.journals.specs.inner.Knows.{IsNext, Answers, is_known, owner_of}
use Rattle.journals.specs.inner.Numbered.{numbered}
use Rattle.journals.specs.declared.word.Word.TheVariants.{Report}
use Rattle.journals.specs.inner.Notes.{note_at, noted, may_use, may_report, by_report, IsFault}
use Rattle.journals.specs.declared.fault.JournalFaultKind.TheVariants as fault
use Rattle.journals.proofs.Assembly.{report_answer, report_group_is, report_refused, report_done, answer_last, knows_all, right_without_comm, comms_without}
use Rattle.journals.proofs.known.Known.admit_common_report.Goals as goal

pub returns-then-not-is_in_place-clause-answer : goal.returns-then-not-is_in_place-clause-answer
returns-then-not-is_in_place-clause-answer c =
    let next : IsNext (ranks_in c.args.self.now.marks) c.args.lines.now c.args.line (record { word = Report c.args.word; fields = c.fields-fields.result.now }) = subst (λ fs. IsNext (ranks_in c.args.self.now.marks) c.args.lines.now c.args.line (record { word = Report c.args.word; fields = fs })) (sym c.fields-fields.ensures) c.requires.next in
    ap (λ fs. fault_of_line (owner_of c.args.self.now) (take c.args.line c.args.lines.now) (record { word = Report c.args.word; fields = fs })) (sym c.fields-fields.ensures) ∙ report_answer c.args.lines.now c.args.line c.args.self.now c.args.word c.fields-fields.result.now next c.requires.knows c.requires.goes_on false _ _ _ (sym c.is_in_place.ensures ∙ c.if-not-is_in_place.true) refl refl refl

pub returns-in_err-note_report-clause-answer : goal.returns-in_err-note_report-clause-answer
returns-in_err-note_report-clause-answer c =
    let p = err_from_is_err_and c.from_residual.result c.from_residual.ensures.1 in
    let next : IsNext (ranks_in c.args.self.now.marks) c.args.lines.now c.args.line (record { word = Report c.args.word; fields = c.fields-fields.result.now }) = subst (λ fs. IsNext (ranks_in c.args.self.now.marks) c.args.lines.now c.args.line (record { word = Report c.args.word; fields = fs })) (sym c.fields-fields.ensures) c.requires.next in
    let wrong : IsFault fault.Request _ c.in_err-note_report.field-0.0 = subst (λ it. IsFault fault.Request (may_use (may_report c.args.line) (by_report c.args.word c.args.line it) (note_at c.args.self.now.notes) (numbered (Report c.args.word) c.fields-fields.result.now) ≡ false) c.in_err-note_report.field-0.0) c.chosen_by-completed.ensures c.in_err-note_report.ensures.fault in
    let refused : Answers (owner_of c.args.self.now) (take c.args.line c.args.lines.now) (record { word = Report c.args.word; fields = c.fields-fields.result.now }) (Err c.in_err-note_report.field-0.0) = report_refused c.args.lines.now c.args.line c.args.self.now c.args.word c.fields-fields.result.now next c.requires.knows c.requires.goes_on c.in_err-note_report.field-0.0 (sym c.is_in_place.ensures ∙ c.if-not-is_in_place.false) wrong in
    rw (p.1, p.2) (subst (λ fs. Answers (owner_of c.args.self.now) (take c.args.line c.args.lines.now) (record { word = Report c.args.word; fields = fs }) (Err c.in_err-note_report.field-0.0)) c.fields-fields.ensures refused)

pub returns-clause-answer : goal.returns-clause-answer
returns-clause-answer c =
    let next : IsNext (ranks_in c.args.self.now.marks) c.args.lines.now c.args.line (record { word = Report c.args.word; fields = c.fields-fields.result.now }) = subst (λ fs. IsNext (ranks_in c.args.self.now.marks) c.args.lines.now c.args.line (record { word = Report c.args.word; fields = fs })) (sym c.fields-fields.ensures) c.requires.next in
    answer_last (owner_of c.args.self.now) (take c.args.line c.args.lines.now) _ c.note_last.result c.note_last.ensures.fault (ap (λ fs. fault_of_line (owner_of c.args.self.now) (take c.args.line c.args.lines.now) (record { word = Report c.args.word; fields = fs })) (sym c.fields-fields.ensures) ∙ report_answer c.args.lines.now c.args.line c.args.self.now c.args.word c.fields-fields.result.now next c.requires.knows c.requires.goes_on true true false true (sym c.is_in_place.ensures ∙ c.if-not-is_in_place.false) (subst (λ it. may_use (may_report c.args.line) (by_report c.args.word c.args.line it) (note_at c.args.self.now.notes) (numbered (Report c.args.word) c.fields-fields.result.now) ≡ true) c.chosen_by-completed.ensures c.in_ok-note_report.ensures.ok) (knows_all (is_known c.args.self.now.comms) c.args.word c.fields-fields.result.now c.requires.brings_none) (report_group_is c.args.lines.now c.args.line c.args.self.now c.args.word c.fields-fields.result.now next c.requires.knows c.requires.goes_on (record c.args.self.now { notes = c.note_report.new.notes }) refl refl refl refl (sym c.is_in_place.ensures ∙ c.if-not-is_in_place.false) (subst (λ it. may_use (may_report c.args.line) (by_report c.args.word c.args.line it) (note_at c.args.self.now.notes) (numbered (Report c.args.word) c.fields-fields.result.now) ≡ true) c.chosen_by-completed.ensures c.in_ok-note_report.ensures.ok) (subst (λ it. (number : ℕ) → note_at c.note_report.new.notes number ≡ noted (by_report c.args.word c.args.line it) number (note_at c.args.self.now.notes number) (numbered (Report c.args.word) c.fields-fields.result.now)) c.chosen_by-completed.ensures c.in_ok-note_report.ensures.notes) ∙ right_without_comm (record c.args.self.now { notes = c.note_report.new.notes }) c.args.lines.now c.args.word c.fields-fields.result.now c.requires.brings_none))

pub returns-clause-knows : goal.returns-clause-knows
returns-clause-knows c =
    let next : IsNext (ranks_in c.args.self.now.marks) c.args.lines.now c.args.line (record { word = Report c.args.word; fields = c.fields-fields.result.now }) = subst (λ fs. IsNext (ranks_in c.args.self.now.marks) c.args.lines.now c.args.line (record { word = Report c.args.word; fields = fs })) (sym c.fields-fields.ensures) c.requires.next in
    on_ok_weaker c.note_last.result
    (λ notes. report_done c.args.lines.now c.args.line c.args.self.now c.args.word c.fields-fields.result.now next c.requires.knows c.requires.goes_on c.note_report.new.notes (record c.args.self.now { notes = c.note_report.new.notes }) c.note_last.new.self c.args.self.now.comms (sym c.is_in_place.ensures ∙ c.if-not-is_in_place.false) (subst (λ it. may_use (may_report c.args.line) (by_report c.args.word c.args.line it) (note_at c.args.self.now.notes) (numbered (Report c.args.word) c.fields-fields.result.now) ≡ true) c.chosen_by-completed.ensures c.in_ok-note_report.ensures.ok) (knows_all (is_known c.args.self.now.comms) c.args.word c.fields-fields.result.now c.requires.brings_none) (subst (λ it. (number : ℕ) → note_at c.note_report.new.notes number ≡ noted (by_report c.args.word c.args.line it) number (note_at c.args.self.now.notes number) (numbered (Report c.args.word) c.fields-fields.result.now)) c.chosen_by-completed.ensures c.in_ok-note_report.ensures.notes) refl refl (comms_without c.args.word c.fields-fields.result.now c.args.line c.args.self.now.comms c.requires.brings_none) c.note_last.ensures.last notes c.note_last.ensures.same)
    c.note_last.ensures.notes
