-- The first fault of a report, and what is held after it.
use Rattle.std.proofs.Common.{◌≡◌, ℕ, ◌∙◌, ap, sym, subst, refl, true, false, take, Err}
use Rattle.std.proofs.lemmas.Result.{on_ok_weaker, err_from_is_err_and}
use Rattle.journals.specs.Faults.{fault_of_line}
use Rattle.journals.specs.inner.Marks.{ranks_in}
use Rattle.journals.specs.inner.Knows.{IsNext, Answers, owner_of}
use Rattle.journals.specs.inner.Numbered.{numbered}
use Rattle.journals.specs.declared.word.Word.TheVariants.{Report}
use Rattle.journals.specs.inner.Notes.{note_at, noted, may_use, may_report, by_report, IsFault}
use Rattle.journals.specs.declared.fault.JournalFaultKind.TheVariants as fault
use Rattle.journals.proofs.GroupFields.{report_members}
use Rattle.journals.proofs.Assembly.{report_answer, report_group_is, report_refused, report_done, named_natural, answer_last, flip_true, flip_false}
use Rattle.journals.proofs.known.Known.admit_report.Goals as goal

pub returns-then-not-is_in_place-clause-answer : goal.returns-then-not-is_in_place-clause-answer
returns-then-not-is_in_place-clause-answer c =
    let next : IsNext (ranks_in c.args.self.now.marks) c.args.lines.now c.args.line (record { word = Report c.args.word; fields = c.fields-fields.result.now }) = subst (λ fs. IsNext (ranks_in c.args.self.now.marks) c.args.lines.now c.args.line (record { word = Report c.args.word; fields = fs })) (sym c.fields-fields.ensures) c.requires.next in
    ap (λ fs. fault_of_line (owner_of c.args.self.now) (take c.args.line c.args.lines.now) (record { word = Report c.args.word; fields = fs })) (sym c.fields-fields.ensures) ∙ report_answer c.args.lines.now c.args.line c.args.self.now c.args.word c.fields-fields.result.now next c.requires.knows c.requires.goes_on false _ _ _ (sym c.is_in_place.ensures ∙ c.if-not-is_in_place.true) refl refl refl

pub returns-in_err-note_report-clause-answer : goal.returns-in_err-note_report-clause-answer
returns-in_err-note_report-clause-answer c =
    let p = err_from_is_err_and c.from_residual.result c.from_residual.ensures.1 in
    let next : IsNext (ranks_in c.args.self.now.marks) c.args.lines.now c.args.line (record { word = Report c.args.word; fields = c.fields-fields.result.now }) = subst (λ fs. IsNext (ranks_in c.args.self.now.marks) c.args.lines.now c.args.line (record { word = Report c.args.word; fields = fs })) (sym c.fields-fields.ensures) c.requires.next in
    let wrong : IsFault fault.Request _ c.in_err-note_report.field-0.0 = subst (λ it. IsFault fault.Request (may_use (may_report c.args.line) (by_report c.args.word c.args.line it) (note_at c.args.self.now.notes) (numbered (Report c.args.word) c.fields-fields.result.now) ≡ false) c.in_err-note_report.field-0.0) c.chosen_by-completed.ensures c.in_err-note_report.ensures.fault in
    let refused : Answers (owner_of c.args.self.now) (take c.args.line c.args.lines.now) (record { word = Report c.args.word; fields = c.fields-fields.result.now }) (Err c.in_err-note_report.field-0.0) = report_refused c.args.lines.now c.args.line c.args.self.now c.args.word c.fields-fields.result.now next c.requires.knows c.requires.goes_on c.in_err-note_report.field-0.0 (sym c.is_in_place.ensures ∙ c.if-not-is_in_place.false) wrong in
    rw (p.1, p.2) (subst (λ fs. Answers (owner_of c.args.self.now) (take c.args.line c.args.lines.now) (record { word = Report c.args.word; fields = fs }) (Err c.in_err-note_report.field-0.0)) c.fields-fields.ensures refused)

pub returns-then-not-knows_comms-clause-answer : goal.returns-then-not-knows_comms-clause-answer
returns-then-not-knows_comms-clause-answer c =
    let next : IsNext (ranks_in c.args.self.now.marks) c.args.lines.now c.args.line (record { word = Report c.args.word; fields = c.fields-fields.result.now }) = subst (λ fs. IsNext (ranks_in c.args.self.now.marks) c.args.lines.now c.args.line (record { word = Report c.args.word; fields = fs })) (sym c.fields-fields.ensures) c.requires.next in
    ap (λ fs. fault_of_line (owner_of c.args.self.now) (take c.args.line c.args.lines.now) (record { word = Report c.args.word; fields = fs })) (sym c.fields-fields.ensures) ∙ report_answer c.args.lines.now c.args.line c.args.self.now c.args.word c.fields-fields.result.now next c.requires.knows c.requires.goes_on true true true _ (sym c.is_in_place.ensures ∙ c.if-not-is_in_place.false) (subst (λ it. may_use (may_report c.args.line) (by_report c.args.word c.args.line it) (note_at c.args.self.now.notes) (numbered (Report c.args.word) c.fields-fields.result.now) ≡ true) c.chosen_by-completed.ensures c.in_ok-note_report.ensures.ok) (flip_true c.knows_comms.result _ c.knows_comms.ensures c.if-not-knows_comms.true) refl

pub is_right_report-requires-clause-group : goal.is_right_report-requires-clause-group
is_right_report-requires-clause-group c =
    let next : IsNext (ranks_in c.args.self.now.marks) c.args.lines.now c.args.line (record { word = Report c.args.word; fields = c.fields-fields.result.now }) = subst (λ fs. IsNext (ranks_in c.args.self.now.marks) c.args.lines.now c.args.line (record { word = Report c.args.word; fields = fs })) (sym c.fields-fields.ensures) c.requires.next in
    report_members (ranks_in c.args.self.now.marks) c.args.word c.fields-fields.result.now c.requires.some next.read

pub is_right_report-requires-clause-named : goal.is_right_report-requires-clause-named
is_right_report-requires-clause-named c = named_natural (ranks_in c.args.self.now.marks) c.args.lines.now c.args.line _ c.args.self.now.last c.requires.some c.requires.next c.requires.knows.last

pub returns-then-not-is_right_report-clause-answer : goal.returns-then-not-is_right_report-clause-answer
returns-then-not-is_right_report-clause-answer c =
    let next : IsNext (ranks_in c.args.self.now.marks) c.args.lines.now c.args.line (record { word = Report c.args.word; fields = c.fields-fields.result.now }) = subst (λ fs. IsNext (ranks_in c.args.self.now.marks) c.args.lines.now c.args.line (record { word = Report c.args.word; fields = fs })) (sym c.fields-fields.ensures) c.requires.next in
    ap (λ fs. fault_of_line (owner_of c.args.self.now) (take c.args.line c.args.lines.now) (record { word = Report c.args.word; fields = fs })) (sym c.fields-fields.ensures) ∙ report_answer c.args.lines.now c.args.line c.args.self.now c.args.word c.fields-fields.result.now next c.requires.knows c.requires.goes_on true true false false (sym c.is_in_place.ensures ∙ c.if-not-is_in_place.false) (subst (λ it. may_use (may_report c.args.line) (by_report c.args.word c.args.line it) (note_at c.args.self.now.notes) (numbered (Report c.args.word) c.fields-fields.result.now) ≡ true) c.chosen_by-completed.ensures c.in_ok-note_report.ensures.ok) (flip_false c.knows_comms.result _ c.knows_comms.ensures c.if-not-knows_comms.false) (report_group_is c.args.lines.now c.args.line c.args.self.now c.args.word c.fields-fields.result.now next c.requires.knows c.requires.goes_on (record c.args.self.now { notes = c.note_report.new.notes }) refl refl refl refl (sym c.is_in_place.ensures ∙ c.if-not-is_in_place.false) (subst (λ it. may_use (may_report c.args.line) (by_report c.args.word c.args.line it) (note_at c.args.self.now.notes) (numbered (Report c.args.word) c.fields-fields.result.now) ≡ true) c.chosen_by-completed.ensures c.in_ok-note_report.ensures.ok) (subst (λ it. (number : ℕ) → note_at c.note_report.new.notes number ≡ noted (by_report c.args.word c.args.line it) number (note_at c.args.self.now.notes number) (numbered (Report c.args.word) c.fields-fields.result.now)) c.chosen_by-completed.ensures c.in_ok-note_report.ensures.notes) ∙ sym c.is_right_report.ensures.value ∙ c.if-not-is_right_report.true)

pub returns-clause-answer : goal.returns-clause-answer
returns-clause-answer c =
    let next : IsNext (ranks_in c.args.self.now.marks) c.args.lines.now c.args.line (record { word = Report c.args.word; fields = c.fields-fields.result.now }) = subst (λ fs. IsNext (ranks_in c.args.self.now.marks) c.args.lines.now c.args.line (record { word = Report c.args.word; fields = fs })) (sym c.fields-fields.ensures) c.requires.next in
    answer_last (owner_of c.args.self.now) (take c.args.line c.args.lines.now) _ c.note_last.result c.note_last.ensures.fault (ap (λ fs. fault_of_line (owner_of c.args.self.now) (take c.args.line c.args.lines.now) (record { word = Report c.args.word; fields = fs })) (sym c.fields-fields.ensures) ∙ report_answer c.args.lines.now c.args.line c.args.self.now c.args.word c.fields-fields.result.now next c.requires.knows c.requires.goes_on true true false true (sym c.is_in_place.ensures ∙ c.if-not-is_in_place.false) (subst (λ it. may_use (may_report c.args.line) (by_report c.args.word c.args.line it) (note_at c.args.self.now.notes) (numbered (Report c.args.word) c.fields-fields.result.now) ≡ true) c.chosen_by-completed.ensures c.in_ok-note_report.ensures.ok) (flip_false c.knows_comms.result _ c.knows_comms.ensures c.if-not-knows_comms.false) (report_group_is c.args.lines.now c.args.line c.args.self.now c.args.word c.fields-fields.result.now next c.requires.knows c.requires.goes_on (record c.args.self.now { notes = c.note_report.new.notes }) refl refl refl refl (sym c.is_in_place.ensures ∙ c.if-not-is_in_place.false) (subst (λ it. may_use (may_report c.args.line) (by_report c.args.word c.args.line it) (note_at c.args.self.now.notes) (numbered (Report c.args.word) c.fields-fields.result.now) ≡ true) c.chosen_by-completed.ensures c.in_ok-note_report.ensures.ok) (subst (λ it. (number : ℕ) → note_at c.note_report.new.notes number ≡ noted (by_report c.args.word c.args.line it) number (note_at c.args.self.now.notes number) (numbered (Report c.args.word) c.fields-fields.result.now)) c.chosen_by-completed.ensures c.in_ok-note_report.ensures.notes) ∙ sym c.is_right_report.ensures.value ∙ c.if-not-is_right_report.false))

pub returns-clause-knows : goal.returns-clause-knows
returns-clause-knows c =
    let next : IsNext (ranks_in c.args.self.now.marks) c.args.lines.now c.args.line (record { word = Report c.args.word; fields = c.fields-fields.result.now }) = subst (λ fs. IsNext (ranks_in c.args.self.now.marks) c.args.lines.now c.args.line (record { word = Report c.args.word; fields = fs })) (sym c.fields-fields.ensures) c.requires.next in
    on_ok_weaker c.note_last.result
    (λ notes. report_done c.args.lines.now c.args.line c.args.self.now c.args.word c.fields-fields.result.now next c.requires.knows c.requires.goes_on c.note_report.new.notes c.is_right_report.new.self c.note_last.new.self c.bring_comm.new.comms (sym c.is_in_place.ensures ∙ c.if-not-is_in_place.false) (subst (λ it. may_use (may_report c.args.line) (by_report c.args.word c.args.line it) (note_at c.args.self.now.notes) (numbered (Report c.args.word) c.fields-fields.result.now) ≡ true) c.chosen_by-completed.ensures c.in_ok-note_report.ensures.ok) (flip_false c.knows_comms.result _ c.knows_comms.ensures c.if-not-knows_comms.false) (subst (λ it. (number : ℕ) → note_at c.note_report.new.notes number ≡ noted (by_report c.args.word c.args.line it) number (note_at c.args.self.now.notes number) (numbered (Report c.args.word) c.fields-fields.result.now)) c.chosen_by-completed.ensures c.in_ok-note_report.ensures.notes) c.is_right_report.ensures.same c.is_right_report.ensures.ranks c.in_ok-bring_comm.ensures.comms c.note_last.ensures.last notes c.note_last.ensures.same)
    c.note_last.ensures.notes
