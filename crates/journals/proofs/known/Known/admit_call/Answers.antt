-- The first fault of a call line, and what is held after it.
use Rattle.std.proofs.Common.{◌∙◌, ap, sym, subst, refl, true, false, take, Some, Err}
use Rattle.std.proofs.lemmas.Result.{err_from_is_err_and}
use Rattle.journals.specs.Faults.{fault_of_line}
use Rattle.journals.specs.inner.Marks.{ranks_in}
use Rattle.journals.specs.inner.Knows.{IsRead, IsNext, Answers, owner_of}
use Rattle.journals.specs.declared.last.LastCall.{LastCall}
use Rattle.journals.specs.declared.word.Word.TheVariants.{Call}
use Rattle.journals.proofs.GroupFields.{call_members}
use Rattle.journals.proofs.Assembly.{call_answer, call_held, call_refused, flip_true, flip_false}
use Rattle.journals.proofs.known.Known.admit_call.Goals as goal

pub returns-in_err-note_call-clause-answer : goal.returns-in_err-note_call-clause-answer
returns-in_err-note_call-clause-answer c =
    let p = err_from_is_err_and c.from_residual.result c.from_residual.ensures.1 in
    let next : IsNext (ranks_in c.args.self.now.marks) c.args.lines.now c.args.line (record { word = Call c.args.word; fields = c.fields-fields.result.now }) = subst (λ fs. IsNext (ranks_in c.args.self.now.marks) c.args.lines.now c.args.line (record { word = Call c.args.word; fields = fs })) (sym c.fields-fields.ensures) c.requires.next in
    let refused : Answers (owner_of c.args.self.now) (take c.args.line c.args.lines.now) (record { word = Call c.args.word; fields = c.fields-fields.result.now }) (Err c.in_err-note_call.field-0.0) = call_refused c.args.lines.now c.args.line c.args.self.now c.args.word c.fields-fields.result.now next c.requires.knows c.requires.goes_on c.in_err-note_call.field-0.0 c.in_err-note_call.ensures.fault in
    rw (p.1, p.2) (subst (λ fs. Answers (owner_of c.args.self.now) (take c.args.line c.args.lines.now) (record { word = Call c.args.word; fields = fs }) (Err c.in_err-note_call.field-0.0)) c.fields-fields.ensures refused)

pub returns-then-not-knows_comms-clause-answer : goal.returns-then-not-knows_comms-clause-answer
returns-then-not-knows_comms-clause-answer c =
    let next : IsNext (ranks_in c.args.self.now.marks) c.args.lines.now c.args.line (record { word = Call c.args.word; fields = c.fields-fields.result.now }) = subst (λ fs. IsNext (ranks_in c.args.self.now.marks) c.args.lines.now c.args.line (record { word = Call c.args.word; fields = fs })) (sym c.fields-fields.ensures) c.requires.next in
    ap (λ fs. fault_of_line (owner_of c.args.self.now) (take c.args.line c.args.lines.now) (record { word = Call c.args.word; fields = fs })) (sym c.fields-fields.ensures) ∙ call_answer c.args.lines.now c.args.line c.args.self.now c.args.word c.fields-fields.result.now next c.requires.knows c.requires.goes_on true true _ c.in_ok-note_call.ensures.ok (flip_true c.knows_comms.result _ c.knows_comms.ensures c.if-not-knows_comms.true) refl

pub is_right_call-requires : goal.is_right_call-requires
is_right_call-requires c = λ is.
    let next : IsNext (ranks_in c.args.self.now.marks) c.args.lines.now c.args.line (record { word = Call c.args.word; fields = c.fields-fields.result.now }) = subst (λ fs. IsNext (ranks_in c.args.self.now.marks) c.args.lines.now c.args.line (record { word = Call c.args.word; fields = fs })) (sym c.fields-fields.ensures) c.requires.next in
    call_members (ranks_in c.args.self.now.marks) c.fields-fields.result.now c.requires.some (subst (λ w. IsRead (ranks_in c.args.self.now.marks) (record { word = Call w; fields = c.fields-fields.result.now })) is next.read)

pub returns-then-not-is_right_call-clause-answer : goal.returns-then-not-is_right_call-clause-answer
returns-then-not-is_right_call-clause-answer c =
    let next : IsNext (ranks_in c.args.self.now.marks) c.args.lines.now c.args.line (record { word = Call c.args.word; fields = c.fields-fields.result.now }) = subst (λ fs. IsNext (ranks_in c.args.self.now.marks) c.args.lines.now c.args.line (record { word = Call c.args.word; fields = fs })) (sym c.fields-fields.ensures) c.requires.next in
    ap (λ fs. fault_of_line (owner_of c.args.self.now) (take c.args.line c.args.lines.now) (record { word = Call c.args.word; fields = fs })) (sym c.fields-fields.ensures) ∙ call_answer c.args.lines.now c.args.line c.args.self.now c.args.word c.fields-fields.result.now next c.requires.knows c.requires.goes_on true false false c.in_ok-note_call.ensures.ok (flip_false c.knows_comms.result _ c.knows_comms.ensures c.if-not-knows_comms.false) (sym c.is_right_call.ensures.value ∙ c.if-not-is_right_call.true)

pub returns-clause-answer : goal.returns-clause-answer
returns-clause-answer c =
    let next : IsNext (ranks_in c.args.self.now.marks) c.args.lines.now c.args.line (record { word = Call c.args.word; fields = c.fields-fields.result.now }) = subst (λ fs. IsNext (ranks_in c.args.self.now.marks) c.args.lines.now c.args.line (record { word = Call c.args.word; fields = fs })) (sym c.fields-fields.ensures) c.requires.next in
    ap (λ fs. fault_of_line (owner_of c.args.self.now) (take c.args.line c.args.lines.now) (record { word = Call c.args.word; fields = fs })) (sym c.fields-fields.ensures) ∙ call_answer c.args.lines.now c.args.line c.args.self.now c.args.word c.fields-fields.result.now next c.requires.knows c.requires.goes_on true false true c.in_ok-note_call.ensures.ok (flip_false c.knows_comms.result _ c.knows_comms.ensures c.if-not-knows_comms.false) (sym c.is_right_call.ensures.value ∙ c.if-not-is_right_call.false)

pub returns-clause-knows : goal.returns-clause-knows
returns-clause-knows c =
    let next : IsNext (ranks_in c.args.self.now.marks) c.args.lines.now c.args.line (record { word = Call c.args.word; fields = c.fields-fields.result.now }) = subst (λ fs. IsNext (ranks_in c.args.self.now.marks) c.args.lines.now c.args.line (record { word = Call c.args.word; fields = fs })) (sym c.fields-fields.ensures) c.requires.next in
    call_held c.args.lines.now c.args.line c.args.self.now c.args.word c.fields-fields.result.now next c.requires.knows c.requires.goes_on _ c.in_ok-note_call.ensures.ok c.in_ok-note_call.ensures.notes refl c.is_right_call.ensures.ranks (ap (λ (it : LastCall). Some it) c.new.ensures) c.ends_journal-self.ensures
