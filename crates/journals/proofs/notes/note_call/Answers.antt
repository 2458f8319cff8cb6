-- No number is left to be noted.
use Rattle.std.proofs.Common.{◌≡◌, ◌+◌, ◌∙◌, ap, sym, length, arith}
use Rattle.journals.specs.inner.Numbered.{numbered_from}
use Rattle.journals.specs.inner.Notes.{note_at, may_use, noted, may_call, by_call}
use Rattle.journals.specs.declared.word.Word.TheVariants.{Call}
use Rattle.journals.specs.inner.Places.{looked_at, requests_first}
use Rattle.journals.proofs.NoteSteps.{used, skipped}
use Rattle.journals.proofs.PlaceLemmas.{may_late, noted_late}
use Rattle.journals.proofs.notes.note_call.Goals as goal
use Rattle.journals.proofs.notes.note_call.Goals.{in-Some+then-is_of_request+in_ok-use_in_call, in-Some+else-is_of_request, in_default}

pub returns-clause-ok : goal.returns-clause-ok
returns-clause-ok c =
    let at_end : c.loop-place.place ≡ looked_at (requests_first (Call c.args.call.word)) (length c.args.call.fields.now) = omega arith in
    sym c.loop-place.invariant.uses ∙ may_late (may_call c.args.call.line) (by_call c.args.call.word c.args.call.fields.now c.args.call.line) (note_at c.loop-place.notes) (Call c.args.call.word) c.args.call.fields.now c.loop-place.place at_end

pub returns-clause-notes : goal.returns-clause-notes
returns-clause-notes c = λ other.
    let at_end : c.loop-place.place ≡ looked_at (requests_first (Call c.args.call.word)) (length c.args.call.fields.now) = omega arith in
    sym (noted_late (may_call c.args.call.line) (by_call c.args.call.word c.args.call.fields.now c.args.call.line) other (note_at c.loop-place.notes other) (Call c.args.call.word) c.args.call.fields.now c.loop-place.place at_end) ∙ c.loop-place.invariant.notes other

pub loop-place-preserved : goal.loop-place-preserved
loop-place-preserved c =
    elim c.match-number_at.branch [
      | in-Some+then-is_of_request+in_ok-use_in_call w ↦ (
          let step = used (may_call c.args.call.line) (by_call c.args.call.word c.args.call.fields.now c.args.call.line) (note_at c.loop-place.notes) (note_at w.use_in_call.new.notes) w.in-Some.form w.in-Some.number (numbered_from (Call c.args.call.word) c.args.call.fields.now c.loop-place.place) (numbered_from (Call c.args.call.word) c.args.call.fields.now (c.loop-place.place + 1)) w.in-Some.ensures (sym w.is_of_request.ensures ∙ w.if-is_of_request.true) w.in_ok-use_in_call.ensures.ok w.in_ok-use_in_call.ensures.notes in
          rw w.notes-is (record { uses = sym step.0 ∙ c.loop-place.invariant.uses; notes = λ other. sym (step.1 other) ∙ c.loop-place.invariant.notes other }))
      | in-Some+else-is_of_request w ↦ (
          let step = skipped (may_call c.args.call.line) (by_call c.args.call.word c.args.call.fields.now c.args.call.line) (note_at c.loop-place.notes) w.in-Some.form w.in-Some.number (numbered_from (Call c.args.call.word) c.args.call.fields.now c.loop-place.place) (numbered_from (Call c.args.call.word) c.args.call.fields.now (c.loop-place.place + 1)) w.in-Some.ensures (sym w.is_of_request.ensures ∙ w.if-is_of_request.false) in
          rw w.notes-is (record { uses = sym step.0 ∙ c.loop-place.invariant.uses; notes = λ other. sym (step.1 other) ∙ c.loop-place.invariant.notes other }))
      | in_default w ↦ rw w.notes-is (record {
        uses = sym (ap (may_use (may_call c.args.call.line) (by_call c.args.call.word c.args.call.fields.now c.args.call.line) (note_at c.loop-place.notes)) w.in_default.ensures) ∙ c.loop-place.invariant.uses;
        notes = λ other. sym (ap (noted (by_call c.args.call.word c.args.call.fields.now c.args.call.line) other (note_at c.loop-place.notes other)) w.in_default.ensures) ∙ c.loop-place.invariant.notes other;
      })
    ]
