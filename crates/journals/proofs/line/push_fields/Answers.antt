-- Each field is read by its form, and put after those before it.
use Rattle.std.proofs.Common.{◌≡◌, ◌∙◌, sym, ap, arith, length, Some, slice_get}
use Rattle.std.proofs.lemmas.Result.{err_from_is_err_and}
use Rattle.journals.specs.Words.{forms_of}
use Rattle.journals.proofs.PushLemmas.{none_pushed, step_none, step_some, some_text, no_text}
use Rattle.journals.proofs.line.push_fields.Goals as goal

pub loop-place-init : goal.loop-place-init
loop-place-init c = record { so = none_pushed _ _; left = omega arith }

pub returns-in_default-next_field : goal.returns-in_default-next_field
returns-in_default-next_field c =
    let over = no_text c.next_field.result c.loop-place.fields c.next_field.new.self c.in_default-next_field.is c.next_field.ensures in
    absurd (omega (arith, ap length over))

pub returns-in_default-read_field : goal.returns-in_default-read_field
returns-in_default-read_field c =
    let here = c.form_at.ensures c.args.count c.requires.fits (omega arith) in
    let form : slice_get (forms_of c.args.word c.args.count) c.loop-place.place ≡ Some c.in-Some.form = sym here ∙ c.in-Some.is in
    let first = some_text c.next_field.result c.in-Some-next_field.text c.loop-place.fields c.next_field.new.self c.in-Some-next_field.is c.next_field.ensures in
    step_none _ _ c.loop-place.place c.in-Some.form c.in-Some-next_field.text.now c.loop-place.fields c.next_field.new.self c.read_field.result _ _ _ form first c.read_field.ensures c.in_default-read_field.is c.loop-place.invariant.so

pub loop-place-preserved : goal.loop-place-preserved
loop-place-preserved c =
    let here = c.form_at.ensures c.args.count c.requires.fits (omega arith) in
    let form : slice_get (forms_of c.args.word c.args.count) c.loop-place.place ≡ Some c.in-Some.form = sym here ∙ c.in-Some.is in
    let first = some_text c.next_field.result c.in-Some-next_field.text c.loop-place.fields c.next_field.new.self c.in-Some-next_field.is c.next_field.ensures in
    record {
      so = step_some _ _ c.loop-place.place c.in-Some.form c.in-Some-next_field.text.now c.loop-place.fields c.next_field.new.self c.read_field.result c.in-Some-read_field.field _ _ _ _ form first c.read_field.ensures c.in-Some-read_field.is c.in_ok-push.ensures.items c.loop-place.invariant.so;
      left = omega (arith, ap length first);
    }

pub returns-in_err-push : goal.returns-in_err-push
returns-in_err-push c =
    let p = err_from_is_err_and c.from_residual.result c.from_residual.ensures.1 in
    rw (p.1, p.2) (c.loop-place.invariant.so.0, c.in_err-push.ensures.items ∙ c.loop-place.invariant.so.1)
