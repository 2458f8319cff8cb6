-- The number at a place, and those after it.
use Rattle.std.proofs.Common.{◌+◌, ◌∙◌, ap, sym, Option, ℕ}
use Rattle.std.specs.List.{cons_option}
use Rattle.journals.specs.inner.Numbered.{number_of, numbered_from}
use Rattle.journals.specs.declared.form.Form.{Form}
use Rattle.journals.proofs.NoteSteps.{number_there}
use Rattle.journals.proofs.notes.number_at.Goals as goal

pub returns : goal.returns
returns c =
    number_there c.args.word c.args.fields.now c.args.place c.form_at.result _ c.requires.fits c.requires.within (c.form_at.ensures _ c.requires.fits c.requires.within)
    ∙ ap (λ (it : Option (Form × ℕ)). cons_option it (numbered_from c.args.word c.args.fields.now (c.args.place + 1)))
    (ap (number_of c.form_at.result) (sym c.index-fields-place.is) ∙ sym c.number_of.ensures)
