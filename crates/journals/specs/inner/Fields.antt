-- The field of a form that a canonical number without a sign is, as the code reads it; nobody has to believe this.
use Rattle.std.specs.Prelude.{ℕ, ◌-◌, nat_le, pos, Option, Some, None, option_map, if◌then◌else◌}
use Rattle.journals.specs.Fields.{at_least_one}
use Rattle.journals.specs.declared.form.Form.{Form}
use Rattle.journals.specs.declared.form.Form.TheVariants.{NewRequest, NewMessage, Request, Message, Comm, NewComm, Member, Bytes}
use Rattle.journals.specs.declared.field.Field.{Field}
use Rattle.journals.specs.declared.field.Field.TheVariants.{Natural, Signed}

abbrev pub number_field : ℕ → Form → ℕ → Option Field
number_field ranks NewRequest n = option_map Natural (at_least_one n)
number_field ranks NewMessage n = option_map Natural (at_least_one n)
number_field ranks Request n = option_map Natural (at_least_one n)
number_field ranks Message n = option_map Natural (at_least_one n)
number_field ranks Comm n = Some (Natural n)
number_field ranks NewComm n = Some (Natural n)
number_field ranks Member n = if nat_le n (ranks - 1) then Some (Natural n) else None
number_field ranks Bytes n = Some (Natural n)
number_field ranks form n = Some (Signed (pos n))
