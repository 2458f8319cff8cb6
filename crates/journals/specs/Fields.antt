-- What a field says, by its form.
use Rattle.std.specs.Prelude.{ℕ, ◌-◌, nat_le, Option, Some, None, option_map, option_and_then, if◌then◌else◌, List, codes}
use Rattle.std.specs.Str.{bytes_eq}
use Rattle.mpicall.specs.Number.{number_up_to, signed_of}
use Rattle.journals.specs.declared.limits.TheConstants.{GREATEST}
use Rattle.journals.specs.declared.form.Form.{Form}
use Rattle.journals.specs.declared.form.Form.TheVariants.{NewRequest, NewMessage, Request, Message, Comm, NewComm, Member, Peer, Source, Tag, SourceTag, Root, Colour, Key, Bytes}
use Rattle.journals.specs.declared.field.Field.{Field}
use Rattle.journals.specs.declared.field.Field.TheVariants.{Natural, Signed, Null, Any, Undefined}

abbrev pub at_least_one : ℕ → Option ℕ
at_least_one n = if nat_le 1 n then Some n else None

-- a canonical number, 0 or 1 to 2147483647
abbrev pub natural_of : List ℕ → Option ℕ
natural_of text = number_up_to GREATEST text

abbrev pub positive_of : List ℕ → Option ℕ
positive_of text = option_and_then at_least_one (natural_of text)

-- a canonical signed number of 32 bits
abbrev pub signed_field : List ℕ → Option Field
signed_field text = option_map Signed (signed_of text)

-- the field of a name, if the text is that name; else another field
abbrev pub or_named : List ℕ → Field → List ℕ → Option Field → Option Field
or_named name field text other = if bytes_eq text name then Some field else other

abbrev pub peer_field : List ℕ → Option Field
peer_field text = or_named (codes "null") Null text (signed_field text)

abbrev pub or_any : List ℕ → Option Field → Option Field
or_any text other = or_named (codes "any") Any text other

-- the field of a form that a text spells, in a run of so many ranks; None if it isn't in form or range
abbrev pub field_of : ℕ → Form → List ℕ → Option Field
field_of ranks NewRequest text = option_map Natural (positive_of text)
field_of ranks NewMessage text = option_map Natural (positive_of text)
field_of ranks Request text = option_map Natural (positive_of text)
field_of ranks Message text = option_map Natural (positive_of text)
field_of ranks Comm text = option_map Natural (natural_of text)
field_of ranks NewComm text = option_map Natural (natural_of text)
field_of ranks Member text = option_map Natural (number_up_to (ranks - 1) text)
field_of ranks Peer text = peer_field text
field_of ranks Source text = or_any text (peer_field text)
field_of ranks Tag text = signed_field text
field_of ranks SourceTag text = or_any text (signed_field text)
field_of ranks Root text = signed_field text
field_of ranks Colour text = or_named (codes "undefined") Undefined text (signed_field text)
field_of ranks Key text = signed_field text
field_of ranks Bytes text = option_map Natural (natural_of text)
