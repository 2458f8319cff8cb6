-- The text that an input still gives: its bytes up to the first zero byte, and none once that came.
use Rattle.std.specs.Prelude.{◌≡◌, ℕ, false, if◌then◌else◌, Option, Some, option_map, List, []}
use Rattle.journals.specs.Text.{text_of}
use Rattle.journals.specs.declared.text.TextInput.{TextInput}

abbrev pub input_within : {I : Type 0} → TextInput I → I
input_within text = text.input

-- no zero byte came so far
abbrev pub is_fresh : {I : Type 0} → TextInput I → Type 0
is_fresh text = text.is_over ≡ false

-- what is left, if the bytes of the input within are known
abbrev pub text_left : {I : Type 0} → (I → Option (List ℕ)) → TextInput I → Option (List ℕ)
text_left left text = if text.is_over then Some [] else option_map text_of (left text.input)
