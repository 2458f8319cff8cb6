-- A text, as it is read with its number; nobody has to believe this.
use Rattle.std.specs.Prelude.{ℕ, ◌≡◌, ◌≤◌, Option, Some, List, IfSome}
use Rattle.mpicall.specs.Number.{number_up_to}
use Rattle.journals.specs.declared.limits.TheConstants.{GREATEST}

-- a number that was read with a text is the one that it spells
abbrev pub IsNumber : List ℕ → Option ℕ → Type 0
IsNumber text number = IfSome number (λ n. (number_up_to GREATEST text ≡ Some n) × (n ≤ GREATEST))
