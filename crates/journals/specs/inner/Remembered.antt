-- Lines that are remembered, each with where its fields are held.
use Rattle.std.specs.Prelude.{ℕ, ◌≡◌, ◌+◌, ◌≤◌, Ok, Option, List, length, take, IfSome}
use Rattle.std.specs.List.{All}
use Rattle.journals.specs.Lines.{line_of}
use Rattle.journals.specs.inner.Packing.{line_in}
use Rattle.journals.specs.declared.field.Field.{Field}
use Rattle.journals.specs.declared.lines.PackedLine.{PackedLine}
use Rattle.journals.specs.declared.remembered.KnownLine.{KnownLine}

-- the line that a text spells, in a run of so many ranks, is held there
pub record IsHeldLine (fields : List Field) (ranks : ℕ) (text : List ℕ) (packed : PackedLine) : Type 0 where
  pub within : packed.start + packed.count ≤ length fields
  pub says : line_of ranks text ≡ Ok (line_in fields packed)

abbrev pub IsHeldKnown : List Field → KnownLine → Type 0
IsHeldKnown fields known = IsHeldLine fields known.ranks (take known.len known.bytes) known.packed

-- each line that is remembered is held
abbrev pub AreHeld : List Field → List (Option KnownLine) → Type 0
AreHeld fields known = All (λ it. IfSome it (IsHeldKnown fields)) known
