-- The lines of a journal as they are held: the fields of each are a part of one list.
use Rattle.std.specs.Prelude.{◌≡◌, ◌+◌, ◌≤◌, Result, Ok, Err, List, [], ◌∷◌, ◌++◌, length, map, take, drop}
use Rattle.std.specs.List.{All}
use Rattle.journals.specs.Lines.{Line}
use Rattle.journals.specs.declared.field.Field.{Field}
use Rattle.journals.specs.declared.line.LineFault.{LineFault}
use Rattle.journals.specs.declared.line.LineFault.TheVariants.{Memory}
use Rattle.journals.specs.declared.lines.PackedLine.{PackedLine}
use Rattle.journals.specs.declared.lines.Taken.{Taken}

abbrev pub fields_in : List Field → PackedLine → List Field
fields_in fields packed = take packed.count (drop packed.start fields)

abbrev pub line_in : List Field → PackedLine → Line
line_in fields packed = record { word = packed.word; fields = fields_in fields packed }

abbrev pub lines_in : List Field → List PackedLine → List Line
lines_in fields packed = map (line_in fields) packed

-- each line has its fields
abbrev pub HasFields : List Field → List PackedLine → Type 0
HasFields fields packed = All (λ line. line.start + line.count ≤ length fields) packed

-- a line was put after the others, and its place was answered; without memory they stay
abbrev pub PutsLine : PackedLine → List PackedLine → List PackedLine → Result Taken LineFault → Type 0
PutsLine packed old new (Ok taken) = (new ≡ old ++ packed ∷ []) × (taken.line ≡ length old) × (taken.word ≡ packed.word)
PutsLine packed old new (Err fault) = (new ≡ old) × (fault ≡ Memory)
