-- What the reading of a line leaves.
use Rattle.std.specs.Prelude.{◌≡◌, ℕ, Bool, true, false, Option, Some, None, option_map, Result, Ok, Err, List, [], ◌∷◌, ◌++◌, length, drop, ⊤}
use Rattle.mpicall.specs.Lines.{split_fields}
use Rattle.journals.specs.Words.{word_of}
use Rattle.journals.specs.Lines.{Line, site_fits, without_site, line_with}
use Rattle.journals.specs.declared.fault.JournalFaultKind.{JournalFaultKind}
use Rattle.journals.specs.declared.fault.JournalFaultKind.TheVariants.{FieldForm}
use Rattle.journals.specs.declared.field.Field.{Field}
use Rattle.journals.specs.declared.line.LineFault.{LineFault}
use Rattle.journals.specs.declared.line.LineFault.TheVariants.{Journal, Memory}
use Rattle.journals.specs.declared.lines.Taken.{Taken}
use Rattle.journals.specs.declared.word.Word.{Word}
use Rattle.journals.specs.declared.word.Word.TheVariants.{Call}
use Rattle.journals.specs.declared.word.CallWord.TheVariants as call

-- the fields after a line's word
abbrev pub fields_after_word : List ℕ → List (List ℕ)
fields_after_word line = drop 1 (split_fields line)

abbrev pub is_stopped : Word → Bool
is_stopped (Call call.Stopped) = true
is_stopped _ = false

-- the first text spells a word, and these are the texts after it
pub record HasWord (word : Word) (old new : List (List ℕ)) : Type 0 where
  pub text : List ℕ
  pub first : old ≡ text ∷ new
  pub spells : word_of text ≡ Some word

-- there is no first text, or it spells no word
abbrev pub HasNoWord : List (List ℕ) → Type 0
HasNoWord [] = ⊤
HasNoWord (text ∷ rest) = word_of text ≡ None

-- the line of a word other than `stopped` and the fields after it
abbrev pub line_after_word : ℕ → Word → List (List ℕ) → Result Line JournalFaultKind
line_after_word ranks word fields = line_with ranks word (site_fits word fields) (without_site word fields)

-- a list grew at its end, or stayed
abbrev pub Grows : List Field → List Field → Type 0
Grows old new = (more : List Field) × (new ≡ old ++ more)

-- the fields of a line were put at the end of a list; a line with a fault, or without memory, may leave some
-- there
abbrev pub PutsFields : Option (List Field) → List Field → List Field → Result (Unit {0}) LineFault → Type 0
PutsFields said old new (Ok done) = (fields : List Field) × (said ≡ Some fields) × (new ≡ old ++ fields)
PutsFields said old new (Err (Journal kind)) = (said ≡ None) × (kind ≡ FieldForm) × Grows old new
PutsFields said old new (Err Memory) = Grows old new

-- some of the fields were put at the end, and these are still to come
abbrev pub PutsSoFar : Option (List Field) → Option (List Field) → List Field → List Field → Type 0
PutsSoFar all rest old new =
    (pushed : List Field) × (new ≡ old ++ pushed) × (all ≡ option_map (λ fields. pushed ++ fields) rest)

-- the same of a whole line, whose word is answered
abbrev pub ReadsLine : Result Line JournalFaultKind → List Field → List Field → Result Word LineFault → Type 0
ReadsLine said old new (Ok word) =
    (fields : List Field) × (said ≡ Ok (record { word = word; fields = fields })) × (new ≡ old ++ fields)
ReadsLine said old new (Err (Journal kind)) = (said ≡ Err kind) × Grows old new
ReadsLine said old new (Err Memory) = Grows old new

-- all fields after a word were put at the end of a list, or any
abbrev pub PutsAll : ℕ → Word → List (List ℕ) → List Field → List Field → Result Bool LineFault → Type 0
PutsAll ranks word fields old new (Ok true) = ReadsLine (line_after_word ranks word fields) old new (Ok word)
PutsAll ranks word fields old new (Ok false) = Grows old new
PutsAll ranks word fields old new (Err (Journal kind)) = ⊥
PutsAll ranks word fields old new (Err Memory) = Grows old new

-- a line was put after others
pub record Takes (said : Result Line JournalFaultKind) (old new : List Line) (taken : Taken) : Type 0 where
  pub line : Line
  pub says : said ≡ Ok line
  pub lines : new ≡ old ++ line ∷ []
  pub place : taken.line ≡ length old
  pub word : taken.word ≡ line.word

-- the line that a text says was put after the others; one with a fault, or without memory, changed nothing
abbrev pub TakesLine : Result Line JournalFaultKind → List Line → List Line → Result Taken LineFault → Type 0
TakesLine said old new (Ok taken) = Takes said old new taken
TakesLine said old new (Err (Journal kind)) = (said ≡ Err kind) × (new ≡ old)
TakesLine said old new (Err Memory) = new ≡ old
