-- The lines that are held, as their fields grow and a line is put after them.
use Rattle.std.proofs.Common.{◌≡◌, ℕ, zero, suc, ◌+◌, ◌-◌, ◌≤◌, Bool, ◌||◌, List, [], ◌∷◌, ◌++◌, length, take, drop, ap, ◌∙◌, refl, arith, length-append, Some, None, Result, Ok, Err, slice_get}
use Rattle.std.specs.List.{list_any}
use Rattle.std.proofs.lemmas.List.{take-append-le, drop-append-le, drop_at, take_all, length-drop}
use Rattle.std.proofs.lemmas.Option.{slice_get-map}
use Rattle.journals.specs.Lines.{Line}
use Rattle.journals.specs.inner.Packing.{fields_in, line_in, lines_in, HasFields}
use Rattle.journals.specs.Taking.{word_at, fields_at}
use Rattle.journals.specs.inner.Taking.{Grows, ReadsLine, TakesLine}
use Rattle.journals.specs.declared.fault.JournalFaultKind.{JournalFaultKind}
use Rattle.journals.specs.declared.field.Field.{Field}
use Rattle.journals.specs.declared.line.LineFault.{LineFault}
use Rattle.journals.specs.declared.line.LineFault.TheVariants.{Journal, Memory}
use Rattle.journals.specs.declared.lines.PackedLine.{PackedLine}
use Rattle.journals.specs.declared.word.Word.{Word}

-- ---- More fields ----

pub same_line : (fields more : List Field) (packed : PackedLine) → packed.start + packed.count ≤ length fields → fields_in (fields ++ more) packed ≡ fields_in fields packed
same_line fields more packed within =
    ap (take packed.count) (drop-append-le packed.start fields more (omega arith))
    ∙ take-append-le packed.count (drop packed.start fields) more (omega (arith, length-drop packed.start fields))

abbrev pub with_word : Word → List Field → Line
with_word word fields = record { word = word; fields = fields }

two_same : (first other : Line) (lines others : List Line) → first ≡ other → lines ≡ others → first ∷ lines ≡ other ∷ others
two_same first other lines others e f = rw (e, f) refl

same_lines : (fields more : List Field) (lines : List PackedLine) → HasFields fields lines → lines_in (fields ++ more) lines ≡ lines_in fields lines
same_lines fields more [] has = refl
same_lines fields more (packed ∷ lines) has =
    let within : packed.start + packed.count ≤ length fields = has 0 packed (omega arith) in
    let here : line_in (fields ++ more) packed ≡ line_in fields packed = ap (with_word packed.word) (same_line fields more packed within) in
    two_same (line_in (fields ++ more) packed) (line_in fields packed) _ _ here (same_lines fields more lines (λ k d below. has (suc k) d (omega arith)))

-- the lines that are held stay, as their fields grow
pub lines_stay : (old new : List Field) (lines : List PackedLine) → Grows old new → HasFields old lines → lines_in new lines ≡ lines_in old lines
lines_stay old new lines more has = rw more.1 (same_lines old more.0 lines has)

pub fields_stay : (old new : List Field) (lines : List PackedLine) → Grows old new → HasFields old lines → HasFields new lines
fields_stay old new lines more has k d below =
    let within = has k d below in
    omega (arith, ap length more.1, length-append old more.0)

pub read_grows : (said : Result Line JournalFaultKind) (old new : List Field) (answer : Result Word LineFault) → ReadsLine said old new answer → Grows old new
read_grows said old new (Ok word) reads = (reads.0, reads.2)
read_grows said old new (Err (Journal kind)) reads = reads.1
read_grows said old new (Err Memory) reads = reads

-- ---- One more line ----

pub has_one_more : (fields : List Field) (lines : List PackedLine) (packed : PackedLine) → HasFields fields lines → packed.start + packed.count ≤ length fields → HasFields fields (lines ++ packed ∷ [])
has_one_more fields [] packed has within zero d below = within
has_one_more fields [] packed has within (suc k) d below = absurd (omega arith)
has_one_more fields (first ∷ lines) packed has within zero d below = has 0 d (omega arith)
has_one_more fields (first ∷ lines) packed has within (suc k) d below =
    has_one_more fields lines packed (λ j e h. has (suc j) e (omega arith)) within k d (omega arith)

pub last_fields : (old more new : List Field) (packed : PackedLine) → new ≡ old ++ more → packed.start ≡ length old → packed.count ≡ length new - length old → fields_in new packed ≡ more
last_fields old more new packed is start count =
    let many : packed.count ≡ length more = omega (arith, ap length is, length-append old more) in
    let first : fields_in new packed ≡ take packed.count more = rw (start, is) (ap (take packed.count) (drop_at old more (length old) refl)) in
    first ∙ take_all packed.count more (omega arith)

pub none_taken : (said : Result Line JournalFaultKind) (old new : List Field) (lines : List PackedLine) (fault : LineFault) → ReadsLine said old new (Err fault) → HasFields old lines → TakesLine said (lines_in old lines) (lines_in new lines) (Err fault)
none_taken said old new lines (Journal kind) reads has = (reads.0, lines_stay old new lines reads.1 has)
none_taken said old new lines Memory reads has = lines_stay old new lines reads has

-- ---- A line at a place ----

pub word_here : (fields : List Field) (lines : List PackedLine) (place : ℕ) (packed : PackedLine) → slice_get lines place ≡ Some packed → word_at (lines_in fields lines) place ≡ Some packed.word
word_here fields lines place packed at = rw (slice_get-map (line_in fields) lines place, at) refl

pub no_word_here : (fields : List Field) (lines : List PackedLine) (place : ℕ) → slice_get lines place ≡ None → word_at (lines_in fields lines) place ≡ None
no_word_here fields lines place at = rw (slice_get-map (line_in fields) lines place, at) refl

pub fields_here : (fields : List Field) (lines : List PackedLine) (place : ℕ) (packed : PackedLine) → slice_get lines place ≡ Some packed → fields_at (lines_in fields lines) place ≡ fields_in fields packed
fields_here fields lines place packed at = rw (slice_get-map (line_in fields) lines place, at) refl

pub no_fields_here : (fields : List Field) (lines : List PackedLine) (place : ℕ) → slice_get lines place ≡ None → fields_at (lines_in fields lines) place ≡ []
no_fields_here fields lines place at = rw (slice_get-map (line_in fields) lines place, at) refl

pub within_here : (fields : List Field) (lines : List PackedLine) (place : ℕ) (packed : PackedLine) → HasFields fields lines → slice_get lines place ≡ Some packed → packed.start + packed.count ≤ length fields
within_here fields [] place packed has at = cc
within_here fields (first ∷ lines) zero packed has at =
    let same : first ≡ packed = cc in
    rw same at (has 0 first (omega arith))
within_here fields (first ∷ lines) (suc place) packed has at = within_here fields lines place packed (λ k d below. has (suc k) d (omega arith)) at

-- whether a line has a word that is one of these
pub any_held : (is : Word → Bool) (fields : List Field) (lines : List PackedLine) → list_any (λ packed. is packed.word) lines ≡ list_any (λ line. is line.word) (lines_in fields lines)
any_held is fields [] = refl
any_held is fields (packed ∷ lines) = ap (λ (b : Bool). is packed.word || b) (any_held is fields lines)
