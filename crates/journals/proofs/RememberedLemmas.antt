-- Lines that are remembered, as fields are put after those that they have, and a line that is held is put after others.
use Rattle.std.proofs.Common.{◌≡◌, ℕ, ◌+◌, ◌-◌, ◌≤◌, List, length, sym, ap, ◌∙◌, arith, length-append, Option, Some, None, Result, Ok, Err, IfSome}
use Rattle.std.proofs.lemmas.List.{length-map, map_push}
use Rattle.journals.specs.Lines.{Line}
use Rattle.journals.specs.inner.Packing.{fields_in, line_in, lines_in, HasFields, PutsLine}
use Rattle.journals.specs.inner.Remembered.{IsHeldLine, IsHeldKnown, AreHeld}
use Rattle.journals.specs.inner.Taking.{Grows, ReadsLine, TakesLine}
use Rattle.journals.specs.declared.fault.JournalFaultKind.{JournalFaultKind}
use Rattle.journals.specs.declared.field.Field.{Field}
use Rattle.journals.specs.declared.line.LineFault.{LineFault}
use Rattle.journals.specs.declared.line.LineFault.TheVariants.{Journal, Memory}
use Rattle.journals.specs.declared.lines.PackedLine.{PackedLine}
use Rattle.journals.specs.declared.lines.Taken.{Taken}
use Rattle.journals.specs.declared.remembered.KnownLine.{KnownLine}
use Rattle.journals.specs.declared.word.Word.{Word}
use Rattle.journals.proofs.PackingLemmas.{same_line, with_word, last_fields, has_one_more}

-- ---- More fields ----

same_in : (old new : List Field) (packed : PackedLine) → Grows old new → packed.start + packed.count ≤ length old → line_in new packed ≡ line_in old packed
same_in old new packed more within = rw more.1 (ap (with_word packed.word) (same_line old more.0 packed within))

held_stays : (old new : List Field) (ranks : ℕ) (text : List ℕ) (packed : PackedLine) → Grows old new → IsHeldLine old ranks text packed → IsHeldLine new ranks text packed
held_stays old new ranks text packed more held =
    let within : packed.start + packed.count ≤ length old = held.within in
    let same : line_in new packed ≡ line_in old packed = same_in old new packed more within in
    record {
      within = omega (arith, within, ap length more.1, length-append old more.0);
      says = held.says ∙ ap (λ (line : Line). Ok line) (sym same);
    }

known_stays : (old new : List Field) (it : Option KnownLine) → Grows old new → IfSome it (IsHeldKnown old) → IfSome it (IsHeldKnown new)
known_stays old new None more held = tt
known_stays old new (Some known) more held = held_stays old new known.ranks _ known.packed more held

-- the lines that are remembered are held as before
pub known_stay : (old new : List Field) (known : List (Option KnownLine)) → Grows old new → AreHeld old known → AreHeld new known
known_stay old new known more held k d below = known_stays old new _ more (held k d below)

-- ---- A line that is held ----

-- a line that was read is held
pub read_held : (ranks : ℕ) (text : List ℕ) (said : Result Line JournalFaultKind) (old new : List Field) (packed : PackedLine) (word : Word) → ReadsLine said old new (Ok word) → packed.start ≡ length old → packed.count ≡ length new - length old → packed.word ≡ word → (packed.start + packed.count ≤ length new) × (said ≡ Ok (line_in new packed))
read_held ranks text said old new packed word reads start count own =
    let fields : fields_in new packed ≡ reads.0 = last_fields old reads.0 new packed reads.2 start count in
    let here : line_in new packed ≡ with_word word reads.0 = ap (λ (w : Word). with_word w (fields_in new packed)) own ∙ ap (with_word word) fields in
    (omega (arith, start, count, ap length reads.2, length-append old reads.0), reads.1 ∙ ap (λ (line : Line). Ok line) (sym here))

pub puts_more : (fields : List Field) (lines all : List PackedLine) (packed : PackedLine) (answer : Result Taken LineFault) → PutsLine packed lines all answer → HasFields fields lines → packed.start + packed.count ≤ length fields → HasFields fields all
puts_more fields lines all packed (Ok taken) puts has within = rw puts.0 (has_one_more fields lines packed has within)
puts_more fields lines all packed (Err fault) puts has within = rw puts.0 has

-- put after others, it is the next line
pub takes_held : (said : Result Line JournalFaultKind) (fields : List Field) (lines all : List PackedLine) (packed : PackedLine) (answer : Result Taken LineFault) → said ≡ Ok (line_in fields packed) → PutsLine packed lines all answer → TakesLine said (lines_in fields lines) (lines_in fields all) answer
takes_held said fields lines all packed (Ok taken) says puts = record {
  line = line_in fields packed;
  says = says;
  lines = rw puts.0 (map_push (line_in fields) lines packed);
  place = puts.1 ∙ sym (length-map lines (line_in fields));
  word = puts.2;
}
takes_held said fields lines all packed (Err (Journal kind)) says puts = cc
takes_held said fields lines all packed (Err Memory) says puts = ap (lines_in fields) puts.0
