-- Reports of moved receives that the lines of a journal can't have, as the code finds them.
use Rattle.std.proofs.Common.{◌≡◌, ℕ, zero, suc, ◌+◌, ◌<◌, Bool, true, false, ◌||◌, not, Option, Some, None, option_map, List, [], ◌∷◌, length, drop, slice_get, sym, ap, ◌∙◌, refl, arith}
use Rattle.std.specs.List.{list_any}
use Rattle.std.specs.Option.{option_map_or}
use Rattle.journals.specs.Lines.{Line}
use Rattle.journals.specs.Entries.{numbers_by, is_request}
use Rattle.journals.specs.Known.{is_completed, is_report}
use Rattle.journals.specs.Faults.{ends_with_cut, is_cut, is_moved_wrongly}
use Rattle.journals.specs.Journal.{first_moved_wrongly}
use Rattle.journals.specs.Taking.{fields_in_line}
use Rattle.journals.specs.inner.Knows.{IsLast, Knows, names_completed_by}
use Rattle.journals.specs.inner.Notes.{note_at}
use Rattle.journals.specs.declared.field.Field.{Field}
use Rattle.journals.specs.declared.field.Field.TheVariants.{Natural, Signed, Null, Any, Undefined}
use Rattle.journals.specs.declared.known.Known.{Known}
use Rattle.journals.specs.declared.last.LastCall.{LastCall}
use Rattle.journals.specs.declared.word.Word.{Word}
use Rattle.journals.specs.declared.word.Word.TheVariants.{Call, Report}
use Rattle.journals.specs.declared.word.ReportWord.TheVariants as report
use Rattle.journals.proofs.Tests.{or_false}
use Rattle.journals.proofs.AdmitLemmas.{completed_as}

-- ---- The end ----

pub cut_last : (ranks : ℕ) (lines : List Line) (last : LastCall) → IsLast ranks lines (Some last) → is_cut last.word ≡ ends_with_cut lines
cut_last ranks lines last is = rw (is.is, is.word) refl

pub cut_none : (ranks : ℕ) (lines : List Line) → IsLast ranks lines None → false ≡ ends_with_cut lines
cut_none ranks lines is = rw is refl

-- ---- A report ----

module _ (lines : List Line) (known : Known) (knows : Knows lines known) where
  named : (fields : List Field) → list_any (is_completed lines) (numbers_by is_request (record { word = Report report.Moved; fields = fields })) ≡ names_completed_by (note_at known.notes) fields
  named [] = refl
  named (Natural number ∷ fields) = or_false _ ∙ completed_as lines known.last (note_at known.notes) knows.notes number
  named (Signed number ∷ fields) = refl
  named (Null ∷ fields) = refl
  named (Any ∷ fields) = refl
  named (Undefined ∷ fields) = refl

  of_moved : (word : Word) (fields : List Field) → word ≡ Report report.Moved → is_moved_wrongly lines (record { word = word; fields = fields }) ≡ (not (ends_with_cut lines) || names_completed_by (note_at known.notes) fields)
  of_moved word fields is = rw is (ap (λ (b : Bool). not (ends_with_cut lines) || b) (named fields))

  pub moved_is : (it : Option Line) → option_map (λ line. line.word) it ≡ Some (Report report.Moved) → (not (ends_with_cut lines) || names_completed_by (note_at known.notes) (fields_in_line it)) ≡ option_map_or (is_moved_wrongly lines) it false
  moved_is None is = cc
  moved_is (Some line) is = sym (of_moved line.word line.fields cc)

not_moved : (word : Word) → (word ≡ Report report.Moved → ⊥) → is_report report.Moved word ≡ false
not_moved (Call word) other = refl
not_moved (Report report.Moved) other = absurd (other refl)
not_moved (Report _) other = refl

pub other_is : (lines : List Line) (it : Option Line) → (option_map (λ line. line.word) it ≡ Some (Report report.Moved) → ⊥) → false ≡ option_map_or (is_moved_wrongly lines) it false
other_is lines None other = refl
other_is lines (Some line) other = rw (not_moved line.word (λ is. other (ap Some is))) refl

-- ---- All lines ----

pub first_here : (lines : List Line) (from place : ℕ) (all : List Line) → option_map_or (is_moved_wrongly lines) (slice_get all place) false ≡ true → first_moved_wrongly lines from (drop place all) ≡ Some from
first_here lines from place [] is = cc
first_here lines from zero (line ∷ all) is = rw is refl
first_here lines from (suc n) (line ∷ all) is = first_here lines from n all is

later_from : (lines : List Line) (from place : ℕ) (all : List Line) → place < length all → option_map_or (is_moved_wrongly lines) (slice_get all place) false ≡ false → first_moved_wrongly lines from (drop place all) ≡ first_moved_wrongly lines (from + 1) (drop (suc place) all)
later_from lines from place [] below is = absurd (omega arith)
later_from lines from zero (line ∷ all) below is = rw is refl
later_from lines from (suc n) (line ∷ all) below is = later_from lines from n all (omega arith) is

pub first_later : (lines : List Line) (from place : ℕ) (all : List Line) → place < length all → option_map_or (is_moved_wrongly lines) (slice_get all place) false ≡ false → first_moved_wrongly lines from (drop place all) ≡ first_moved_wrongly lines (from + 1) (drop (place + 1) all)
first_later lines from place all below is = later_from lines from place all below is ∙ ap (λ (n : ℕ). first_moved_wrongly lines (from + 1) (drop n all)) (one_more place)
  where
    one_more : (n : ℕ) → suc n ≡ n + 1
    one_more n = omega arith

pub none_left : (lines : List Line) (from place : ℕ) (all : List Line) → length all ≡ place → first_moved_wrongly lines from (drop place all) ≡ None
none_left lines from zero [] is = refl
none_left lines from (suc n) [] is = refl
none_left lines from zero (line ∷ all) is = absurd (omega arith)
none_left lines from (suc n) (line ∷ all) is = none_left lines from n all (omega arith)

-- lines that report no moved receive report none wrongly
one_less : (lines : List Line) (from : ℕ) (line : Line) (all : List Line) (here : Bool) → is_report report.Moved line.word ≡ here
    → (here || list_any (λ line. is_report report.Moved line.word) all) ≡ false
    → (list_any (λ line. is_report report.Moved line.word) all ≡ false → first_moved_wrongly lines (from + 1) all ≡ None) → first_moved_wrongly lines from (line ∷ all) ≡ None
one_less lines from line all true is none rest = cc
one_less lines from line all false is none rest = rw is (rest none)

pub none_moved : (lines : List Line) (from : ℕ) (all : List Line) → list_any (λ line. is_report report.Moved line.word) all ≡ false → first_moved_wrongly lines from all ≡ None
none_moved lines from [] none = refl
none_moved lines from (line ∷ all) none = one_less lines from line all (is_report report.Moved line.word) refl none (none_moved lines (from + 1) all)
