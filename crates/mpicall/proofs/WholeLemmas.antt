-- A text that breaks off has a record for each of its whole lines.
use Rattle.std.proofs.Common.{◌≡◌, ℕ, ◌+◌, ◌-◌, Bool, true, false, ◌==◌, nat_lt, cond, List, [], ◌∷◌, length, sym, ap, ◌∙◌, refl, arith, Option, Some, None, Result, Ok, Err, suc}
use Rattle.std.specs.List.{onto_first, count_by, list_any}
use Rattle.std.proofs.lemmas.Bool.Decides.{nat_tests}
use Rattle.std.proofs.lemmas.List.Sums.{sum_by-cons}
use Rattle.mpicall.specs.Ending.{ends_list}
use Rattle.mpicall.specs.Line.{fault_of_line, fault_of_fields, fault_by_word, takes_count, shape_of, wildcard_at, source_place, all_in_form}
use Rattle.mpicall.specs.Lines.{is_blank, most_bytes, has_line_feed, lines_of, body_of, split_fields}
use Rattle.mpicall.specs.Parsing.{record_of_line}
use Rattle.mpicall.specs.Source.{breaks_off}
use Rattle.mpicall.specs.Spelling.{line_feed}
use Rattle.mpicall.specs.Trace.{Trace, trace_of, trace_of_lines, trace_with, ends_here, end_with_behind}
use Rattle.mpicall.specs.declared.fault.Ending.TheVariants.{Torn}
use Rattle.mpicall.specs.Word.{word_of}
use Rattle.mpicall.proofs.LineLemmas.{fault_told, read_has_feed}
use Rattle.mpicall.specs.declared.call.Call.{Call}
use Rattle.mpicall.specs.declared.word.Word.{Word}
use Rattle.mpicall.specs.declared.fault.LineFault.{LineFault}
use Rattle.mpicall.specs.declared.fault.SourceFault.TheVariants.{Line}
use Rattle.mpicall.specs.declared.fault.LineFault.TheVariants.{EmptyField, UnknownWord, FieldCount, FieldForm, Wildcard, TooLong, NoLineFeed}

-- Only the last line of a text may lack its line feed.

feed_behind : (byte : ℕ) (line : List ℕ) → (byte == line_feed) ≡ false → has_line_feed (byte ∷ line) ≡ has_line_feed line
feed_behind byte [] other = other
feed_behind byte (next ∷ bytes) other =
    let longer : length (byte ∷ next ∷ bytes) - 1 ≡ suc (length bytes) = omega arith in
    let shorter : length (next ∷ bytes) - 1 ≡ length bytes = omega arith in
    let some : nat_lt 0 (length (next ∷ bytes)) ≡ true = grind (arith, nat_tests) in
    let more : nat_lt 0 (length (byte ∷ next ∷ bytes)) ≡ true = grind (arith, nat_tests) in
    simp (some, more, longer, shorter) refl

abbrev EndWithFeeds : List (List ℕ) → Type 0
EndWithFeeds [] = Unit {0}
EndWithFeeds (line ∷ behind) = (has_line_feed line ≡ false → behind ≡ []) × EndWithFeeds behind

first_ends : (feed : Bool) (byte : ℕ) (lines : List (List ℕ)) → (byte == line_feed) ≡ feed → EndWithFeeds lines → EndWithFeeds (cond feed ((byte ∷ []) ∷ lines) (onto_first byte lines))
first_ends true byte lines is others = (λ none. let no = sym is ∙ none in cc, others)
first_ends false byte [] is others = (λ none. refl, tt)
first_ends false byte (line ∷ behind) is others = (λ none. others.0 (sym (feed_behind byte line is) ∙ none), others.1)

lines_end : (bytes : List ℕ) → EndWithFeeds (lines_of bytes)
lines_end [] = tt
lines_end (byte ∷ bytes) = first_ends (byte == line_feed) byte (lines_of bytes) refl (lines_end bytes)

-- The fault of a line that has its line feed is another one.

form_fault : (count wildcard form : Bool) → cond count (cond wildcard (Some Wildcard) (cond form None (Some FieldForm))) (Some FieldCount) ≡ Some NoLineFeed → ⊥
form_fault true true form e = cc
form_fault true false true e = cc
form_fault true false false e = cc
form_fault false wildcard form e = cc

word_fault : (word : Option Word) (fields : List (List ℕ)) → fault_by_word word fields ≡ Some NoLineFeed → ⊥
word_fault None fields e = cc
word_fault (Some word) fields e =
    form_fault (takes_count (shape_of word (length fields)) (length fields)) (wildcard_at (source_place word) fields) (all_in_form (shape_of word (length fields)) fields) e

blank_fault : (blank : Bool) (word : Option Word) (fields : List (List ℕ)) → cond blank (Some EmptyField) (fault_by_word word fields) ≡ Some NoLineFeed → ⊥
blank_fault true word fields e = cc
blank_fault false word fields e = word_fault word fields e

fields_fault : (fields : List (List ℕ)) → fault_of_fields fields ≡ Some NoLineFeed → ⊥
unfolding fault_of_fields
fields_fault [] e = cc
fields_fault (word ∷ fields) e = blank_fault (list_any is_blank (word ∷ fields)) (word_of word) fields e

lacks_feed : (long ends : Bool) (fault : Option LineFault) → (fault ≡ Some NoLineFeed → ⊥) → cond long (Some TooLong) (cond ends fault (Some NoLineFeed)) ≡ Some NoLineFeed → ends ≡ false
lacks_feed true ends fault other e = cc
lacks_feed false true fault other e = absurd (other e)
lacks_feed false false fault other e = refl

no_feed_told : (line : List ℕ) → record_of_line line ≡ Err NoLineFeed → has_line_feed line ≡ false
unfolding fault_of_line
no_feed_told line read =
    lacks_feed (nat_lt most_bytes (length line)) (has_line_feed line) (fault_of_fields (split_fields (body_of line))) (fields_fault (split_fields (body_of line))) (fault_told line NoLineFeed read)

-- The records of some lines.

abbrev whole : List (List ℕ) → ℕ
whole lines = count_by has_line_feed lines

whole_first : (line : List ℕ) (behind : List (List ℕ)) (feed : Bool) → has_line_feed line ≡ feed → whole (line ∷ behind) ≡ cond feed 1 0 + whole behind
whole_first line behind feed is = sum_by-cons (λ l. cond (has_line_feed l) 1 0) line behind ∙ ap (λ b. cond b 1 0 + whole behind) is

rest_count : (ends : Bool) (behind : List (List ℕ)) (others : Trace) → breaks_off (cond ends (ends_here (end_with_behind behind)) others).end ≡ true → (breaks_off others.end ≡ true → length others.records ≡ whole behind) → length (cond ends (ends_here (end_with_behind behind)) others).records ≡ whole behind
rest_count true [] others breaks deeper = refl
rest_count true (line ∷ behind) others breaks deeper = cc
rest_count false behind others breaks deeper = deeper breaks

fault_count : (fault : LineFault) → breaks_off (ends_here (Torn (Line fault))).end ≡ true → fault ≡ NoLineFeed
fault_count EmptyField e = cc
fault_count UnknownWord e = cc
fault_count FieldCount e = cc
fault_count FieldForm e = cc
fault_count Wildcard e = cc
fault_count TooLong e = cc
fault_count NoLineFeed e = refl

first_count : (line : List ℕ) (behind : List (List ℕ)) (reading : Result Call LineFault) (others : Trace) → record_of_line line ≡ reading → (has_line_feed line ≡ false → behind ≡ []) → breaks_off (trace_with reading behind others).end ≡ true → (breaks_off others.end ≡ true → length others.records ≡ whole behind) → length (trace_with reading behind others).records ≡ whole (line ∷ behind)
first_count line behind (Ok call) others read last breaks deeper =
    let first = whole_first line behind true (read_has_feed line call read) in
    let rest = rest_count (ends_list call) behind others breaks deeper in
    omega (arith, first, rest)
first_count line behind (Err fault) others read last breaks deeper =
    let none = no_feed_told line (read ∙ ap Err (fault_count fault breaks)) in
    let first = whole_first line behind false none in
    let nothing : whole behind ≡ 0 = ap whole (last none) in
    omega (arith, first, nothing)

lines_count : (lines : List (List ℕ)) → EndWithFeeds lines → breaks_off (trace_of_lines lines).end ≡ true → length (trace_of_lines lines).records ≡ whole lines
lines_count [] ends breaks = refl
lines_count (line ∷ behind) ends breaks =
    first_count line behind (record_of_line line) (trace_of_lines behind) refl ends.0 breaks (lines_count behind ends.1)

pub text_count : (came : List ℕ) → breaks_off (trace_of came).end ≡ true → length (trace_of came).records ≡ count_by has_line_feed (lines_of came)
unfolding trace_of
text_count came breaks = lines_count (lines_of came) (lines_end came) breaks
