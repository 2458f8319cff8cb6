-- What came of a text before a read failed.
use Rattle.std.proofs.Common.{◌≡◌, ℕ, ◌≤◌, Bool, true, false, ◌==◌, not, cond, List, [], ◌∷◌, ◌++◌, length, sym, ap, ◌∙◌, refl, arith, append_assoc, append-nil, subst, Option, Some, None, IfSome, Result, Ok, Err, inl, inr, drop, option_map, take-append-drop}
use Rattle.std.proofs.KnownBytes.{Consumes-trans}
use Rattle.std.specs.Io.KnownBytes.{Keeps, prepend_known, Consumes}
use Rattle.std.specs.List.{join_with_byte}
use Rattle.std.proofs.lemmas.Bool.Decides.{nat_tests}
use Rattle.std.proofs.lemmas.Bool.{and_parts}
use Rattle.mpicall.specs.Ending.{ends_list}
use Rattle.mpicall.specs.Limits.{in_ranges}
use Rattle.mpicall.specs.Lines.{most_bytes, has_line_feed, lines_of}
use Rattle.mpicall.specs.Parsing.{record_of_line}
use Rattle.mpicall.specs.inner.Parsing.{BeginsWith}
use Rattle.mpicall.specs.Source.{Gives, CutsOff, BreaksOffBehind, breaks_off, ended_at, trace_at}
use Rattle.mpicall.specs.Spelling.{space, line_feed, fields_of, spelling}
use Rattle.mpicall.specs.inner.Stage.{stage_behind}
use Rattle.mpicall.specs.Trace.{Trace, IsTraceOf, trace_of, trace_of_lines, trace_with, ends_here, put_first, end_with_behind}
use Rattle.mpicall.specs.declared.fault.Ending.TheVariants.{Torn}
use Rattle.mpicall.specs.inner.Window.{NoFeedBelow}
use Rattle.mpicall.proofs.BeginningLemmas.{WithoutFeed, body_without_feed, no_feed_here}
use Rattle.mpicall.proofs.GivesLemmas.{buffered_left, last_is_feed}
use Rattle.mpicall.proofs.LineLemmas.{spelling_read, no_line_feed}
use Rattle.mpicall.proofs.OneTraceLemmas.{one_trace}
use Rattle.mpicall.proofs.TraceLemmas.{line_without_feed}
use Rattle.mpicall.specs.declared.call.Call.{Call}
use Rattle.mpicall.specs.declared.fault.LineFault.{LineFault}
use Rattle.mpicall.specs.declared.fault.LineFault.TheVariants.{NoLineFeed}
use Rattle.mpicall.specs.declared.fault.SourceFault.TheVariants.{Line}
use Rattle.mpicall.specs.declared.source.Stage.{Stage}
use Rattle.mpicall.specs.declared.source.Stage.TheVariants.{Reading, Ended, Done, Failed}

-- Less than a line.

no_feed_last : (line : List ℕ) (ends : Bool) → has_line_feed line ≡ ends → NoFeedBelow line (length line) → has_line_feed line ≡ false
no_feed_last line true is none = absurd (last_is_feed line is none)
no_feed_last line false is none = is

-- the trace of bytes that are less than a line
part_of_line : (buffered : List ℕ) → NoFeedBelow buffered (length buffered) → length buffered ≤ most_bytes → BreaksOffBehind [] (trace_of buffered)
unfolding trace_of
part_of_line [] none short = (refl, refl)
part_of_line (byte ∷ bytes) none short =
    let buffered = byte ∷ bytes in
    let lines : lines_of buffered ≡ buffered ∷ [] = ap lines_of (sym (append-nil buffered)) ∙ line_without_feed byte bytes [] none in
    let read : record_of_line buffered ≡ Err NoLineFeed = no_line_feed buffered short (no_feed_last buffered _ refl none) in
    let is : trace_of_lines (lines_of buffered) ≡ ends_here (Torn (Line NoLineFeed)) =
    ap trace_of_lines lines ∙ ap (λ reading. trace_with reading [] (trace_of_lines [])) read in
    (ap (λ (t : Trace). t.records) is, ap (λ (t : Trace). breaks_off t.end) is)

pub cut_in_line : (stage : Stage) (known left : Option (List ℕ)) (buffered : List ℕ) → stage ≡ Reading → Keeps known (prepend_known buffered left) → NoFeedBelow buffered (length buffered) → length buffered ≤ most_bytes → CutsOff stage known left []
cut_in_line stage None left buffered is keeps none short = tt
cut_in_line stage (Some text) left buffered is keeps none short =
    (buffered, buffered_left (Some text) left buffered keeps, rw is (part_of_line buffered none short))

-- nothing came after the end record
pub cut_behind_end : (stage : Stage) (known left : Option (List ℕ)) (buffered : List ℕ) → stage ≡ Ended → Keeps known (prepend_known buffered left) → buffered ≡ [] → CutsOff stage known left []
cut_behind_end stage None left buffered is keeps none = tt
cut_behind_end stage (Some text) left buffered is keeps none =
    ([], buffered_left (Some text) left [] (rw none at keeps), rw is (refl, refl))

-- A record in front.

not_feed : (byte : ℕ) (bytes : List ℕ) → WithoutFeed (byte ∷ bytes) → (byte == line_feed) ≡ false
not_feed byte bytes h = let no = no_feed_here byte bytes h in grind (arith, nat_tests, no)

tail_without_feed : (byte : ℕ) (bytes : List ℕ) → WithoutFeed (byte ∷ bytes) → WithoutFeed bytes
tail_without_feed byte bytes h = (and_parts (not (byte == line_feed)) _ h).1

first_line : (body behind : List ℕ) → WithoutFeed body → lines_of (body ++ line_feed ∷ behind) ≡ (body ++ line_feed ∷ []) ∷ lines_of behind
first_line [] behind h = refl
first_line (byte ∷ body) behind h = rw (not_feed byte body h, first_line body behind (tail_without_feed byte body h)) refl

-- the trace that goes on after a record
abbrev goes_on : Bool → List ℕ → Trace
goes_on ends behind = cond ends (ends_here (end_with_behind (lines_of behind))) (trace_of behind)

trace_spelled : (call : Call) (behind : List ℕ) → in_ranges call ≡ true → trace_of (spelling call ++ behind) ≡ put_first call (goes_on (ends_list call) behind)
unfolding spelling trace_of
trace_spelled call behind h =
    let body = join_with_byte space (fields_of call) in
    let lines : lines_of ((body ++ line_feed ∷ []) ++ behind) ≡ (body ++ line_feed ∷ []) ∷ lines_of behind =
    ap lines_of (append_assoc body (line_feed ∷ []) behind) ∙ first_line body behind (body_without_feed call h) in
    ap trace_of_lines lines ∙ ap (λ reading. trace_with reading (lines_of behind) (trace_of_lines (lines_of behind))) (spelling_read call h)

-- the first record of a trace has its fields in their ranges
first_in_ranges : (lines : List (List ℕ)) (call : Call) (rest : Trace) → IsTraceOf lines (put_first call rest) → in_ranges call ≡ true
first_in_ranges [] call rest e = let no = ap (λ (t : Trace). t.records) e in cc
first_in_ranges (line ∷ behind) call rest (inl (x, others, h, is, first, follows)) =
    let same = ap (λ (t : Trace). t.records) first in
    let is_call : x ≡ call = cc in
    ap in_ranges (sym is_call) ∙ h
first_in_ranges (line ∷ behind) call rest (inr (fault, told, e)) = let no = ap (λ (t : Trace). t.records) e in cc

-- bytes that are held begin with the spelling of a call: its record comes next
begins_with : (buffered left : List ℕ) (call : Call) (n : ℕ) → BeginsWith buffered call n → buffered ++ left ≡ spelling call ++ (drop n buffered ++ left)
begins_with buffered left call n begins =
    ap (λ bytes. bytes ++ left) (sym (take-append-drop n buffered) ∙ ap (λ line. line ++ drop n buffered) begins.spells.line_is)
    ∙ append_assoc (spelling call) (drop n buffered) left

pub held_spelling : (buffered : List ℕ) (left : Option (List ℕ)) (call : Call) (n : ℕ) → BeginsWith buffered call n → Consumes (prepend_known buffered left) (prepend_known (drop n buffered) left) (spelling call)
held_spelling buffered None call n begins = tt
held_spelling buffered (Some left) call n begins = begins_with buffered left call n begins

goes_behind : (ends : Bool) (rest : List ℕ) → Some (goes_on ends rest) ≡ trace_at (cond ends Ended Reading) (Some rest)
unfolding trace_of
goes_behind true rest = refl
goes_behind false rest = refl

pub gives_spelled : (buffered : List ℕ) (left : Option (List ℕ)) (call : Call) (n : ℕ) → BeginsWith buffered call n → Gives (option_map trace_of (prepend_known buffered left)) (trace_at (stage_behind call) (prepend_known (drop n buffered) left)) (Ok (Some call))
gives_spelled buffered None call n begins = tt
gives_spelled buffered (Some left) call n begins =
    let rest = drop n buffered ++ left in
    let first = ap trace_of (begins_with buffered left call n begins) ∙ trace_spelled call rest begins.spells.in_ranges_is in
    (goes_on (ends_list call) rest, first, sym (goes_behind (ends_list call) rest))

-- the trace of some lines is no end that follows a record
first_no_end : (reading : Result Call LineFault) (line : List ℕ) (behind : List (List ℕ)) (others : Trace) → trace_with reading behind others ≡ ends_here (end_with_behind (line ∷ behind)) → ⊥
first_no_end (Ok call) line behind others e = let no = ap (λ (t : Trace). t.records) e in cc
first_no_end (Err fault) line behind others e = let no = ap (λ (t : Trace). t.end) e in cc

no_end_alone : (lines : List (List ℕ)) → trace_of_lines lines ≡ ends_here (end_with_behind lines) → ⊥
no_end_alone [] e = let no = ap (λ (t : Trace). t.end) e in cc
no_end_alone (line ∷ behind) e = first_no_end (record_of_line line) line behind (trace_of_lines behind) e

-- how far a source is that goes on after a record
follows : (ends : Bool) (rest : List ℕ) (now : Stage) → ended_at now ≡ None → trace_at now (Some rest) ≡ Some (goes_on ends rest) → now ≡ cond ends Ended Reading
unfolding trace_of
follows true rest Reading none e = let same : trace_of rest ≡ ends_here (end_with_behind (lines_of rest)) = cc in absurd (no_end_alone (lines_of rest) same)
follows true rest Ended none e = refl
follows false rest Reading none e = refl
follows false rest Ended none e = let same : trace_of rest ≡ ends_here (end_with_behind (lines_of rest)) = cc in absurd (no_end_alone (lines_of rest) same)
follows ends rest Done none e = cc
follows ends rest (Failed fault) none e = cc

behind_first : (call : Call) (calls : List Call) (ends : Bool) (came : List ℕ) (now : Stage) → now ≡ cond ends Ended Reading → IfSome (trace_at now (Some came)) (BreaksOffBehind calls) → BreaksOffBehind (call ∷ calls) (put_first call (goes_on ends came))
behind_first call calls true came now is h = let cut = rw is at h in (ap (λ (xs : List Call). call ∷ xs) cut.0, cut.1)
behind_first call calls false came now is h = let cut = rw is at h in (ap (λ (xs : List Call). call ∷ xs) cut.0, cut.1)

abbrev tail_of : List Call → List Call
tail_of [] = []
tail_of (call ∷ calls) = calls

same_rest : (call : Call) (a b : Trace) → put_first call a ≡ put_first call b → a ≡ b
same_rest call a b e = ap (λ (t : Trace). record { records = tail_of t.records; end = t.end }) e

from_reading : (now : Stage) (text rest : List ℕ) (left : Option (List ℕ)) (call : Call) (calls : List Call) → Gives (Some (trace_of text)) (trace_at now (Some rest)) (Ok (Some call)) → ended_at now ≡ None → text ≡ spelling call ++ rest → CutsOff now (Some rest) left calls → CutsOff Reading (Some text) left (call ∷ calls)
unfolding trace_of
from_reading now text rest left call calls gives none consumed cut =
    let h = first_in_ranges (lines_of text) call gives.0 ((one_trace (lines_of text) (put_first call gives.0)).1 (sym gives.1)) in
    let same = same_rest call gives.0 (goes_on (ends_list call) rest) (sym gives.1 ∙ ap trace_of consumed ∙ trace_spelled call rest h) in
    let now_is = follows (ends_list call) rest now none (gives.2 ∙ ap Some same) in
    let found = behind_first call calls (ends_list call) cut.0 now now_is cut.2 in
    (spelling call ++ cut.0, Consumes-trans (Some text) (Some rest) left _ _ consumed cut.1, subst (BreaksOffBehind (call ∷ calls)) (sym (trace_spelled call cut.0 h)) found)

pub given_first : (old now : Stage) (known next left : Option (List ℕ)) (call : Call) (calls : List Call) → Gives (trace_at old known) (trace_at now next) (Ok (Some call)) → ended_at now ≡ None → Consumes known next (spelling call) → CutsOff now next left calls → CutsOff old known left (call ∷ calls)
given_first old now None next left call calls gives none consumed cut = tt
given_first old now (Some text) None left call calls gives none consumed cut = absurd consumed
given_first Reading now (Some text) (Some rest) left call calls gives none consumed cut = from_reading now text rest left call calls gives none consumed cut
given_first Ended now (Some text) (Some rest) left call calls gives none consumed cut = let no = ap (λ (t : Trace). t.records) gives.1 in cc
given_first Done now (Some text) (Some rest) left call calls gives none consumed cut = let no = ap (λ (t : Trace). t.records) gives.1 in cc
given_first (Failed fault) now (Some text) (Some rest) left call calls gives none consumed cut = let no = ap (λ (t : Trace). t.records) gives.1 in cc
