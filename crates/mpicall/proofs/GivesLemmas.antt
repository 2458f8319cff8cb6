-- What each answer of a source says of the trace that was to come.
use Rattle.std.proofs.Common.{◌≡◌, ◌≢◌, ℕ, ◌-◌, ◌<◌, Bool, true, false, ◌==◌, nat_lt, cond, List, [], ◌∷◌, ◌++◌, length, get_or, take, drop, sym, ap, ◌∙◌, refl, arith, Option, Some, None, suc, Ok, Err, option_map, inl, inr}
use Rattle.std.specs.Io.KnownBytes.{Keeps, prepend_known, IsAtEnd, Consumes}
use Rattle.std.specs.List.{onto_first}
use Rattle.std.proofs.lemmas.Bool.Decides.{nat_tests}
use Rattle.std.proofs.lemmas.List.{take_all, length-append}
use Rattle.std.proofs.lemmas.Bool.{and_parts}
use Rattle.mpicall.specs.Spelling.{line_feed}
use Rattle.mpicall.specs.Lines.{most_bytes, has_line_feed}
use Rattle.mpicall.specs.Parsing.{record_of_line}
use Rattle.mpicall.specs.inner.Window.{NoFeedBelow, HasNoFeed, EndsLine}
use Rattle.mpicall.specs.Trace.{Trace, trace_of, trace_of_lines, trace_with, ends_here, put_first, end_with_behind}
use Rattle.mpicall.specs.declared.fault.Ending.TheVariants.{Sealed, Torn}
use Rattle.mpicall.specs.Lines.{lines_of}
use Rattle.mpicall.specs.inner.Stage.{stage_behind, is_own}
use Rattle.mpicall.specs.Source.{Gives, trace_at, IsOwnFault}
use Rattle.mpicall.proofs.LineLemmas.{read_has_feed, too_long}
use Rattle.mpicall.proofs.TraceLemmas.{line_at_feed, line_without_feed, onto_line}
use Rattle.mpicall.specs.declared.call.Call.{Call}
use Rattle.mpicall.specs.Ending.{ends_list}
use Rattle.mpicall.specs.declared.fault.LineFault.{LineFault}
use Rattle.mpicall.specs.declared.fault.LineFault.TheVariants.{TooLong}
use Rattle.mpicall.specs.declared.fault.SourceFault.{SourceFault}
use Rattle.mpicall.specs.declared.fault.SourceFault.TheVariants.{Line, TextAfterFinalize, NoFinalize, ReadFailed, GateStopped, ThreadNotStarted}
use Rattle.mpicall.specs.declared.source.Stage.{Stage}
use Rattle.mpicall.specs.declared.source.Stage.TheVariants.{Reading, Ended, Done, Failed}

-- Answers that change nothing.

pub gives_done : (stage : Stage) (bytes : Option (List ℕ)) → stage ≡ Done → Gives (trace_at stage bytes) (trace_at stage bytes) (Ok None)
gives_done stage bytes is = rw is (refl, refl)

again : (fault : SourceFault) → Gives (Some (ends_here (Torn fault))) (Some (ends_here (Torn fault))) (Err fault)
again (Line fault) = (refl, refl)
again TextAfterFinalize = (refl, refl)
again NoFinalize = (refl, refl)
again ReadFailed = refl
again GateStopped = (refl, refl)
again ThreadNotStarted = (refl, refl)

pub gives_fault : (stage : Stage) (bytes : Option (List ℕ)) (fault : SourceFault) → stage ≡ Failed fault → Gives (trace_at stage bytes) (trace_at stage bytes) (Err fault)
gives_fault stage bytes fault is = rw is (again fault)

pub own_fault : (stage : Stage) (fault : SourceFault) → is_own stage ≡ true → stage ≡ Failed fault → IsOwnFault fault
own_fault stage (Line fault) own is = (λ e. cc, λ e. cc)
own_fault stage TextAfterFinalize own is = (λ e. cc, λ e. cc)
own_fault stage NoFinalize own is = (λ e. cc, λ e. cc)
own_fault stage ReadFailed own is = (λ e. cc, λ e. cc)
own_fault stage GateStopped own is = absurd (let bad = rw is at own in cc)
own_fault stage ThreadNotStarted own is = absurd (let bad = rw is at own in cc)

-- A read that failed.

pub gives_read_failed : (old : Option Trace) → Gives old (Some (ends_here (Torn ReadFailed))) (Err ReadFailed)
gives_read_failed None = tt
gives_read_failed (Some trace) = refl

-- No bytes are left, and no `finalize` came.

no_line_at_zero : (buffered : List ℕ) (left : Option (List ℕ)) → EndsLine buffered left 0 → (buffered ≡ []) × IsAtEnd left
no_line_at_zero buffered left (inl (place, is, first)) = absurd (omega arith)
no_line_at_zero [] left (inr (is, none)) = (refl, elim none.last [ inl long ↦ absurd (omega arith) | inr end ↦ end ])
no_line_at_zero (byte ∷ buffered) left (inr (is, none)) = absurd (omega arith)

pub gives_no_finalize : (known left : Option (List ℕ)) (buffered : List ℕ) → Keeps known (prepend_known buffered left) → EndsLine buffered left 0 → Gives (option_map trace_of known) (Some (ends_here (Torn NoFinalize))) (Err NoFinalize)
unfolding trace_of
gives_no_finalize None left buffered keeps ends = tt
gives_no_finalize (Some known) None buffered keeps ends = absurd keeps
gives_no_finalize (Some known) (Some left) buffered keeps ends =
    let none = no_line_at_zero buffered (Some left) ends in
    let empty : known ≡ [] = sym keeps ∙ ap (λ (xs : List ℕ). xs ++ left) none.0 ∙ none.1 in
    let old : trace_of known ≡ ends_here (Torn NoFinalize) = ap trace_of empty in
    (old, ap Some (sym old))

-- what was unread is what is held and what is left
pub buffered_left : (known left : Option (List ℕ)) (buffered : List ℕ) → Keeps known (prepend_known buffered left) → Consumes known left buffered
buffered_left None left buffered keeps = tt
buffered_left (Some known) None buffered keeps = absurd keeps
buffered_left (Some known) (Some left) buffered keeps = sym keeps

-- A record was read.

behind_cases : (ends : Bool) (call : Call) (known rest : List ℕ) → trace_of known ≡ put_first call (cond ends (ends_here (end_with_behind (lines_of rest))) (trace_of rest)) → Gives (Some (trace_of known)) (trace_at (cond ends Ended Reading) (Some rest)) (Ok (Some call))
behind_cases true call known rest e = (ends_here (end_with_behind (lines_of rest)), e, refl)
behind_cases false call known rest e = (trace_of rest, e, refl)

behind_record : (call : Call) (known rest : List ℕ) → trace_of known ≡ trace_with (Ok call) (lines_of rest) (trace_of rest) → Gives (Some (trace_of known)) (trace_at (stage_behind call) (Some rest)) (Ok (Some call))
behind_record call known rest e = behind_cases (ends_list call) call known rest e

pub last_is_feed : (line : List ℕ) → has_line_feed line ≡ true → NoFeedBelow line (length line) → ⊥
last_is_feed line ends none =
    let parts = and_parts (nat_lt 0 (length line)) (get_or line (length line - 1) 0 == line_feed) ends in
    let some : 0 < length line = grind (arith, nat_tests, parts.0) in
    none (length line - 1) (omega arith) (grind (arith, nat_tests, parts.1))

pub gives_record : (known left : Option (List ℕ)) (buffered : List ℕ) (n : ℕ) (call : Call) → Keeps known (prepend_known buffered left) → EndsLine buffered left n → record_of_line (take n buffered) ≡ Ok call → Gives (option_map trace_of known) (trace_at (stage_behind call) (prepend_known (drop n buffered) left)) (Ok (Some call))
unfolding trace_of
gives_record None left buffered n call keeps ends read = tt
gives_record (Some known) None buffered n call keeps ends read = absurd keeps
gives_record (Some known) (Some left) buffered n call keeps (inl (place, is, first)) read =
    let at : n ≡ suc place = omega arith in
    let lines : lines_of known ≡ take n buffered ∷ lines_of (drop n buffered ++ left) =
    ap lines_of (sym keeps) ∙ rw at (line_at_feed buffered left place first) in
    let old : trace_of known ≡ trace_with (Ok call) (lines_of (drop n buffered ++ left)) (trace_of (drop n buffered ++ left)) =
    ap trace_of_lines lines ∙ ap (λ reading. trace_with reading (lines_of (drop n buffered ++ left)) (trace_of (drop n buffered ++ left))) read in
    behind_record call known (drop n buffered ++ left) old
gives_record (Some known) (Some left) buffered n call keeps (inr (is, none)) read =
    let whole : take n buffered ≡ buffered = take_all n buffered (omega arith) in
    let feed = read_has_feed buffered call (rw whole at read) in
    absurd (last_is_feed buffered feed none.none)

-- The next line has a fault.

first_of_lines : (line : List ℕ) (behind : List (List ℕ)) (known : List ℕ) (fault : LineFault) → lines_of known ≡ line ∷ behind → record_of_line line ≡ Err fault → trace_of known ≡ ends_here (Torn (Line fault))
unfolding trace_of
first_of_lines line behind known fault lines read =
    ap trace_of_lines lines ∙ ap (λ reading. trace_with reading behind (trace_of_lines behind)) read

long_line : (buffered : List ℕ) (lines : List (List ℕ)) → most_bytes < length buffered → (line : List ℕ) × (behind : List (List ℕ)) × (onto_line buffered lines ≡ line ∷ behind) × (record_of_line line ≡ Err TooLong)
long_line buffered [] long = (buffered, [], refl, too_long buffered long)
long_line buffered (line ∷ lines) long = (buffered ++ line, lines, refl, too_long (buffered ++ line) (omega (arith, length-append buffered line)))

unended : (buffered left : List ℕ) (n : ℕ) (fault : LineFault) → n ≢ 0 → n ≡ length buffered → HasNoFeed buffered (Some left) → record_of_line buffered ≡ Err fault → trace_of (buffered ++ left) ≡ ends_here (Torn (Line fault))
unended [] left n fault some is none read = absurd (some is)
unended (byte ∷ bytes) left n fault some is none read =
    let lines = line_without_feed byte bytes left none.none in
    elim none.last [
      | inl long ↦ (
          let first = long_line (byte ∷ bytes) (lines_of left) long in
          let same : Err TooLong ≡ Err fault = sym (too_long (byte ∷ bytes) long) ∙ read in
          first_of_lines first.0 first.1 ((byte ∷ bytes) ++ left) fault (lines ∙ first.2) (first.3 ∙ same))
      | inr end ↦ (
          let nothing : left ≡ [] = end in
          first_of_lines (byte ∷ bytes) [] ((byte ∷ bytes) ++ left) fault (lines ∙ ap (λ l. onto_line (byte ∷ bytes) (lines_of l)) nothing) read)
    ]

pub gives_line_fault : (known left : Option (List ℕ)) (buffered : List ℕ) (n : ℕ) (fault : LineFault) → Keeps known (prepend_known buffered left) → EndsLine buffered left n → n ≢ 0 → record_of_line (take n buffered) ≡ Err fault → Gives (option_map trace_of known) (Some (ends_here (Torn (Line fault)))) (Err (Line fault))
gives_line_fault None left buffered n fault keeps ends some read = tt
gives_line_fault (Some known) None buffered n fault keeps ends some read = absurd keeps
gives_line_fault (Some known) (Some left) buffered n fault keeps (inl (place, is, first)) some read =
    let at : n ≡ suc place = omega arith in
    let lines : lines_of known ≡ take n buffered ∷ lines_of (drop n buffered ++ left) =
    ap lines_of (sym keeps) ∙ rw at (line_at_feed buffered left place first) in
    let old = first_of_lines (take n buffered) (lines_of (drop n buffered ++ left)) known fault lines read in
    (old, ap Some (sym old))
gives_line_fault (Some known) (Some left) buffered n fault keeps (inr (is, none)) some read =
    let whole : take n buffered ≡ buffered = take_all n buffered (omega arith) in
    let old : trace_of known ≡ ends_here (Torn (Line fault)) = ap trace_of (sym keeps) ∙ unended buffered left n fault some is none (rw whole at read) in
    (old, ap Some (sym old))

-- After `finalize`.

abbrev pub end_behind : List ℕ → Trace
end_behind behind = ends_here (end_with_behind (lines_of behind))

pub gives_sealed : (known left : Option (List ℕ)) (now : List ℕ) → (now ≡ []) × IsAtEnd left → Keeps known (prepend_known now left) → Gives (option_map end_behind known) (Some (ends_here Sealed)) (Ok None)
gives_sealed None left now end keeps = tt
gives_sealed (Some known) None now end keeps = absurd keeps
gives_sealed (Some known) (Some left) now end keeps =
    let empty_text : known ≡ [] = sym keeps ∙ ap (λ (xs : List ℕ). xs ++ left) end.0 ∙ end.1 in
    let old : end_behind known ≡ ends_here Sealed = ap end_behind empty_text in
    (old, ap Some (sym old))

text_behind : (b : Bool) (byte : ℕ) (lines : List (List ℕ)) → end_with_behind (cond b ((byte ∷ []) ∷ lines) (onto_first byte lines)) ≡ Torn TextAfterFinalize
text_behind true byte lines = refl
text_behind false byte [] = refl
text_behind false byte (line ∷ lines) = refl

pub gives_text : (known left : Option (List ℕ)) (now : List ℕ) → now ≢ [] → Keeps known (prepend_known now left) → Gives (option_map end_behind known) (Some (ends_here (Torn TextAfterFinalize))) (Err TextAfterFinalize)
gives_text None left now some keeps = tt
gives_text (Some known) None now some keeps = absurd keeps
gives_text (Some known) (Some left) [] some keeps = absurd (some refl)
gives_text (Some known) (Some left) (byte ∷ now) some keeps =
    let old : end_behind known ≡ ends_here (Torn TextAfterFinalize) =
    ap end_behind (sym keeps) ∙ ap ends_here (text_behind (byte == line_feed) byte (lines_of (now ++ left))) in
    (old, ap Some (sym old))
