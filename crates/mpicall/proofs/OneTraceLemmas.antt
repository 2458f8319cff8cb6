-- The trace of a text by spelling and first fault is the one that reading its lines gives.
use Rattle.std.proofs.Common.{◌≡◌, ◌↔◌, ℕ, Bool, true, false, List, [], ◌∷◌, sym, ap, ◌∙◌, refl, Option, Some, None, Ok, cond, inl, inr, MatchBool, subst}
use Rattle.mpicall.specs.Ending.{ends_list}
use Rattle.mpicall.specs.Line.{fault_of_line}
use Rattle.mpicall.specs.Lines.{body_of, split_fields}
use Rattle.mpicall.specs.Parsing.{record_of_line, call_of_fields}
use Rattle.mpicall.specs.Trace.{Trace, IsTraceOf, trace_of_lines, trace_with, put_first, ends_here, end_with_behind}
use Rattle.mpicall.proofs.LineLemmas.{fault_read, spells_read}
use Rattle.mpicall.proofs.SpelledLemmas.{faultless_spelled}
use Rattle.mpicall.specs.declared.fault.LineFault.{LineFault}

rest_is : (ends : Bool) (behind : List (List ℕ)) (rest last others : Trace) → (IsTraceOf behind rest → rest ≡ others) → MatchBool ends (rest ≡ last) (IsTraceOf behind rest) → rest ≡ cond ends last others
rest_is true behind rest last others deeper h = h
rest_is false behind rest last others deeper h = deeper h

pub is_the_trace : (lines : List (List ℕ)) (trace : Trace) → IsTraceOf lines trace → trace ≡ trace_of_lines lines
is_the_trace [] trace e = e
is_the_trace (line ∷ behind) trace (inl (call, rest, h, is, first, others)) =
    let read : record_of_line line ≡ Ok call = spells_read line call (record { line_is = is; in_ranges_is = h }) in
    let follows = rest_is (ends_list call) behind rest (ends_here (end_with_behind behind)) (trace_of_lines behind) (is_the_trace behind rest) others in
    first ∙ ap (put_first call) follows ∙ ap (λ r. trace_with r behind (trace_of_lines behind)) (sym read)
is_the_trace (line ∷ behind) trace (inr (fault, told, is)) =
    is ∙ ap (λ r. trace_with r behind (trace_of_lines behind)) (sym (fault_read line fault told))

rest_of : (ends : Bool) (behind : List (List ℕ)) (last others : Trace) → IsTraceOf behind others → MatchBool ends (cond ends last others ≡ last) (IsTraceOf behind (cond ends last others))
rest_of true behind last others deeper = refl
rest_of false behind last others deeper = deeper

line_trace : (line : List ℕ) (behind : List (List ℕ)) (o : Option LineFault) → fault_of_line line ≡ o → IsTraceOf behind (trace_of_lines behind) → IsTraceOf (line ∷ behind) (trace_of_lines (line ∷ behind))
line_trace line behind (Some fault) is deeper =
    inr (fault, is, ap (λ r. trace_with r behind (trace_of_lines behind)) (fault_read line fault is))
line_trace line behind None is deeper =
    let s = faultless_spelled line is in
    let call = call_of_fields (split_fields (body_of line)) in
    let read = spells_read line call s in
    inl (
      call,
      cond (ends_list call) (ends_here (end_with_behind behind)) (trace_of_lines behind),
      s.in_ranges_is,
      s.line_is,
      ap (λ r. trace_with r behind (trace_of_lines behind)) read,
      rest_of (ends_list call) behind (ends_here (end_with_behind behind)) (trace_of_lines behind) deeper,
    )

the_trace : (lines : List (List ℕ)) → IsTraceOf lines (trace_of_lines lines)
the_trace [] = refl
the_trace (line ∷ behind) = line_trace line behind (fault_of_line line) refl (the_trace behind)

along : (lines : List (List ℕ)) (s t : Trace) → s ≡ t → IsTraceOf lines s → IsTraceOf lines t
along lines s t e h = let P : Trace → Type 0 = λ x. IsTraceOf lines x in subst P e h

pub one_trace : (lines : List (List ℕ)) (trace : Trace) → IsTraceOf lines trace ↔ (trace ≡ trace_of_lines lines)
one_trace lines trace = (is_the_trace lines trace, λ e. along lines (trace_of_lines lines) trace (sym e) (the_trace lines))
