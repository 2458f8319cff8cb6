-- The trace that the bytes of a source hold: a list of records, and an end.
use Rattle.std.specs.Prelude.{◌≡◌, ◌⊎◌, ℕ, true, MatchBool, if◌then◌else◌, Some, Result, Ok, Err, List, [], ◌∷◌}
use Rattle.mpicall.specs.Limits.{in_ranges}
use Rattle.mpicall.specs.Line.{fault_of_line}
use Rattle.mpicall.specs.Spelling.{spelling}
use Rattle.mpicall.specs.Lines.{lines_of}
use Rattle.mpicall.specs.Parsing.{record_of_line}
use Rattle.mpicall.specs.declared.call.Call.{Call}
use Rattle.mpicall.specs.Ending.{ends_list}
use Rattle.mpicall.specs.declared.fault.Ending.{Ending}
use Rattle.mpicall.specs.declared.fault.Ending.TheVariants.{Sealed, Torn}
use Rattle.mpicall.specs.declared.fault.LineFault.{LineFault}
use Rattle.mpicall.specs.declared.fault.SourceFault.TheVariants.{Line, TextAfterFinalize, NoFinalize}

-- the records of a source in their order, and its end
pub record Trace : Type 0 where
  pub records : List Call
  pub end : Ending

-- the end of a source whose end record has these lines after it
abbrev pub end_with_behind : List (List ℕ) → Ending
end_with_behind [] = Sealed
end_with_behind (_ ∷ _) = Torn TextAfterFinalize

-- a trace with one more record in front
abbrev pub put_first : Call → Trace → Trace
put_first call trace = record { records = call ∷ trace.records; end = trace.end }

-- a trace that ends here
abbrev pub ends_here : Ending → Trace
ends_here end = record { records = []; end = end }

-- the trace of some lines, by spelling and first fault: a line is the spelling of a record, after which
-- either the list ends or the trace of the lines after follows; or it has a first fault, which ends the
-- trace. Each text has just one such trace, `trace_of`: `each_text_has_one_trace` says so
abbrev pub IsTraceOf : List (List ℕ) → Trace → Type 0
IsTraceOf [] trace = trace ≡ ends_here (Torn NoFinalize)
IsTraceOf (line ∷ behind) trace =
    ((call : Call) × (rest : Trace) × (in_ranges call ≡ true) × (line ≡ spelling call) × (trace ≡ put_first call rest)
    × MatchBool (ends_list call) (rest ≡ ends_here (end_with_behind behind)) (IsTraceOf behind rest))
    ⊎ ((fault : LineFault) × (fault_of_line line ≡ Some fault) × (trace ≡ ends_here (Torn (Line fault))))

-- the trace of the next line's reading, the lines after it, and the trace of these
abbrev pub trace_with : Result Call LineFault → List (List ℕ) → Trace → Trace
trace_with (Ok call) behind trace = put_first call (if ends_list call then ends_here (end_with_behind behind) else trace)
trace_with (Err fault) behind trace = ends_here (Torn (Line fault))

-- the trace of some lines: their records up to and with the first end record, as long as they are
-- spellings of records
abbrev pub trace_of_lines : List (List ℕ) → Trace
trace_of_lines [] = ends_here (Torn NoFinalize)
trace_of_lines (line ∷ behind) = trace_with (record_of_line line) behind (trace_of_lines behind)

-- the trace of a source's bytes
unfoldable pub trace_of : List ℕ → Trace
trace_of bytes = trace_of_lines (lines_of bytes)
