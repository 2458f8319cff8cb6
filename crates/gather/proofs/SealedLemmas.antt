-- The trace of a text that ends without a fault has its end record as its last.
use Rattle.std.proofs.Common.{◌≡◌, ℕ, suc, ◌-◌, Bool, true, false, cond, List, [], ◌∷◌, length, Result, Ok, Err, refl, arith}
use Rattle.mpicall.specs.Ending.{ends_list}
use Rattle.mpicall.specs.Parsing.{record_of_line}
use Rattle.mpicall.specs.Trace.{Trace, end_with_behind, ends_here, trace_of_lines, trace_with}
use Rattle.mpicall.specs.declared.call.Call.{Call}
use Rattle.mpicall.specs.declared.fault.Ending.TheVariants.{Sealed}
use Rattle.mpicall.specs.declared.fault.LineFault.{LineFault}
use Rattle.callstore.specs.Recordings.{is_ended}

one_before : (call : Call) (calls : List Call) → is_ended calls ≡ true → is_ended (call ∷ calls) ≡ true
one_before call [] ended = cc
one_before call (next ∷ calls) ended =
    let e : suc (suc (length calls)) - 1 ≡ suc (suc (length calls) - 1) = omega arith in
    rw e ended

-- the list ends with the record, or goes on after it
with_record : (call : Call) (behind : List (List ℕ)) (trace : Trace) (is_last : Bool) → ends_list call ≡ is_last → (trace.end ≡ Sealed → is_ended trace.records ≡ true) →
    (cond is_last (ends_here (end_with_behind behind)) trace).end ≡ Sealed → is_ended (call ∷ (cond is_last (ends_here (end_with_behind behind)) trace).records) ≡ true
with_record call behind trace true is goes_on sealed = is
with_record call behind trace false is goes_on sealed = one_before call trace.records (goes_on sealed)

with_reading : (reading : Result Call LineFault) (behind : List (List ℕ)) (trace : Trace) → (trace.end ≡ Sealed → is_ended trace.records ≡ true) → (trace_with reading behind trace).end ≡ Sealed → is_ended (trace_with reading behind trace).records ≡ true
with_reading (Err fault) behind trace goes_on sealed = cc
with_reading (Ok call) behind trace goes_on sealed = with_record call behind trace (ends_list call) refl goes_on sealed

pub sealed_lines : (lines : List (List ℕ)) → (trace_of_lines lines).end ≡ Sealed → is_ended (trace_of_lines lines).records ≡ true
sealed_lines [] sealed = cc
sealed_lines (line ∷ behind) sealed = with_reading (record_of_line line) behind (trace_of_lines behind) (sealed_lines behind) sealed
