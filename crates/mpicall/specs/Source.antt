-- What a source of records still gives.
use Rattle.std.specs.Prelude.{◌≡◌, ◌≢◌, ℕ, Bool, true, false, ◌&&◌, Option, Some, None, is_none, option_map, IfSome, Result, Ok, Err, List, ◌∷◌, ⊤}
use Rattle.std.specs.Io.KnownBytes.{prepend_known, Consumes}
use Rattle.mpicall.specs.Device.{count_if}
use Rattle.mpicall.specs.Trace.{Trace, trace_of, end_with_behind, ends_here, put_first}
use Rattle.mpicall.specs.Lines.{lines_of}
use Rattle.mpicall.specs.Spelling.{spelling}
use Rattle.mpicall.specs.declared.call.Call.{Call}
use Rattle.mpicall.specs.declared.fault.Ending.{Ending}
use Rattle.mpicall.specs.declared.fault.Ending.TheVariants.{Sealed, Torn}
use Rattle.mpicall.specs.declared.fault.LineFault.TheVariants.{NoLineFeed}
use Rattle.mpicall.specs.declared.fault.SourceFault.{SourceFault}
use Rattle.mpicall.specs.declared.fault.SourceFault.TheVariants.{Line, NoFinalize, ReadFailed, GateStopped, ThreadNotStarted}
use Rattle.mpicall.specs.declared.source.Source.{Source}
use Rattle.mpicall.specs.declared.source.Stage.{Stage}
use Rattle.mpicall.specs.declared.source.Stage.TheVariants.{Reading, Ended, Done, Failed}

-- the trace that is still to come, by how far the source is and the bytes that it has not used
abbrev pub trace_at : Stage → Option (List ℕ) → Option Trace
trace_at Reading bytes = option_map trace_of bytes
trace_at Ended bytes = option_map (λ behind. ends_here (end_with_behind (lines_of behind))) bytes
trace_at Done bytes = Some (ends_here Sealed)
trace_at (Failed fault) bytes = Some (ends_here (Torn fault))

-- the same of a source, where its input says the bytes that are left
unfoldable pub coming : {I : Type 0} → (I → Option (List ℕ)) → Source I → Option Trace
coming left source = trace_at source.stage (prepend_known source.window (left source.input))

-- the bytes that a source has not used: those that it holds, and those still to come
abbrev pub unread : {I : Type 0} → (I → Option (List ℕ)) → Source I → Option (List ℕ)
unread left source = prepend_known source.window (left source.input)

-- the trace of these bytes, where they are those that a source has not used
abbrev pub trace_by : {I : Type 0} → Source I → List ℕ → Option Trace
trace_by source bytes = trace_at source.stage (Some bytes)

-- the end that a source has answered; None before
abbrev pub ended_at : Stage → Option Ending
ended_at Reading = None
ended_at Ended = None
ended_at Done = Some Sealed
ended_at (Failed fault) = Some (Torn fault)

abbrev pub ended : {I : Type 0} → Source I → Option Ending
ended source = ended_at source.stage

-- the input of a source
abbrev pub input_of : {I : Type 0} → Source I → I
input_of source = source.input

-- an answer gives the next record of the trace that was to come, or its end; a failed read ends it
abbrev pub Gives : Option Trace → Option Trace → Result (Option Call) SourceFault → Type 0
Gives None new answer = ⊤
Gives (Some old) new (Ok (Some call)) = (rest : Trace) × (old ≡ put_first call rest) × (new ≡ Some rest)
Gives (Some old) new (Ok None) = (old ≡ ends_here Sealed) × (new ≡ Some old)
Gives (Some old) new (Err ReadFailed) = new ≡ Some (ends_here (Torn ReadFailed))
Gives (Some old) new (Err fault) = (old ≡ ends_here (Torn fault)) × (new ≡ Some old)

-- nothing is wrong with a text whose trace ends so, but that no more of it came: it has its end record, or it breaks
-- off between two lines, or within one that is no longer than a line may be
abbrev pub breaks_off : Ending → Bool
breaks_off Sealed = true
breaks_off (Torn NoFinalize) = true
breaks_off (Torn (Line NoLineFeed)) = true
breaks_off end = false

-- these are the records of a trace, and nothing is wrong with it but that no more of it came
abbrev pub BreaksOffBehind : List Call → Trace → Type 0
BreaksOffBehind calls trace = (trace.records ≡ calls) × (breaks_off trace.end ≡ true)

-- these are the records of what came of the bytes that were unread, which is all but those that are left; and nothing
-- is wrong with it but that no more of it came
abbrev pub CutsOff : Stage → Option (List ℕ) → Option (List ℕ) → List Call → Type 0
CutsOff stage None left calls = ⊤
CutsOff stage (Some text) left calls =
    (came : List ℕ) × Consumes (Some text) left came × IfSome (trace_at stage (Some came)) (BreaksOffBehind calls)

-- the same of a source whose input failed, where it says its bytes: these are the records of what came of the bytes
-- that the source had not used before. After them came less than a line, and nothing after an end record
abbrev pub IsCutOff : {I : Type 0} → (I → Option (List ℕ)) → Source I → Source I → List Call → Type 0
IsCutOff left old new calls = CutsOff old.stage (unread left old) (left (input_of new)) calls

-- the end that an answer gives
abbrev pub end_of_answer : Result (Option Call) SourceFault → Option Ending
end_of_answer (Ok (Some call)) = None
end_of_answer (Ok None) = Some Sealed
end_of_answer (Err fault) = Some (Torn fault)

-- an end is answered for good: the same answer each time, and nothing changes
abbrev pub answer_of : Ending → Result (Option Call) SourceFault
answer_of Sealed = Ok None
answer_of (Torn fault) = Err fault

-- the answer says that a read failed
abbrev pub is_read_failed : Result (Option Call) SourceFault → Bool
is_read_failed (Err ReadFailed) = true
is_read_failed answer = false

-- the count of the input's failures after an answer: one more just where a read failed in that call
abbrev pub count_after : Option Ending → Result (Option Call) SourceFault → ℕ → ℕ
count_after old_end answer count = count_if (is_none old_end && is_read_failed answer) count

-- a fault that a source itself may answer
abbrev pub IsOwnFault : SourceFault → Type 0
IsOwnFault fault = (fault ≢ GateStopped) × (fault ≢ ThreadNotStarted)

-- the answer of a reader into one place
abbrev pub answer_into : Result Bool SourceFault → Call → Result (Option Call) SourceFault
answer_into (Ok true) call = Ok (Some call)
answer_into (Ok false) call = Ok None
answer_into (Err fault) call = Err fault

-- a record that a source gave is the first of those that came, where a read fails after it
abbrev pub ComesBeforeTheCut : {I : Type 0} → (I → Option (List ℕ)) → Type 0
ComesBeforeTheCut {I} left =
    (old now failed : Source I) (call : Call) (calls : List Call)
    → Gives (coming left old) (coming left now) (Ok (Some call)) → ended now ≡ None
    → Consumes (unread left old) (unread left now) (spelling call)
    → IsCutOff left now failed calls → IsCutOff left old failed (call ∷ calls)
