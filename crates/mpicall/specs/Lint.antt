-- What is answered of a source that is read to its end.
use Rattle.mpicall.specs.Names.{Place}
use Rattle.std.specs.Prelude.{◌≡◌, ℕ, ◌-◌, ◌^◌, ◌≤◌, min, Option, Some, None, Result, Ok, Err, List, length, ⊤}
use Rattle.mpicall.specs.Source.{IsCutOff}
use Rattle.mpicall.specs.Trace.{Trace}
use Rattle.mpicall.specs.declared.call.Call.{Call}
use Rattle.mpicall.specs.declared.fault.Ending.TheVariants.{Sealed, Torn}
use Rattle.mpicall.specs.declared.fault.SourceFault.{SourceFault}
use Rattle.mpicall.specs.declared.fault.SourceFault.TheVariants.{ReadFailed}
use Rattle.mpicall.specs.declared.lint.LintFault.{LintFault}
use Rattle.mpicall.specs.declared.source.Source.{Source}

-- a count, which stays at the greatest `u64`
abbrev pub capped : ℕ → ℕ
capped count = min count (2 ^ 64 - 1)

-- a fault is the trace's end, and its place the number of the records before it; a read may fail after
-- each of them
abbrev pub EndsWith : Trace → ℕ → SourceFault → Type 0
EndsWith trace call ReadFailed = (given : ℕ) × (given ≤ length trace.records) × (call ≡ capped given)
EndsWith trace call fault = (trace.end ≡ Torn fault) × (call ≡ capped (length trace.records))

-- the number of the trace's records, or the place and the fault of its end
abbrev pub TellsTrace : Option Trace → Result ℕ LintFault → Type 0
TellsTrace None answer = ⊤
TellsTrace (Some trace) (Ok count) = (trace.end ≡ Sealed) × (count ≡ capped (length trace.records))
TellsTrace (Some trace) (Err told) = EndsWith trace told.call told.fault

-- the place of a read that failed is the number of the records of what came
abbrev pub IsCutAt : {I : Type 0} → (I → Option (List ℕ)) → Source I → Source I → Place → Type 0
IsCutAt left old new place = (calls : List Call) × (place ≡ capped (length calls)) × IsCutOff left old new calls

-- the last answer of the source
abbrev pub last_answer : Result ℕ LintFault → Result (Option Call) SourceFault
last_answer (Ok count) = Ok None
last_answer (Err told) = Err told.fault
