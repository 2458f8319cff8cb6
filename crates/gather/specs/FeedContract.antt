-- What is read of a rank's source, and put on its feed where it has one, by the source's trace.
use Rattle.std.specs.Prelude.{◌≡◌, ◌⊎◌, ℕ, ◌+◌, ◌-◌, ◌^◌, ◌<◌, min, Bool, true, false, ⊤, Option, Some, None, IfSome, Result, Ok, Err, List, [], ◌∷◌, ◌++◌, length, map}
use Rattle.mpicall.specs.Device.{count_if, one_more}
use Rattle.mpicall.specs.Trace.{Trace}
use Rattle.mpicall.specs.declared.call.Call.{Call}
use Rattle.mpicall.specs.declared.fault.SourceFault.TheVariants.{ReadFailed, GateStopped, NoFinalize, ThreadNotStarted}
use Rattle.rankfeed.specs.Items.{end_the_list, end_mark_of}
use Rattle.rankfeed.specs.Rings.{sent_whole}
use Rattle.rankfeed.specs.declared.answer.Unsealed.{Unsealed}
use Rattle.rankfeed.specs.declared.ring.Receipt.{Receipt}
use Rattle.mpicall.specs.declared.fault.Ending.{Ending}
use Rattle.mpicall.specs.declared.fault.Ending.TheVariants.{Sealed, Torn}
use Rattle.rankfeed.specs.declared.item.Item.{Item}
use Rattle.rankfeed.specs.declared.item.Item.TheVariants.{Entry, Mark}

-- the records, and after them one end mark
abbrev pub marked : List Call → Ending → List Item
marked calls end = map Entry calls ++ Mark end ∷ []

-- the end mark where no records are left: Sealed only where the record that ends the list was put
abbrev pub end_behind : Bool → Ending
end_behind true = Sealed
end_behind false = Torn NoFinalize

-- the end mark after all the records of a trace. For a text's it says the text's end; what is left of a
-- source that gave its end record before has none, and the mark NoFinalize
abbrev pub mark_of : List Call → Ending → Ending
mark_of records Sealed = end_behind (end_the_list (map Entry records))
mark_of records (Torn fault) = Torn fault

-- the records are a prefix of these
abbrev pub Begins : List Call → List Call → Type 0
Begins calls records = (rest : List Call) × (records ≡ calls ++ rest)

-- these calls and this end are all of the trace, or a prefix of its records where the gate or a failed read
-- stopped them
abbrev pub EndsAs : Trace → List Call → Ending → Type 0
EndsAs trace calls (Torn GateStopped) = Begins calls trace.records
EndsAs trace calls (Torn ReadFailed) = Begins calls trace.records
EndsAs trace calls end = (trace.records ≡ calls) × (end ≡ mark_of trace.records trace.end)

-- the line of a question after so many records, which stays at the greatest u32
abbrev pub line_behind : ℕ → ℕ
line_behind count = min count (2 ^ 32 - 1)

-- where the gate stopped the records, it may do so at the line after them; no source says that its thread didn't start
abbrev pub StopsAs : (ℕ → Bool → Type 0) → List Call → Ending → Type 0
StopsAs may_answer calls (Torn GateStopped) = may_answer (line_behind (length calls)) false
StopsAs may_answer calls (Torn ThreadNotStarted) = ⊥
StopsAs may_answer calls end = ⊤

-- how often the gate let the source be asked: for each record, and for the end that the source answered
abbrev pub passages : List Call → Ending → ℕ
passages calls (Torn GateStopped) = length calls
passages calls end = length calls + 1

-- the gate was asked so often, each time at the next line, and may let all of them pass
abbrev pub AreAsked : (ℕ → Bool → Type 0) → ℕ → Type 0
AreAsked may_answer count = (place : ℕ) → place < count → may_answer (line_behind place) true

-- the items are the records of a source with their end mark, by the source's trace where that is known, and
-- by what the gate may answer at their lines
pub record IsFed (told : Option Trace) (may_answer : ℕ → Bool → Type 0) (items : List Item) : Type 0 where
  pub calls : List Call
  pub end : Ending
  pub are : items ≡ marked calls end
  pub whole : IfSome told (λ trace. EndsAs trace calls end)
  pub stopped : StopsAs may_answer calls end
  pub asked : AreAsked may_answer (passages calls end)

-- the end mark is that of a read that failed
abbrev pub is_failed_read : Option Ending → Bool
is_failed_read (Some (Torn ReadFailed)) = true
is_failed_read end = false

-- the count of the input's failures rose by one just where the end mark says that a read failed; without a
-- receipt it rose by one at most
abbrev pub CountsReads : ℕ → ℕ → Result Receipt Unsealed → Type 0
CountsReads old new (Ok receipt) = new ≡ count_if (is_failed_read (end_mark_of (sent_whole receipt))) old
CountsReads old new (Err unsealed) = (new ≡ old) ⊎ (new ≡ one_more old)

-- the trace is these records and then the rest
pub record IsBehind (whole : Trace) (calls : List Call) (rest : Trace) : Type 0 where
  pub records : whole.records ≡ calls ++ rest.records
  pub end : whole.end ≡ rest.end

abbrev pub TraceGoesOn : Option Trace → List Call → Option Trace → Type 0
TraceGoesOn None calls now = ⊤
TraceGoesOn (Some whole) calls now = (rest : Trace) × (now ≡ Some rest) × IsBehind whole calls rest

-- the items put are records, and the known trace goes on after them
pub record Continues (told : Option Trace) (items : List Item) (now : Option Trace) : Type 0 where
  pub calls : List Call
  pub are : items ≡ map Entry calls
  pub goes_on : TraceGoesOn told calls now
