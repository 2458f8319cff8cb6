-- What the code has of where an entry's call stands, and the list of a rank after what stands for an entry.
use Rattle.std.specs.Prelude.{◌≡◌, ℕ, ◌≤◌, Bool, true, false, IfSome, ◌==◌, if◌then◌else◌, Option, Some, None, is_none, option_map, Result, Ok, Err, List, [], ◌∷◌, ◌++◌, length, map}
use Rattle.mpicall.specs.Word.{or_else}
use Rattle.journals.specs.Lines.{Line}
use Rattle.journals.specs.Taking.{fields_at as fields_in}
use Rattle.journals.specs.declared.field.Field.{Field}
use Rattle.closing.specs.Called.{Called, StartsMatched, Tests, MakesOfGroup, comm_of, naturals_in}
use Rattle.closing.specs.Entry.{Choice, passes_tests}
use Rattle.closing.specs.Steps.{Id, Own, Progress, Step, PutsOff, after_steps}
use Rattle.closing.specs.Sinks.{Outcome, GoesOn, Ends}
use Rattle.closing.specs.Fit.{AllFit, AllHaveKind, steps_in, waited}
use Rattle.closing.specs.inner.Lists.{Handed, Stands, IsCut, ComesTo}
use Rattle.closing.specs.Reported.{Message as Said}
use Rattle.closing.specs.inner.RequestReports.{AllStandFor, Tells}
use Rattle.closing.specs.inner.Views.{called_view, message_view}
use Rattle.closing.specs.inner.Walks.{Spot, outcome_on}
use Rattle.closing.specs.declared.called.Called.{Called as CalledCode}
use Rattle.closing.specs.declared.called.Called.TheVariants as code
use Rattle.closing.specs.declared.message.Message.{Message}
use Rattle.closing.specs.declared.numbers.Named.{Named}
use Rattle.closing.specs.declared.walk.At.{At}
use Rattle.closing.specs.declared.standing.Standing.{Standing}
use Rattle.closing.specs.declared.list.List.{List as ListCode}
use Rattle.closing.specs.declared.stop.Stop.{Stop}
use Rattle.closing.specs.declared.stop.Stop.TheVariants.{Left, Memory}
use Rattle.closing.specs.declared.why.Why.{Why}
use Rattle.closing.specs.declared.why.Why.TheVariants.{NoNumber, CannotBe, TooLong, NeverCameBack}

-- ---- Where an entry's call stands ----

abbrev pub size_of : Option Named → ℕ
size_of None = 0
size_of (Some named) = named.size

abbrev pub size_at : At → ℕ
size_at it = size_of it.named

abbrev pub number_of : Option Named → Option ℕ
number_of None = None
number_of (Some named) = named.number

abbrev pub number_at : At → Option ℕ
number_at it = number_of it.named

-- the number, where what the call names can be
abbrev pub number_or : Bool → Option ℕ → Result ℕ Stop
number_or false number = Err (Left CannotBe)
number_or true None = Err (Left NoNumber)
number_or true (Some number) = Ok number

-- the message, where it is known; else the call never came back
abbrev pub known_or : Option Message → Result Message Stop
known_or None = Err (Left NeverCameBack)
known_or (Some it) = Ok it

-- the number and the message that a receive or probe takes, or why its rank's list ends: by the number, by the message
abbrev pub AwaitedOr : Result (ℕ × Message) Stop → Result ℕ Stop → Option Said → Type 0
AwaitedOr (Ok it) number said = (number ≡ Ok it.0) × (said ≡ Some (message_view it.1))
AwaitedOr (Err stop) (Err other) said = stop ≡ other
AwaitedOr (Err stop) (Ok number) said = (said ≡ None) × (stop ≡ Left NeverCameBack)

-- the fields of a line, if there is one
abbrev pub fields_of_line : List Line → Option ℕ → List Field
fields_of_line lines None = []
fields_of_line lines (Some place) = fields_in lines place

-- what the code has is what is known of where the call stands; no group has more members than a run has ranks
pub record IsAt (spot : Spot) (it : At) : Type 0 where
  pub size : size_at it ≡ spot.size
  pub small : spot.size ≤ 1024
  pub number : number_at it ≡ spot.number
  pub is_past : it.is_past ≡ spot.is_past
  pub got : option_map message_view it.got ≡ spot.got
  pub chose : option_map (λ fields. naturals_in fields.now) it.chose ≡ spot.chose

-- ---- Steps ----

-- those that are waited for right before the end
abbrev pub late_in : List Step → List Id
late_in [] = []
late_in (PutsOff ids ∷ steps) = ids ++ late_in steps
late_in (step ∷ steps) = late_in steps

-- ---- Tests that are passed ----

-- where tests are passed no call stands for what it started, and what is tested has its kind
abbrev pub AllTestsFit : Choice → Spot → List ℕ → Progress → Type 0
AllTestsFit choice spot requests progress =
    passes_tests choice.tests choice.calls ≡ true → (spot.is_past ≡ false) × AllHaveKind spot.lines progress requests

abbrev pub TestFits : Choice → Spot → Called → Progress → Type 0
TestFits choice spot (Tests requests) progress = AllTestsFit choice spot requests progress
TestFits choice spot it progress = Unit {0}

-- ---- The list after an entry ----

-- the list came so far, and is to end there
abbrev pub EndsAt : {A : Type 0} → Result A Stop → Handed → Progress → ℕ → Option Why → ListCode → Type 0
EndsAt (Ok done) handed progress line why it = ⊥
EndsAt (Err (Left TooLong)) handed progress line why it = IsCut handed progress line it
EndsAt (Err (Left found)) handed progress line why it = (why ≡ Some found) × Stands handed progress it
EndsAt (Err Memory) handed progress line why it = Unit {0}

-- it came so far by an entry that stands for this, or is to end at it
abbrev pub Follows : {A : Type 0} → Outcome → Result A Stop → Handed → Progress → ℕ → ListCode → Type 0
Follows (GoesOn steps) result handed progress line it = ComesTo result handed (after_steps progress line steps) line it
Follows (Ends steps end why) result handed progress line it = EndsAt result handed (after_steps progress line steps) line why it

-- a method that takes an entry whose call stands at a spot: what it does to the list
abbrev pub Takes : {A : Type 0} → Spot → Outcome → Result A Stop → ListCode → ListCode → Type 0
Takes spot outcome result old new =
    (handed : Handed) (progress : Progress) → Stands handed progress old → AllFit progress spot.line (steps_in outcome)
    → Follows outcome result handed progress spot.line new

-- likewise where more is known of how far the list came
abbrev pub TakesWhere : {A : Type 0} → (Progress → Type 0) → Spot → Outcome → Result A Stop → ListCode → ListCode → Type 0
TakesWhere Holds spot outcome result old new =
    (handed : Handed) (progress : Progress) → Stands handed progress old → AllFit progress spot.line (steps_in outcome)
    → Holds progress → Follows outcome result handed progress spot.line new

-- the requests that are waited for right before the end, with those that the entry puts off
abbrev pub LateWhere : (Progress → Type 0) → Outcome → ListCode → List ℕ → List ℕ → Type 0
LateWhere Holds outcome list old new =
    (handed : Handed) (progress : Progress) → Stands handed progress list → Holds progress
    → map Own new ≡ map Own old ++ late_in (steps_in outcome)

-- ---- An entry by its call ----

-- it is neither on a communicator nor makes one of a group
abbrev pub is_on_none : Called → Bool
is_on_none (MakesOfGroup group) = false
is_on_none it = is_none (comm_of it)

-- each field of a wait for any or some is a request
abbrev pub AreRequests : CalledCode → Type 0
AreRequests (code.WaitsAny fields) = length (naturals_in fields.now) ≡ length fields.now
AreRequests (code.WaitsSome fields) = length (naturals_in fields.now) ≡ length fields.now
AreRequests it = Unit {0}

-- what a walk has is what is known of the entry that it takes
pub record Meets (spot : Spot) (journal : List Line) (standing : Standing) (it : At) (called : CalledCode) : Type 0 where
  pub at : IsAt spot it
  pub lines : spot.lines ≡ journal
  pub tells : Tells spot.lines standing.outcomes
  pub named : AllStandFor spot.lines standing (waited (called_view called))
  pub chosen : IfSome spot.chose (AllStandFor spot.lines standing)
  pub fields : AreRequests called

-- what taking the entry does to the list
abbrev pub TakesCall : {A : Type 0} → Choice → Spot → Called → Result A Stop → ListCode → ListCode → Type 0
TakesCall choice spot it result old new = TakesWhere (TestFits choice spot it) spot (outcome_on choice spot it) result old new

-- and to what is waited for right before the end
abbrev pub LateCall : Choice → Spot → Called → ListCode → List ℕ → List ℕ → Type 0
LateCall choice spot it list old new = LateWhere (TestFits choice spot it) (outcome_on choice spot it) list old new

-- the message that a request takes after the call, by those before it; of several messages the first
abbrev pub message_after : Called → (ℕ → Option ℕ) → ℕ → Option ℕ
message_after (StartsMatched request message) before other = or_else (before other) (if request == other then Some message else None)
message_after it before other = before other
