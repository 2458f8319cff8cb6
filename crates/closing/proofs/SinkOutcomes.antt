-- What comes of an entry by the sinks before it: it starts requests alone, and a list that ends at it is left open.
use Rattle.std.proofs.Common.{◌≡◌, ◌∙◌, refl, sym, subst, ℕ, Bool, true, false, ◌||◌, not, Option, Some, None, List, [], ◌∷◌, ◌++◌}
use Rattle.std.specs.Prelude.{if◌then◌else◌, is_none, option_and_then, unwrap_or}
use Rattle.mpicall.specs.declared.call.Call.{Call}
use Rattle.mpicall.specs.declared.call.Call.TheVariants.{Open, Finalize}
use Rattle.journals.specs.Known.{report_of, requests_in}
use Rattle.journals.specs.Lines.{Line}
use Rattle.journals.specs.declared.word.ReportWord.TheVariants as report
use Rattle.closing.specs.Called.{Called, Sends, StartsSend, Receives, StartsReceive, Exchanges, StartsExchange, Probes, ProbesMatching, ReceivesMatched, StartsMatched, Waits, Tests, WaitsAny, WaitsSome, Cancels, FreesRequest, Collects, StartsCollective, Duplicates, StartsDuplicate, Splits, Makes, MakesOfGroup, FreesComm, Nothing, Finalizes, Exits, Aborts, Fills, Stops, Cuts}
use Rattle.closing.specs.Endings.{message_at, number_at, why_at}
use Rattle.closing.specs.Entries.{Run, Placed}
use Rattle.closing.specs.Entry.{Choice, is_past, steps_of}
use Rattle.closing.specs.Fit.{steps_in}
use Rattle.closing.specs.Recording.{is_end, outcome_by, outcome_in, outcome_of}
use Rattle.closing.specs.Reported.{is_gone}
use Rattle.closing.specs.Sinks.{Outcome, GoesOn, Ends, blocks, by_call, chooses_by, is_met, is_sound, name_sink, outcome_by_sinks, sinks, starts_half, takes_by, unsure, wanted_at, waits_by}
use Rattle.closing.specs.Sinks as sunk
use Rattle.closing.specs.Steps.{Own, Whole, Progress, Step, Starts, WaitsForLate, Written, after_step, after_steps}
use Rattle.closing.specs.declared.choice.Calls.{Calls}
use Rattle.closing.specs.declared.choice.Tests.{Tests as TestsChoice}
use Rattle.closing.specs.declared.choice.Unreported.{Unreported}
use Rattle.closing.specs.declared.choice.Unreported.TheVariants as unreported
use Rattle.closing.specs.declared.pending.Wanted.{Wanted}
use Rattle.closing.specs.declared.why.Why.{Why}
use Rattle.closing.specs.declared.why.Why.TheVariants.{NeverCameBack, NotJudged}

-- ---- What a call that is taken by the sinks before it starts ----

abbrev IsStart : Step → Type 0
IsStart (Starts id call) = Unit {0}
IsStart step = ⊥

abbrev AreStarts : List Step → Type 0
AreStarts [] = Unit {0}
AreStarts (step ∷ steps) = IsStart step × AreStarts steps

late_start : (progress : Progress) (line : ℕ) (step : Step) → IsStart step → (after_step progress line step).late ≡ progress.late
late_start progress line (Starts id call) h = refl
late_start progress line _ h = absurd h

late_starts : (progress : Progress) (line : ℕ) (steps : List Step) → AreStarts steps → (after_steps progress line steps).late ≡ progress.late
late_starts progress line [] h = refl
late_starts progress line (step ∷ steps) h = late_starts (after_step progress line step) line steps h.1 ∙ late_start progress line step h.0

-- it starts these, and if the list ends at it, it is left open
abbrev IsSunk : Outcome → Type 0
IsSunk (GoesOn steps) = AreStarts steps
IsSunk (Ends steps end why) = AreStarts steps × (end ≡ Open)

starts_in : (outcome : Outcome) → IsSunk outcome → AreStarts (steps_in outcome)
starts_in (GoesOn steps) is = is
starts_in (Ends steps end why) is = is.0

module _ (choice : Choice) (placed : Placed) where
  blocks_start : (came_back known past_is : Bool) (pending past : List Step) → AreStarts pending → AreStarts past
      → IsSunk ((if not came_back then Ends pending Open (Some NeverCameBack) else if known then sunk.ends NeverCameBack else if past_is then GoesOn past else sunk.ends NotJudged))
  blocks_start false known past_is pending past one two = (one, refl)
  blocks_start true true past_is pending past one two = (tt, refl)
  blocks_start true false true pending past one two = two
  blocks_start true false false pending past one two = (tt, refl)

  blocked : (pending past : List Step) → AreStarts pending → AreStarts past → IsSunk (blocks choice placed pending past)
  blocked pending past one two = blocks_start placed.came_back (is_none (message_at placed)) (is_past choice.calls placed) pending past one two

  half_starts : (b : Bool) (step : Step) (others : List Step) → IsStart step → AreStarts others → AreStarts ((if b then [] else step ∷ []) ++ others)
  half_starts true step others one two = two
  half_starts false step others one two = (one, two)

  unsure_starts : (wanted : Wanted) (it : Called) → IsSunk (unsure choice placed wanted it)
  unsure_starts wanted (Receives awaited) = blocked [] (sinks placed wanted None ∷ []) tt (tt, tt)
  unsure_starts wanted (Exchanges sent awaited) =
      let two = starts_half wanted (Whole placed.line) sent ∷ sinks placed wanted None ∷ [] in blocked two two (tt, (tt, tt)) (tt, (tt, tt))
  unsure_starts wanted (Probes awaited) = blocked [] [] tt tt
  unsure_starts wanted (ProbesMatching message awaited) = blocked [] (sinks placed wanted (Some message) ∷ []) tt (tt, tt)
  unsure_starts wanted (StartsReceive request awaited) = (tt, tt)
  unsure_starts wanted (StartsExchange request received sent awaited) =
      half_starts (is_gone placed.journal.lines request) (starts_half wanted (Own request) sent) (sinks placed wanted (Some received) ∷ []) tt (tt, tt)
  unsure_starts wanted (Sends mode sent) = tt
  unsure_starts wanted (StartsSend request mode sent) = tt
  unsure_starts wanted (ReceivesMatched message) = tt
  unsure_starts wanted (StartsMatched request message) = tt
  unsure_starts wanted (Waits requests) = tt
  unsure_starts wanted (Tests requests) = tt
  unsure_starts wanted (WaitsAny requests) = tt
  unsure_starts wanted (WaitsSome requests) = tt
  unsure_starts wanted (Cancels request) = tt
  unsure_starts wanted (FreesRequest request) = tt
  unsure_starts wanted (Collects collective comm root) = tt
  unsure_starts wanted (StartsCollective request collective comm root) = tt
  unsure_starts wanted (Duplicates comm) = tt
  unsure_starts wanted (StartsDuplicate request comm) = tt
  unsure_starts wanted (Splits comm colour key) = tt
  unsure_starts wanted (Makes comm) = tt
  unsure_starts wanted (MakesOfGroup group) = tt
  unsure_starts wanted (FreesComm comm) = tt
  unsure_starts wanted Nothing = tt
  unsure_starts wanted Finalizes = tt
  unsure_starts wanted Exits = tt
  unsure_starts wanted Aborts = tt
  unsure_starts wanted Fills = tt
  unsure_starts wanted Stops = tt
  unsure_starts wanted Cuts = tt

  waits_start : (records : List Written) (requests : List ℕ) (outcome : Outcome) → waits_by choice records placed requests ≡ Some outcome → IsSunk outcome
  waits_start records requests outcome e = by_bool (is_past choice.calls placed || not (name_sink records placed requests)) e
    where
      by_bool : (b : Bool) → (if b then None else Some (sunk.ends (if placed.came_back then NotJudged else NeverCameBack))) ≡ Some outcome → IsSunk outcome
      by_bool true f = absurd (cc (f))
      by_bool false f =
          let same : sunk.ends (if placed.came_back then NotJudged else NeverCameBack) ≡ outcome = cc (f) in
          subst (λ (one : Outcome). IsSunk one) same (tt, refl)

  lines_start : (records : List Written) (found : Option Line) (outcome : Outcome)
      → option_and_then (λ line. waits_by choice records placed (requests_in (Some line))) found ≡ Some outcome → IsSunk outcome
  lines_start records None outcome e = absurd (cc (e))
  lines_start records (Some line) outcome e = waits_start records (requests_in (Some line)) outcome e

  chooses_start : (records : List Written) (requests : List ℕ) (outcome : Outcome) → chooses_by choice records placed requests ≡ Some outcome → IsSunk outcome
  chooses_start records [] outcome e = lines_start records (report_of report.Chose placed.entry) outcome e
  chooses_start records (request ∷ []) outcome e = waits_start records (request ∷ []) outcome e
  chooses_start records (request ∷ other ∷ others) outcome e = lines_start records (report_of report.Chose placed.entry) outcome e

  wanted_start : (records : List Written) (wanted : Option Wanted) (outcome : Outcome) → option_and_then (takes_by choice records placed) wanted ≡ Some outcome
      → IsSunk outcome
  wanted_start records None outcome e = absurd (cc (e))
  wanted_start records (Some wanted) outcome e = by_bool (is_none (message_at placed) || is_met records wanted) e
    where
      by_bool : (b : Bool) → (if b then Some (unsure choice placed wanted placed.called) else None) ≡ Some outcome → IsSunk outcome
      by_bool false f = absurd (cc (f))
      by_bool true f =
          let same : unsure choice placed wanted placed.called ≡ outcome = cc (f) in
          subst (λ (one : Outcome). IsSunk one) same (unsure_starts wanted placed.called)

  call_starts : (run : Run) (records : List Written) (it : Called) (outcome : Outcome) → by_call run choice records placed it ≡ Some outcome → IsSunk outcome
  call_starts run records (ReceivesMatched message) outcome e = waits_start records (message ∷ []) outcome e
  call_starts run records (Waits requests) outcome e = waits_start records requests outcome e
  call_starts run records (Tests requests) outcome e = waits_start records requests outcome e
  call_starts run records (WaitsAny requests) outcome e = chooses_start records requests outcome e
  call_starts run records (WaitsSome requests) outcome e = chooses_start records requests outcome e
  call_starts run records (Sends mode sent) outcome e = wanted_start records (option_and_then (wanted_at placed) (number_at run placed)) outcome e
  call_starts run records (StartsSend request mode sent) outcome e = wanted_start records (option_and_then (wanted_at placed) (number_at run placed)) outcome e
  call_starts run records (Receives awaited) outcome e = wanted_start records (option_and_then (wanted_at placed) (number_at run placed)) outcome e
  call_starts run records (StartsReceive request awaited) outcome e = wanted_start records (option_and_then (wanted_at placed) (number_at run placed)) outcome e
  call_starts run records (Exchanges sent awaited) outcome e = wanted_start records (option_and_then (wanted_at placed) (number_at run placed)) outcome e
  call_starts run records (StartsExchange request received sent awaited) outcome e = wanted_start records (option_and_then (wanted_at placed) (number_at run placed)) outcome e
  call_starts run records (Probes awaited) outcome e = wanted_start records (option_and_then (wanted_at placed) (number_at run placed)) outcome e
  call_starts run records (ProbesMatching message awaited) outcome e = wanted_start records (option_and_then (wanted_at placed) (number_at run placed)) outcome e
  call_starts run records (StartsMatched request message) outcome e = wanted_start records (option_and_then (wanted_at placed) (number_at run placed)) outcome e
  call_starts run records (Cancels request) outcome e = wanted_start records (option_and_then (wanted_at placed) (number_at run placed)) outcome e
  call_starts run records (FreesRequest request) outcome e = wanted_start records (option_and_then (wanted_at placed) (number_at run placed)) outcome e
  call_starts run records (Collects collective comm root) outcome e = wanted_start records (option_and_then (wanted_at placed) (number_at run placed)) outcome e
  call_starts run records (StartsCollective request collective comm root) outcome e = wanted_start records (option_and_then (wanted_at placed) (number_at run placed)) outcome e
  call_starts run records (Duplicates comm) outcome e = wanted_start records (option_and_then (wanted_at placed) (number_at run placed)) outcome e
  call_starts run records (StartsDuplicate request comm) outcome e = wanted_start records (option_and_then (wanted_at placed) (number_at run placed)) outcome e
  call_starts run records (Splits comm colour key) outcome e = wanted_start records (option_and_then (wanted_at placed) (number_at run placed)) outcome e
  call_starts run records (Makes comm) outcome e = wanted_start records (option_and_then (wanted_at placed) (number_at run placed)) outcome e
  call_starts run records (MakesOfGroup group) outcome e = wanted_start records (option_and_then (wanted_at placed) (number_at run placed)) outcome e
  call_starts run records (FreesComm comm) outcome e = wanted_start records (option_and_then (wanted_at placed) (number_at run placed)) outcome e
  call_starts run records Nothing outcome e = wanted_start records (option_and_then (wanted_at placed) (number_at run placed)) outcome e
  call_starts run records Finalizes outcome e = wanted_start records (option_and_then (wanted_at placed) (number_at run placed)) outcome e
  call_starts run records Exits outcome e = wanted_start records (option_and_then (wanted_at placed) (number_at run placed)) outcome e
  call_starts run records Aborts outcome e = wanted_start records (option_and_then (wanted_at placed) (number_at run placed)) outcome e
  call_starts run records Fills outcome e = wanted_start records (option_and_then (wanted_at placed) (number_at run placed)) outcome e
  call_starts run records Stops outcome e = wanted_start records (option_and_then (wanted_at placed) (number_at run placed)) outcome e
  call_starts run records Cuts outcome e = wanted_start records (option_and_then (wanted_at placed) (number_at run placed)) outcome e

pub if_some : (b : Bool) (it : Option Outcome) (outcome : Outcome) → (if b then it else None) ≡ Some outcome → it ≡ Some outcome
if_some true it outcome e = e
if_some false it outcome e = absurd (cc (e))

is_sunk : (run : Run) (choice : Choice) (placed : Placed) (records : List Written) (outcome : Outcome) → outcome_by_sinks run choice records placed ≡ Some outcome → IsSunk outcome
is_sunk run choice placed records outcome e =
    call_starts choice placed run records placed.called outcome (if_some (is_sound run placed) (by_call run choice records placed placed.called) outcome e)

-- nothing more is waited for right before the end
pub late_sunk : (run : Run) (choice : Choice) (placed : Placed) (progress : Progress) (outcome : Outcome) → outcome_by_sinks run choice progress.records placed ≡ Some outcome
    → (after_steps progress placed.line (steps_in outcome)).late ≡ progress.late
late_sunk run choice placed progress outcome e =
    late_starts progress placed.line (steps_in outcome) (starts_in outcome (is_sunk run choice placed progress.records outcome e))

-- ---- A list that ends before its end is left open ----

plain_open : (run : Run) (choice : Choice) (placed : Placed) (found : Option Why) (steps : List Step) (end : Call) (why : Why)
    → outcome_by run choice placed found ≡ Ends steps end (Some why) → end ≡ Open
plain_open run choice placed (Some other) steps end why e = cc (e)
plain_open run choice placed None steps end why e = by_end (is_end placed.called) e
  where
    by_end : (b : Bool) → (if b then Ends (WaitsForLate ∷ []) Finalize None else GoesOn (steps_of run choice placed)) ≡ Ends steps end (Some why) → end ≡ Open
    by_end true f = absurd (cc (f))
    by_end false f = absurd (cc (f))

open_in : (steps : List Step) (end : Call) (why : Option Why) (outcome : Outcome) → outcome ≡ Ends steps end why → IsSunk outcome → end ≡ Open
open_in steps end why (GoesOn others) e is = absurd (cc (e))
open_in steps end why (Ends others one found) e is = let same : one ≡ end = cc (e) in sym same ∙ is.1

open_by : (run : Run) (which : TestsChoice) (calls : Calls) (u : Unreported) (records : List Written) (placed : Placed) (steps : List Step) (end : Call) (why : Why)
    → outcome_in run (record { tests = which; calls = calls; unreported = u }) records placed ≡ Ends steps end (Some why) → end ≡ Open
open_by run which calls unreported.Ends records placed steps end why e =
    plain_open run (record { tests = which; calls = calls; unreported = unreported.Ends }) placed (why_at run placed) steps end why e
open_by run which calls unreported.Sinks records placed steps end why e = by_sinks (outcome_by_sinks run choice records placed) refl e
  where
    choice : Choice
    choice = record { tests = which; calls = calls; unreported = unreported.Sinks }

    by_sinks : (it : Option Outcome) → outcome_by_sinks run choice records placed ≡ it → unwrap_or it (outcome_of run choice placed) ≡ Ends steps end (Some why) → end ≡ Open
    by_sinks None is f = plain_open run choice placed (why_at run placed) steps end why f
    by_sinks (Some outcome) is f = open_in steps end (Some why) outcome f (is_sunk run choice placed records outcome is)

pub ends_open : (run : Run) (choice : Choice) (records : List Written) (placed : Placed) (steps : List Step) (end : Call) (why : Why)
    → outcome_in run choice records placed ≡ Ends steps end (Some why) → end ≡ Open
ends_open run choice records placed steps end why e = open_by run choice.tests choice.calls choice.unreported records placed steps end why e
