-- What a call does by the sinks before it, by which it is.
use Rattle.std.proofs.Common.{◌≡◌, refl, sym, ◌∙◌, ap, subst, ℕ, Bool, true, false, Option, Some, None, Result, Ok, List}
use Rattle.std.specs.Prelude.{is_some, option_map, unwrap_or, ◌&&◌, if◌then◌else◌}
use Rattle.mpicall.specs.declared.call.Call.TheVariants.{Open}
use Rattle.closing.specs.Called.{Awaited, Called, Sent}
use Rattle.closing.specs.Entries.{Run, Placed}
use Rattle.closing.specs.Entry.{Choice}
use Rattle.closing.specs.Fit.{AllFit, steps_in}
use Rattle.closing.specs.Pending.{unknown}
use Rattle.closing.specs.Reported.{done_of, message_of}
use Rattle.closing.specs.Recording.{ended, outcome_in, outcome_of}
use Rattle.closing.specs.Sinks.{Outcome, outcome_by_sinks}
use Rattle.closing.specs.Steps.{Progress, Written}
use Rattle.closing.specs.inner.Lists.{Handed, Stands}
use Rattle.closing.specs.inner.Sunk.{TakesSunk, idle_on, pending_on, starts_exchange_sunk, starts_receive_sunk, steps_if, sunk_on}
use Rattle.closing.specs.inner.Taken.{IsBack, IsKept, IsTakenBy, chooses_none, pending_if, sinks_stand}
use Rattle.closing.specs.inner.Views.{called_view}
use Rattle.closing.specs.inner.Walks.{Spot, spot_of}
use Rattle.journals.specs.Known.{has_report}
use Rattle.journals.specs.declared.word.ReportWord.TheVariants as report
use Rattle.closing.specs.declared.called.Called.{Called as CalledCode}
use Rattle.closing.specs.declared.called.Called.TheVariants as code
use Rattle.closing.specs.declared.choice.Calls.{Calls}
use Rattle.closing.specs.declared.choice.Tests.{Tests}
use Rattle.closing.specs.declared.choice.Unreported.{Unreported}
use Rattle.closing.specs.declared.choice.Unreported.TheVariants as unreported
use Rattle.closing.specs.declared.stop.Stop.{Stop}
use Rattle.closing.specs.declared.walk.Walk.{Walk}
use Rattle.closing.specs.declared.why.Why.TheVariants.{NeverCameBack}
use Rattle.closing.proofs.SunkOutcomes.{sunk_is}
use Rattle.closing.proofs.SunkPending.{taken_by}
use Rattle.closing.proofs.SunkWaits.{left_alone}

abbrev pub TakesCalled : Spot → Bool → Called → Result Bool Stop → Walk → Walk → Type 0
TakesCalled spot came_back it result old new =
    TakesSunk spot.line came_back (λ records. sunk_on spot came_back records it) (pending_on spot it) (idle_on spot came_back it) result old new

pub called_as : (spot : Spot) (came_back : Bool) (it call : CalledCode) (result : Result Bool Stop) (old new : Walk) → it ≡ call
    → TakesCalled spot came_back (called_view call) result old new → TakesCalled spot came_back (called_view it) result old new
called_as spot came_back it call result old new e takes = subst (λ v. TakesCalled spot came_back (called_view v) result old new) (sym e) takes

-- what is awaited instead
pub sunk_receive_as : (spot : Spot) (came_back : Bool) (own : ℕ) (one other : Awaited) (result : Result Bool Stop) (old new : Walk) → one ≡ other
    → TakesSunk spot.line came_back (starts_receive_sunk spot own one (message_of one (done_of spot.lines own))) (λ progress. unknown) (λ progress. unknown) result old new
    → TakesSunk spot.line came_back (starts_receive_sunk spot own other (message_of other (done_of spot.lines own))) (λ progress. unknown) (λ progress. unknown) result old new
sunk_receive_as spot came_back own one other result old new e takes =
    subst (λ it. TakesSunk spot.line came_back (starts_receive_sunk spot own it (message_of it (done_of spot.lines own))) (λ progress. unknown) (λ progress. unknown) result old new) e takes

pub sunk_exchange_as : (spot : Spot) (came_back : Bool) (own received : ℕ) (sent : Sent) (one other : Awaited) (result : Result Bool Stop) (old new : Walk) → one ≡ other
    → TakesSunk spot.line came_back (starts_exchange_sunk spot own received sent one (message_of one (done_of spot.lines received))) (λ progress. unknown) (λ progress. unknown) result old new
    → TakesSunk spot.line came_back (starts_exchange_sunk spot own received sent other (message_of other (done_of spot.lines received))) (λ progress. unknown) (λ progress. unknown) result old new
sunk_exchange_as spot came_back own received sent one other result old new e takes =
    subst (λ it. TakesSunk spot.line came_back (starts_exchange_sunk spot own received sent it (message_of it (done_of spot.lines received))) (λ progress. unknown) (λ progress. unknown) result old new) e takes

-- a call that neither receives, probes nor waits
pub record IsOther (spot : Spot) (came_back : Bool) (it : Called) : Type 0 where
  pub none : (records : List Written) → sunk_on spot came_back records it ≡ None
  pub idle : (progress : Progress) → idle_on spot came_back it progress ≡ unknown

pub others_are : (spot : Spot) (came_back : Bool) (it : CalledCode)
    → ((awaited : _) → it ≡ code.Receives awaited → ⊥) → ((request awaited : _) → it ≡ code.StartsReceive request awaited → ⊥)
    → ((sent awaited : _) → it ≡ code.Exchanges sent awaited → ⊥) → ((request received sent awaited : _) → it ≡ code.StartsExchange request received sent awaited → ⊥)
    → ((awaited : _) → it ≡ code.Probes awaited → ⊥) → ((message awaited : _) → it ≡ code.ProbesMatching message awaited → ⊥)
    → ((message : _) → it ≡ code.ReceivesMatched message → ⊥) → ((fields : _) → it ≡ code.Waits fields → ⊥) → ((fields : _) → it ≡ code.Tests fields → ⊥)
    → ((fields : _) → it ≡ code.WaitsAny fields → ⊥) → ((fields : _) → it ≡ code.WaitsSome fields → ⊥) → IsOther spot came_back (called_view it)
others_are spot came_back (code.Receives w) a b c d e f g h i j k = absurd (a w refl)
others_are spot came_back (code.StartsReceive r w) a b c d e f g h i j k = absurd (b r w refl)
others_are spot came_back (code.Exchanges s w) a b c d e f g h i j k = absurd (c s w refl)
others_are spot came_back (code.StartsExchange r q s w) a b c d e f g h i j k = absurd (d r q s w refl)
others_are spot came_back (code.Probes w) a b c d e f g h i j k = absurd (e w refl)
others_are spot came_back (code.ProbesMatching q w) a b c d e f g h i j k = absurd (f q w refl)
others_are spot came_back (code.ReceivesMatched m) a b c d e f g h i j k = absurd (g m refl)
others_are spot came_back (code.Waits fields) a b c d e f g h i j k = absurd (h fields refl)
others_are spot came_back (code.Tests fields) a b c d e f g h i j k = absurd (i fields refl)
others_are spot came_back (code.WaitsAny fields) a b c d e f g h i j k = absurd (j fields refl)
others_are spot came_back (code.WaitsSome fields) a b c d e f g h i j k = absurd (k fields refl)
others_are spot came_back _ a b c d e f g h i j k = record { none = λ records. refl; idle = λ progress. refl }

pub others_alone : (spot : Spot) (came_back : Bool) (it : Called) (walk : Walk) → IsOther spot came_back it → TakesCalled spot came_back it (Ok false) walk walk
others_alone spot came_back it walk other = λ handed progress stands kept fits.
    left_alone spot.line came_back (sunk_on spot came_back progress.records it) (pending_on spot it progress) (idle_on spot came_back it progress) handed progress walk
    (other.none progress.records) (other.idle progress) stands kept

-- ---- By the choice ----

in_sinks : (run : Run) (tests : Tests) (calls : Calls) (it : Unreported) (records : List Written) (placed : Placed) → it ≡ unreported.Sinks
    → outcome_in run (record { tests = tests; calls = calls; unreported = it }) records placed
    ≡ unwrap_or (outcome_by_sinks run (record { tests = tests; calls = calls; unreported = it }) records placed) (outcome_of run (record { tests = tests; calls = calls; unreported = it }) placed)
in_sinks run tests calls unreported.Ends records placed e = cc
in_sinks run tests calls unreported.Sinks records placed e = refl

fits_if : (progress : Progress) (line : ℕ) (found : Option Outcome) (other : Outcome) → AllFit progress line (steps_in (unwrap_or found other)) → AllFit progress line (steps_if found)
fits_if progress line None other fits = tt
fits_if progress line (Some outcome) other fits = fits

pub fits_sunk : (run : Run) (choice : Choice) (placed : Placed) (progress : Progress) → choice.unreported ≡ unreported.Sinks → has_report report.Failed placed.entry ≡ false
    → AllFit progress placed.line (steps_in (outcome_in run choice progress.records placed))
    → AllFit progress placed.line (steps_if (sunk_on (spot_of run choice placed) placed.came_back progress.records placed.called))
fits_sunk run choice placed progress sinks fine fits =
    subst (λ o. AllFit progress placed.line (steps_if o)) (sunk_is run choice progress.records placed fine)
    (fits_if progress placed.line (outcome_by_sinks run choice progress.records placed) (outcome_of run choice placed)
    (subst (λ o. AllFit progress placed.line (steps_in o)) (in_sinks run choice.tests choice.calls choice.unreported progress.records placed sinks) fits))

-- without sinks
pub never_taken : (run : Run) (choice : Choice) (placed : Placed) (handed : Handed) (progress : Progress) (walk : Walk) → choice.unreported ≡ unreported.Ends
    → Stands handed progress walk.list → IsKept progress.records walk → IsTakenBy run choice placed (Ok false) handed progress walk
never_taken run choice placed handed progress walk ends stands kept = record {
  none = λ sinks. let apart : unreported.Ends ≡ unreported.Sinks = sym ends ∙ sinks in cc;
  stands = stands;
  sinks = kept.sinks;
  pending = kept.pending ∙ sym (ap (λ (u : Unreported). if sinks_stand u && chooses_none placed placed.called
      then pending_if run placed (ended progress Open placed.line (Some NeverCameBack)) NeverCameBack else unknown) ends);
  left_out = kept.left_out;
}

-- ---- An entry ----

pub chose_back : {A B : Type 0} (f : A → B) (o : Option A) (came_back there : Bool) → there ≡ came_back → ((it : A) → o ≡ Some it → there ≡ true)
    → is_some (option_map f o) ≡ true → came_back ≡ true
chose_back f None came_back there e back h = cc
chose_back f (Some it) came_back there e back h = sym e ∙ back it refl

pub sunk_taken : (run : Run) (choice : Choice) (placed : Placed) (handed : Handed) (progress : Progress) (it : Called) (came_back : Bool) (result : Result Bool Stop) (old new : Walk)
    → placed.called ≡ it → placed.came_back ≡ came_back → IsBack placed → choice.unreported ≡ unreported.Sinks → has_report report.Failed placed.entry ≡ false
    → AllFit progress placed.line (steps_in (outcome_in run choice progress.records placed)) → Stands handed progress old.list → IsKept progress.records old
    → TakesCalled (spot_of run choice placed) came_back it result old new → IsTakenBy run choice placed result handed progress new
sunk_taken run choice placed handed progress it came_back result old new ec eb back sinks fine fits stands kept takes =
    let spot = spot_of run choice placed in
    let same : TakesCalled spot placed.came_back placed.called result old new =
    subst (λ v. TakesCalled spot placed.came_back v result old new) (sym ec) (subst (λ b. TakesCalled spot b it result old new) (sym eb) takes) in
    taken_by run choice placed handed progress new back sinks fine result (same handed progress stands kept (fits_sunk run choice placed progress sinks fine fits))
