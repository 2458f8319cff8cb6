-- The list of a rank after an entry, by what the code asks of its call.
use Rattle.std.proofs.Common.{◌≡◌, refl, sym, ap, subst, ℕ, Bool, true, false, List, Option, Some, None, Ok, Err}
use Rattle.journals.specs.Known.{has_report}
use Rattle.journals.specs.declared.word.ReportWord.TheVariants as report
use Rattle.closing.specs.Called.{Called, Sends, StartsSend, Receives, StartsReceive, Exchanges, StartsExchange, Probes, ProbesMatching, ReceivesMatched, StartsMatched, Waits, Tests, WaitsAny, WaitsSome, Cancels, FreesRequest, Collects, StartsCollective, Duplicates, StartsDuplicate, Splits, Makes, MakesOfGroup, FreesComm, Nothing, Finalizes, Exits, Aborts, Fills, Stops, Cuts}
use Rattle.closing.specs.Entries.{Run, Placed, is_window}
use Rattle.closing.specs.Endings.{breaks_off}
use Rattle.closing.specs.Entry.{Choice}
use Rattle.closing.specs.Steps.{Id, Progress, WaitsForAll, WaitsForLate, after_step, after_steps}
use Rattle.closing.specs.Recording.{is_end, outcome_of}
use Rattle.closing.specs.Sinks.{Ends, GoesOn, Outcome}
use Rattle.closing.specs.inner.Lists.{Handed, ComesTo, Stands}
use Rattle.closing.specs.inner.SoFar.{Entered}
use Rattle.closing.specs.inner.Walked.{EndsAt, Follows}
use Rattle.closing.specs.inner.Walks.{ends}
use Rattle.closing.specs.declared.list.List.{List as ListCode}
use Rattle.closing.specs.declared.stop.Stop.{Stop}
use Rattle.closing.specs.declared.stop.Stop.TheVariants.{Left, Memory}
use Rattle.closing.specs.declared.why.Why.{Why}
use Rattle.closing.specs.declared.why.Why.TheVariants.{NeverCameBack, NeverReported, Failed, NoNumber, TooLong, CannotBe, Stopped, Aborted, Full, Cut, NoJournal, NotJudged}
use Rattle.closing.proofs.GrownLemmas.{same_records}
use Rattle.closing.proofs.OutcomeOfEntry.{broken_is, ended_is, failed_is, goes_on_past}
use Rattle.closing.proofs.StepsLemmas.{ends_cut, still_cut}

-- ---- What the rank does from here on isn't known ----

-- the reasons of such a call
abbrev pub IsBroken : Why → Type 0
IsBroken Stopped = Unit {0}
IsBroken Aborted = Unit {0}
IsBroken Full = Unit {0}
IsBroken Cut = Unit {0}
IsBroken why = ⊥

pub broken_why : (w : Bool) (it : Called) (why : Why) → breaks_off w it ≡ Some why → IsBroken why
broken_why w (Sends mode sent) why e = absurd (cc (e))
broken_why w (StartsSend request mode sent) why e = absurd (cc (e))
broken_why w (Receives awaited) why e = absurd (cc (e))
broken_why w (StartsReceive request awaited) why e = absurd (cc (e))
broken_why w (Exchanges sent awaited) why e = absurd (cc (e))
broken_why w (StartsExchange request received sent awaited) why e = absurd (cc (e))
broken_why w (Probes awaited) why e = absurd (cc (e))
broken_why w (ProbesMatching message awaited) why e = absurd (cc (e))
broken_why w (ReceivesMatched message) why e = absurd (cc (e))
broken_why w (StartsMatched request message) why e = absurd (cc (e))
broken_why w (Waits requests) why e = absurd (cc (e))
broken_why w (Tests requests) why e = absurd (cc (e))
broken_why w (WaitsAny requests) why e = absurd (cc (e))
broken_why w (WaitsSome requests) why e = absurd (cc (e))
broken_why w (Cancels request) why e = absurd (cc (e))
broken_why w (FreesRequest request) why e = absurd (cc (e))
broken_why w (Collects collective comm root) why e = absurd (cc (e))
broken_why w (StartsCollective request collective comm root) why e = absurd (cc (e))
broken_why w (Duplicates comm) why e = absurd (cc (e))
broken_why w (StartsDuplicate request comm) why e = absurd (cc (e))
broken_why w (Splits comm colour key) why e = absurd (cc (e))
broken_why w (Makes comm) why e = absurd (cc (e))
broken_why w (MakesOfGroup group) why e = absurd (cc (e))
broken_why w (FreesComm comm) why e = absurd (cc (e))
broken_why w Nothing why e = absurd (cc (e))
broken_why w Finalizes why e = absurd (cc (e))
broken_why w Exits why e = absurd (cc (e))
broken_why w Aborts why e = let is : Aborted ≡ why = cc (e) in subst (λ (one : Why). IsBroken one) is tt
broken_why w Fills why e = let is : Full ≡ why = cc (e) in subst (λ (one : Why). IsBroken one) is tt
broken_why w Stops why e = let is : Stopped ≡ why = cc (e) in subst (λ (one : Why). IsBroken one) is tt
broken_why true Cuts why e = absurd (cc (e))
broken_why false Cuts why e = let is : Cut ≡ why = cc (e) in subst (λ (one : Why). IsBroken one) is tt

pub not_long : (why : Why) → IsBroken why → why ≡ TooLong → ⊥
not_long why is long = subst (λ (one : Why). IsBroken one) long is

pub not_unknown : (why : Why) → IsBroken why → why ≡ NeverCameBack → ⊥
not_unknown why is never = subst (λ (one : Why). IsBroken one) never is

pub found_stands : (handed : Handed) (progress : Progress) (line : ℕ) (it : ListCode) (why : Why) → (why ≡ TooLong → ⊥) → Stands handed progress it
    → EndsAt {A = Bool} (Err (Left why)) handed progress line (Some why) it
found_stands handed progress line it NeverCameBack h stands = (refl, stands)
found_stands handed progress line it NeverReported h stands = (refl, stands)
found_stands handed progress line it Failed h stands = (refl, stands)
found_stands handed progress line it NoNumber h stands = (refl, stands)
found_stands handed progress line it CannotBe h stands = (refl, stands)
found_stands handed progress line it Stopped h stands = (refl, stands)
found_stands handed progress line it Aborted h stands = (refl, stands)
found_stands handed progress line it Full h stands = (refl, stands)
found_stands handed progress line it Cut h stands = (refl, stands)
found_stands handed progress line it NotJudged h stands = (refl, stands)
found_stands handed progress line it NoJournal h stands = (refl, stands)
found_stands handed progress line it TooLong h stands = absurd (h refl)

-- an entry that ends the list with nothing put
ends_entered : (outcome : Outcome) (why : Why) (handed : Handed) (progress : Progress) (line : ℕ) (it : ListCode) → outcome ≡ ends why → (why ≡ TooLong → ⊥)
    → Stands handed progress it → Entered (Err (Left why)) outcome handed progress line it
ends_entered outcome why handed progress line it e short stands =
    subst (λ (one : Outcome). Entered (Err (Left why)) one handed progress line it) (sym e) (found_stands handed progress line it why short stands)

pub breaks_entered : (run : Run) (choice : Choice) (placed : Placed) (why : Why) (handed : Handed) (progress : Progress) (it : ListCode) → breaks_off (is_window run) placed.called ≡ Some why
    → Stands handed progress it → Entered (Err (Left why)) (outcome_of run choice placed) handed progress placed.line it
breaks_entered run choice placed why handed progress it e stands =
    ends_entered (outcome_of run choice placed) why handed progress placed.line it (broken_is run choice placed why e) (not_long why (broken_why (is_window run) placed.called why e)) stands

-- ---- The call failed ----

pub none_of : (found : Option Why) → ((why : Why) → found ≡ Some why → ⊥) → found ≡ None
none_of None others = refl
none_of (Some why) others = absurd (others why refl)

-- one that neither breaks the list off nor ends the rank's calls
pub past_both : (w : Bool) (it : Called) → breaks_off w it ≡ None → is_end it ≡ false → goes_on_past it ≡ true
past_both w (Sends mode sent) e f = refl
past_both w (StartsSend request mode sent) e f = refl
past_both w (Receives awaited) e f = refl
past_both w (StartsReceive request awaited) e f = refl
past_both w (Exchanges sent awaited) e f = refl
past_both w (StartsExchange request received sent awaited) e f = refl
past_both w (Probes awaited) e f = refl
past_both w (ProbesMatching message awaited) e f = refl
past_both w (ReceivesMatched message) e f = refl
past_both w (StartsMatched request message) e f = refl
past_both w (Waits requests) e f = refl
past_both w (Tests requests) e f = refl
past_both w (WaitsAny requests) e f = refl
past_both w (WaitsSome requests) e f = refl
past_both w (Cancels request) e f = refl
past_both w (FreesRequest request) e f = refl
past_both w (Collects collective comm root) e f = refl
past_both w (StartsCollective request collective comm root) e f = refl
past_both w (Duplicates comm) e f = refl
past_both w (StartsDuplicate request comm) e f = refl
past_both w (Splits comm colour key) e f = refl
past_both w (Makes comm) e f = refl
past_both w (MakesOfGroup group) e f = refl
past_both w (FreesComm comm) e f = refl
past_both w Nothing e f = refl
past_both w Finalizes e f = cc (f)
past_both w Exits e f = cc (f)
past_both w Aborts e f = cc (e)
past_both w Fills e f = cc (e)
past_both w Stops e f = cc (e)
past_both w Cuts e f = cc (f)

pub failed_entered : (run : Run) (choice : Choice) (placed : Placed) (handed : Handed) (progress : Progress) (it : ListCode) → goes_on_past placed.called ≡ true
    → has_report report.Failed placed.entry ≡ true → Stands handed progress it
    → Entered (Err (Left Failed)) (outcome_of run choice placed) handed progress placed.line it
failed_entered run choice placed handed progress it past failed stands =
    ends_entered (outcome_of run choice placed) Failed handed progress placed.line it (failed_is run choice placed past failed) (λ long. cc (long)) stands

-- ---- The end of the rank's calls ----

late_same : (progress : Progress) (line : ℕ) (ids : List Id) → ids ≡ progress.late → after_step progress line (WaitsForAll ids) ≡ after_step progress line WaitsForLate
late_same progress line ids e = ap (λ (late : List Id). after_step progress line (WaitsForAll late)) e

-- after the waits for the sends that tests completed
pub end_entered : (run : Run) (choice : Choice) (placed : Placed) (handed : Handed) (progress : Progress) (ids : List Id) (it : ListCode) → breaks_off (is_window run) placed.called ≡ None → is_end placed.called ≡ true
    → has_report report.Failed placed.entry ≡ false → ids ≡ progress.late → Stands handed (after_step progress placed.line (WaitsForAll ids)) it
    → Entered (Ok true) (outcome_of run choice placed) handed progress placed.line it
end_entered run choice placed handed progress ids it broken e failed late stands =
    subst (λ (one : Outcome). Entered (Ok true) one handed progress placed.line it) (sym (ended_is run choice placed broken e failed))
    (refl, (refl, subst (λ (one : Progress). Stands handed one it) (late_same progress placed.line ids late) stands))

pub end_stops : (A : Type 0) (run : Run) (choice : Choice) (placed : Placed) (handed : Handed) (progress : Progress) (ids : List Id) (stop : Stop) (it : ListCode)
    → breaks_off (is_window run) placed.called ≡ None → is_end placed.called ≡ true → has_report report.Failed placed.entry ≡ false → ids ≡ progress.late
    → ComesTo {A = A} (Err stop) handed (after_step progress placed.line (WaitsForAll ids)) placed.line it
    → Entered (Err stop) (outcome_of run choice placed) handed progress placed.line it
end_stops A run choice placed handed progress ids stop it broken e failed late comes =
    let after = after_step progress placed.line WaitsForLate in
    subst (λ (one : Outcome). Entered (Err stop) one handed progress placed.line it) (sym (ended_is run choice placed broken e failed))
    (ends_cut A Bool stop handed after placed.line None it
    (subst (λ (one : Progress). ComesTo {A = A} (Err stop) handed one placed.line it) (late_same progress placed.line ids late) comes))

-- ---- Any other call ----

pub memory_entered : (outcome : Outcome) (handed : Handed) (progress : Progress) (line : ℕ) (it : ListCode) → Entered (Err Memory) outcome handed progress line it
memory_entered (GoesOn steps) handed progress line it = tt
memory_entered (Ends steps end why) handed progress line it = tt

ends_as : (A : Type 0) (stop : Stop) (handed : Handed) (progress : Progress) (line : ℕ) (why : Option Why) (it : ListCode)
    → EndsAt {A = A} (Err stop) handed progress line why it → EndsAt {A = Bool} (Err stop) handed progress line why it
ends_as A (Left TooLong) handed progress line why it is = is
ends_as A Memory handed progress line why it is = tt
ends_as A (Left NeverCameBack) handed progress line why it is = is
ends_as A (Left NeverReported) handed progress line why it is = is
ends_as A (Left Failed) handed progress line why it is = is
ends_as A (Left NoNumber) handed progress line why it is = is
ends_as A (Left CannotBe) handed progress line why it is = is
ends_as A (Left Stopped) handed progress line why it is = is
ends_as A (Left Aborted) handed progress line why it is = is
ends_as A (Left Full) handed progress line why it is = is
ends_as A (Left Cut) handed progress line why it is = is
ends_as A (Left NotJudged) handed progress line why it is = is
ends_as A (Left NoJournal) handed progress line why it is = is

-- it stops where its call does
pub taken_stops : (A : Type 0) (outcome : Outcome) (stop : Stop) (handed : Handed) (progress : Progress) (line : ℕ) (it : ListCode)
    → Follows {A = A} outcome (Err stop) handed progress line it → Entered (Err stop) outcome handed progress line it
taken_stops A (GoesOn steps) stop handed progress line it follows =
    let after = after_steps progress line steps in
    still_cut A Bool stop handed after after line it (same_records after) follows
taken_stops A (Ends steps end why) stop handed progress line it follows = ends_as A stop handed (after_steps progress line steps) line why it follows

-- it goes on where its call does
pub taken_goes : (A : Type 0) (done : A) (outcome : Outcome) (handed : Handed) (progress : Progress) (line : ℕ) (it : ListCode)
    → Follows {A = A} outcome (Ok done) handed progress line it → Entered (Ok false) outcome handed progress line it
taken_goes A done (GoesOn steps) handed progress line it follows = follows
taken_goes A done (Ends steps end why) handed progress line it follows = follows
