-- The list of a rank after one more entry: it goes on, or has ended.
use Rattle.std.proofs.Common.{◌≡◌, ◌∙◌, refl, sym, ap, subst, arith, ℕ, ◌<◌, ◌≤◌, Bool, true, false, List, [], ◌∷◌, ◌++◌, length, Option, Some, None, Ok, Err}
use Rattle.std.proofs.lemmas.List.{append-nil}
use Rattle.mpicall.specs.declared.call.Call.{Call}
use Rattle.mpicall.specs.declared.call.Call.TheVariants.{Finalize, Open}
use Rattle.closing.specs.Entries.{Run, Placed}
use Rattle.closing.specs.Entry.{Choice}
use Rattle.closing.specs.Steps.{Written, Progress, Step, after_steps}
use Rattle.closing.specs.Recording.{Listed, cut, ended, go_on, list_from, most_records, outcome_in}
use Rattle.closing.specs.Sinks.{Outcome, GoesOn, Ends}
use Rattle.closing.specs.Fit.{EntriesFit, FitsOn, TestsFit, steps_in}
use Rattle.closing.specs.inner.Lists.{Handed, ComesTo, IsCut, Stands}
use Rattle.closing.specs.inner.SoFar.{AreOfLine, Entered}
use Rattle.closing.specs.inner.Walked.{EndsAt}
use Rattle.closing.specs.declared.list.List.{List as ListCode}
use Rattle.closing.specs.declared.stop.Stop.TheVariants.{Left}
use Rattle.closing.specs.declared.why.Why.{Why}
use Rattle.closing.specs.declared.why.Why.TheVariants.{NeverCameBack, NeverReported, Failed, NoNumber, TooLong, CannotBe, Stopped, Aborted, Full, Cut, NoJournal, NotJudged}
use Rattle.closing.proofs.LineLemmas.{IsEnded, calls_cut, calls_ended, of_line}
use Rattle.closing.proofs.PartLemmas.{cut_short}
use Rattle.closing.proofs.SinkOutcomes.{ends_open}
use Rattle.closing.proofs.WalkingLemmas.{list_begins, list_goes_on}

-- ---- The list goes on ----

-- it came so far by an entry, with others left
pub record CameOn (run : Run) (choice : Choice) (others : List Placed) (whole : Listed) (handed : Handed) (line before : ℕ) (steps : List Step) (old : Progress) (it : ListCode) : Type 0 where
  pub stands : Stands handed (after_steps old line steps) it
  pub list : list_from run choice (after_steps old line steps) others ≡ whole
  pub fit : EntriesFit run choice (after_steps old line steps) others
  pub tests : TestsFit run choice (after_steps old line steps) others
  pub lines : AreOfLine line before (after_steps old line steps).records

module _ (run : Run) (choice : Choice) (placed : Placed) (others : List Placed) (whole : Listed) (handed : Handed) (before : ℕ) (progress : Progress) (it : ListCode) where
  abbrev pub HasSteps : Outcome → Type 0
  HasSteps outcome = (steps : List Step) × ((outcome ≡ GoesOn steps) × CameOn run choice others whole handed placed.line before steps progress it)

  on_by : (outcome : Outcome) → outcome_in run choice progress.records placed ≡ outcome → list_from run choice progress (placed ∷ others) ≡ whole
      → FitsOn progress placed.line outcome (λ after. EntriesFit run choice after others)
      → FitsOn progress placed.line outcome (λ after. TestsFit run choice after others) → length progress.records ≤ before
      → Entered (Ok false) outcome handed progress placed.line it → HasSteps outcome
  on_by (GoesOn steps) e list fit tests count entered = (
    steps,
    (
      refl,
      record {
        stands = entered;
        list = sym (list_goes_on run choice progress placed others steps e) ∙ list;
        fit = fit;
        tests = tests;
        lines = of_line placed.line before progress steps count;
      },
    ),
  )
  on_by (Ends steps end why) e list fit tests count entered = absurd entered

  -- after an entry with which the list goes on
  pub entered_on : list_from run choice progress (placed ∷ others) ≡ whole → EntriesFit run choice progress (placed ∷ others) → TestsFit run choice progress (placed ∷ others) → length progress.records ≤ before
      → Entered (Ok false) (outcome_in run choice progress.records placed) handed progress placed.line it → HasSteps (outcome_in run choice progress.records placed)
  entered_on list fit tests count entered = on_by (outcome_in run choice progress.records placed) refl list fit.1 tests.1 count entered

  -- ---- The list ends ----

  ends_here : (steps : List Step) (end : Call) (why : Option Why) → outcome_in run choice progress.records placed ≡ Ends steps end why → list_from run choice progress (placed ∷ others) ≡ whole
      → ended (after_steps progress placed.line steps) end placed.line why ≡ whole
  ends_here steps end why e list =
      sym (ap (λ outcome. go_on progress placed.line outcome (λ after. list_from run choice after others)) e) ∙ list

  few_of : (q : Progress) → Stands handed q it → length q.records < most_records
  few_of q stands = omega (arith, stands.count, stands.short)

  stands_ended : (steps : List Step) (end : Call) (why : Option Why) → outcome_in run choice progress.records placed ≡ Ends steps end why → list_from run choice progress (placed ∷ others) ≡ whole
      → length progress.records ≤ before → Stands handed (after_steps progress placed.line steps) it
      → IsEnded (cut whole) handed it end before placed.line why
  stands_ended steps end why e list count stands =
      let q = after_steps progress placed.line steps in
      subst (λ (all : Listed). IsEnded (cut all) handed it end before placed.line why) (ends_here steps end why e list)
      (calls_ended q handed it end before placed.line why (few_of q stands) stands.records stands.places (of_line placed.line before progress steps count))

  end_by : (outcome : Outcome) → outcome_in run choice progress.records placed ≡ outcome → list_from run choice progress (placed ∷ others) ≡ whole → length progress.records ≤ before
      → Entered (Ok true) outcome handed progress placed.line it → IsEnded (cut whole) handed it Finalize before placed.line None
  end_by (GoesOn steps) e list count entered = absurd entered
  end_by (Ends steps end why) e list count entered =
      let same : outcome_in run choice progress.records placed ≡ Ends steps Finalize None = e ∙ ap (λ x. Ends steps x why) entered.0 ∙ ap (λ x. Ends steps Finalize x) entered.1.0 in
      stands_ended steps Finalize None same list count entered.1.1

  -- after the rank's last call
  pub entered_end : list_from run choice progress (placed ∷ others) ≡ whole → length progress.records ≤ before
      → Entered (Ok true) (outcome_in run choice progress.records placed) handed progress placed.line it → IsEnded (cut whole) handed it Finalize before placed.line None
  entered_end list count entered = end_by (outcome_in run choice progress.records placed) refl list count entered

  -- ---- The list is left ----

  left_open : (steps : List Step) (end : Call) (why : Why) → outcome_in run choice progress.records placed ≡ Ends steps end (Some why) → end ≡ Open
  left_open steps end why e = ends_open run choice progress.records placed steps end why e

  left_stands : (steps : List Step) (end : Call) (found : Option Why) (why : Why) → outcome_in run choice progress.records placed ≡ Ends steps end found → list_from run choice progress (placed ∷ others) ≡ whole
      → length progress.records ≤ before → (found ≡ Some why) × Stands handed (after_steps progress placed.line steps) it
      → IsEnded (cut whole) handed it Open before placed.line (Some why)
  left_stands steps end found why e list count has =
      let why_is : outcome_in run choice progress.records placed ≡ Ends steps end (Some why) = e ∙ ap (λ x. Ends steps end x) has.0 in
      let end_is : end ≡ Open = left_open steps end why why_is in
      stands_ended steps Open (Some why) (why_is ∙ ap (λ x. Ends steps x (Some why)) end_is) list count has.1

  left_cut : (steps : List Step) (more : List Written) → whole.records ≡ (after_steps progress placed.line steps).records ++ more → length progress.records ≤ before
      → IsCut handed (after_steps progress placed.line steps) placed.line it
      → IsEnded (cut whole) handed it Open before placed.line (Some TooLong)
  left_cut steps more e count is =
      calls_cut whole (after_steps progress placed.line steps) more handed it before placed.line e is (of_line placed.line before progress steps count)

  on_left : (steps : List Step) (why : Why) → outcome_in run choice progress.records placed ≡ GoesOn steps → list_from run choice progress (placed ∷ others) ≡ whole → length progress.records ≤ before
      → ComesTo {A = Bool} (Err (Left why)) handed (after_steps progress placed.line steps) placed.line it
      → IsEnded (cut whole) handed it Open before placed.line (Some why)
  on_left steps TooLong e list count is =
      let begun = list_begins run choice (after_steps progress placed.line steps) others in
      let whole_is : list_from run choice (after_steps progress placed.line steps) others ≡ whole = sym (list_goes_on run choice progress placed others steps e) ∙ list in
      left_cut steps begun.0 (ap (λ all. all.records) (sym whole_is) ∙ begun.1) count is
  on_left steps NeverCameBack e list count is = absurd is
  on_left steps NeverReported e list count is = absurd is
  on_left steps Failed e list count is = absurd is
  on_left steps NoNumber e list count is = absurd is
  on_left steps CannotBe e list count is = absurd is
  on_left steps Stopped e list count is = absurd is
  on_left steps Aborted e list count is = absurd is
  on_left steps Full e list count is = absurd is
  on_left steps Cut e list count is = absurd is
  on_left steps NotJudged e list count is = absurd is
  on_left steps NoJournal e list count is = absurd is

  at_left : (steps : List Step) (end : Call) (found : Option Why) (why : Why) → outcome_in run choice progress.records placed ≡ Ends steps end found → list_from run choice progress (placed ∷ others) ≡ whole
      → length progress.records ≤ before → EndsAt {A = Bool} (Err (Left why)) handed (after_steps progress placed.line steps) placed.line found it
      → IsEnded (cut whole) handed it Open before placed.line (Some why)
  at_left steps end found TooLong e list count is =
      left_cut steps [] (ap (λ all. all.records) (sym (ends_here steps end found e list)) ∙ sym (append-nil (after_steps progress placed.line steps).records)) count is
  at_left steps end found NeverCameBack e list count is = left_stands steps end found NeverCameBack e list count is
  at_left steps end found NeverReported e list count is = left_stands steps end found NeverReported e list count is
  at_left steps end found Failed e list count is = left_stands steps end found Failed e list count is
  at_left steps end found NoNumber e list count is = left_stands steps end found NoNumber e list count is
  at_left steps end found CannotBe e list count is = left_stands steps end found CannotBe e list count is
  at_left steps end found Stopped e list count is = left_stands steps end found Stopped e list count is
  at_left steps end found Aborted e list count is = left_stands steps end found Aborted e list count is
  at_left steps end found Full e list count is = left_stands steps end found Full e list count is
  at_left steps end found Cut e list count is = left_stands steps end found Cut e list count is
  at_left steps end found NotJudged e list count is = left_stands steps end found NotJudged e list count is
  at_left steps end found NoJournal e list count is = left_stands steps end found NoJournal e list count is

  left_by : (outcome : Outcome) (why : Why) → outcome_in run choice progress.records placed ≡ outcome → list_from run choice progress (placed ∷ others) ≡ whole → length progress.records ≤ before
      → Entered (Err (Left why)) outcome handed progress placed.line it → IsEnded (cut whole) handed it Open before placed.line (Some why)
  left_by (GoesOn steps) why e list count entered = on_left steps why e list count entered
  left_by (Ends steps end found) why e list count entered = at_left steps end found why e list count entered

  -- after an entry at which the list is left
  pub entered_left : (why : Why) → list_from run choice progress (placed ∷ others) ≡ whole → length progress.records ≤ before
      → Entered (Err (Left why)) (outcome_in run choice progress.records placed) handed progress placed.line it
      → IsEnded (cut whole) handed it Open before placed.line (Some why)
  entered_left why list count entered = left_by (outcome_in run choice progress.records placed) why refl list count entered

  -- ---- What the list is where it has ended ----

  end_as : (outcome : Outcome) → outcome_in run choice progress.records placed ≡ outcome → list_from run choice progress (placed ∷ others) ≡ whole
      → Entered (Ok true) outcome handed progress placed.line it
      → (steps : List Step) × ((outcome_in run choice progress.records placed ≡ Ends steps Finalize None)
      × (cut whole ≡ ended (after_steps progress placed.line steps) Finalize placed.line None))
  end_as (GoesOn steps) e list entered = absurd entered
  end_as (Ends steps end why) e list entered =
      let same : outcome_in run choice progress.records placed ≡ Ends steps Finalize None = e ∙ ap (λ x. Ends steps x why) entered.0 ∙ ap (λ x. Ends steps Finalize x) entered.1.0 in
      let q = after_steps progress placed.line steps in
      (steps, (same, ap cut (sym (ends_here steps Finalize None same list)) ∙ cut_short (ended q Finalize placed.line None) (few_of q entered.1.1)))

  -- after the rank's last call
  pub end_is : list_from run choice progress (placed ∷ others) ≡ whole → Entered (Ok true) (outcome_in run choice progress.records placed) handed progress placed.line it
      → (steps : List Step) × ((outcome_in run choice progress.records placed ≡ Ends steps Finalize None)
      × (cut whole ≡ ended (after_steps progress placed.line steps) Finalize placed.line None))
  end_is list entered = end_as (outcome_in run choice progress.records placed) refl list entered

  abbrev pub LeftAs : Why → Type 0
  LeftAs why =
      (steps : List Step) × ((outcome_in run choice progress.records placed ≡ Ends steps Open (Some why))
      × (cut whole ≡ ended (after_steps progress placed.line steps) Open placed.line (Some why)))

  left_as : (steps : List Step) (end : Call) (found : Option Why) (why : Why) → outcome_in run choice progress.records placed ≡ Ends steps end found
      → list_from run choice progress (placed ∷ others) ≡ whole → (found ≡ Some why) × Stands handed (after_steps progress placed.line steps) it → LeftAs why
  left_as steps end found why e list has =
      let why_is : outcome_in run choice progress.records placed ≡ Ends steps end (Some why) = e ∙ ap (λ x. Ends steps end x) has.0 in
      let same : outcome_in run choice progress.records placed ≡ Ends steps Open (Some why) = why_is ∙ ap (λ x. Ends steps x (Some why)) (left_open steps end why why_is) in
      let q = after_steps progress placed.line steps in
      (steps, (same, ap cut (sym (ends_here steps Open (Some why) same list)) ∙ cut_short (ended q Open placed.line (Some why)) (few_of q has.1)))

  none_comes : (steps : List Step) (why : Why) → (why ≡ TooLong → ⊥) → ComesTo {A = Bool} (Err (Left why)) handed (after_steps progress placed.line steps) placed.line it → ⊥
  none_comes steps TooLong short is = short refl
  none_comes steps NeverCameBack short is = is
  none_comes steps NeverReported short is = is
  none_comes steps Failed short is = is
  none_comes steps NoNumber short is = is
  none_comes steps CannotBe short is = is
  none_comes steps Stopped short is = is
  none_comes steps Aborted short is = is
  none_comes steps Full short is = is
  none_comes steps Cut short is = is
  none_comes steps NoJournal short is = is
  none_comes steps NotJudged short is = is

  both_at : (steps : List Step) (found : Option Why) (why : Why) → (why ≡ TooLong → ⊥) → EndsAt {A = Bool} (Err (Left why)) handed (after_steps progress placed.line steps) placed.line found it
      → (found ≡ Some why) × Stands handed (after_steps progress placed.line steps) it
  both_at steps found TooLong short is = absurd (short refl)
  both_at steps found NeverCameBack short is = is
  both_at steps found NeverReported short is = is
  both_at steps found Failed short is = is
  both_at steps found NoNumber short is = is
  both_at steps found CannotBe short is = is
  both_at steps found Stopped short is = is
  both_at steps found Aborted short is = is
  both_at steps found Full short is = is
  both_at steps found Cut short is = is
  both_at steps found NoJournal short is = is
  both_at steps found NotJudged short is = is

  -- after an entry at which it is left, not as too long
  left_is_by : (outcome : Outcome) (why : Why) → (why ≡ TooLong → ⊥) → outcome_in run choice progress.records placed ≡ outcome → list_from run choice progress (placed ∷ others) ≡ whole
      → Entered (Err (Left why)) outcome handed progress placed.line it → LeftAs why
  left_is_by (GoesOn steps) why short e list entered = absurd (none_comes steps why short entered)
  left_is_by (Ends steps end found) why short e list entered = left_as steps end found why e list (both_at steps found why short entered)

  pub left_is : (why : Why) → (why ≡ TooLong → ⊥) → list_from run choice progress (placed ∷ others) ≡ whole
      → Entered (Err (Left why)) (outcome_in run choice progress.records placed) handed progress placed.line it → LeftAs why
  left_is why short list entered = left_is_by (outcome_in run choice progress.records placed) why short refl list entered

  -- and as too long
  cut_is_by : (outcome : Outcome) → outcome_in run choice progress.records placed ≡ outcome → list_from run choice progress (placed ∷ others) ≡ whole
      → Entered (Err (Left TooLong)) outcome handed progress placed.line it
      → ((more : List Written) × (whole.records ≡ (after_steps progress placed.line (steps_in outcome)).records ++ more))
      × (most_records ≤ length (after_steps progress placed.line (steps_in outcome)).records)
  cut_is_by (GoesOn steps) e list entered =
      let begun = list_begins run choice (after_steps progress placed.line steps) others in
      let whole_is : list_from run choice (after_steps progress placed.line steps) others ≡ whole = sym (list_goes_on run choice progress placed others steps e) ∙ list in
      ((begun.0, ap (λ all. all.records) (sym whole_is) ∙ begun.1), entered.long)
  cut_is_by (Ends steps end found) e list entered =
      (([], ap (λ all. all.records) (sym (ends_here steps end found e list)) ∙ sym (append-nil (after_steps progress placed.line steps).records)), entered.long)

  pub long_is : list_from run choice progress (placed ∷ others) ≡ whole → Entered (Err (Left TooLong)) (outcome_in run choice progress.records placed) handed progress placed.line it
      → ((more : List Written) × (whole.records ≡ (after_steps progress placed.line (steps_in (outcome_in run choice progress.records placed))).records ++ more))
      × (most_records ≤ length (after_steps progress placed.line (steps_in (outcome_in run choice progress.records placed))).records)
  long_is list entered = cut_is_by (outcome_in run choice progress.records placed) refl list entered
