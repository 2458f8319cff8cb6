-- A request that no step of a list waits for stays active.
use Rattle.std.proofs.Common.{◌≡◌, ℕ, ◌==◌, Bool, true, false, Option, Some, None, is_some, if◌then◌else◌, List, [], ◌∷◌, refl, sym, ap, subst, ◌∙◌, inl, inr, eq-eqb, eqb-true}
use Rattle.std.specs.Prelude.{⊤}
use Rattle.std.proofs.lemmas.Bool.{cases_Bool, false≢true}
use Rattle.std.proofs.lemmas.Option.{none-some, same_Some}
use Rattle.mpicall.specs.declared.call.Call.{Call}
use Rattle.closing.specs.Steps.{Id, Own, Whole, ReceiveHalf, Sink, Progress, Step, Does, Starts, WaitsForAll, WaitsForOne, PutsOff, WaitsForLate, same_id, number_in, without, without_all, put_number, numbers_of, has_number, least_free, wait_one, after_step, after_steps}
use Rattle.lawful.proofs.RequestLemmas.{numbered, without_has, least_is_free}

-- ---- Numbers that no two have ----

abbrev pub Distinct : List (Id × ℕ) → Type 0
Distinct [] = ⊤
Distinct (one ∷ others) = (has_number others one.1 ≡ false) × Distinct others

none_without : (number : ℕ) (active : List (Id × ℕ)) (other : ℕ) → has_number active other ≡ false → has_number (without number active) other ≡ false
none_without number active other none = without_has number active other ∙ either (number == other) (has_number active other) none
  where
    either : (b c : Bool) → c ≡ false → (if b then false else c) ≡ false
    either true c none = refl
    either false c none = none

pub distinct_without : (number : ℕ) (active : List (Id × ℕ)) → Distinct active → Distinct (without number active)
distinct_without number [] all = tt
distinct_without number (first ∷ active) all =
    elim (cases_Bool (first.1 == number)) [
      | inl goes ↦ rw goes (distinct_without number active all.1)
      | inr stays ↦ rw stays (none_without number active first.1 all.0, distinct_without number active all.1)
    ]

distinct_all : (numbers : List ℕ) (active : List (Id × ℕ)) → Distinct active → Distinct (without_all numbers active)
distinct_all [] active all = all
distinct_all (number ∷ numbers) active all = distinct_all numbers (without number active) (distinct_without number active all)

same_own : (id : Id) (request : ℕ) → same_id id (Own request) ≡ true → id ≡ Own request
same_own (Own other) request h = ap (λ (n : ℕ). Own n) (eqb-true other request h)
same_own (Whole line) request h = absurd (false≢true h)
same_own (ReceiveHalf line) request h = absurd (false≢true h)
same_own (Sink own wanted is_known) request h = absurd (false≢true h)

other_way : (id : Id) (request : ℕ) → same_id (Own request) id ≡ true → same_id id (Own request) ≡ true
other_way (Own other) request h = eq-eqb other request (sym (eqb-true request other h))
other_way (Whole line) request h = absurd (false≢true h)
other_way (ReceiveHalf line) request h = absurd (false≢true h)
other_way (Sink own wanted is_known) request h = absurd (false≢true h)

-- the request with a number is the only one
one_has : (active : List (Id × ℕ)) (id : Id) (request number : ℕ) → Distinct active → number_in active (Own request) ≡ Some number → number_in active id ≡ Some number → same_id id (Own request) ≡ true
one_has [] id request number all own h = absurd (none-some number h)
one_has (first ∷ others) id request number all own h =
    elim (cases_Bool (same_id first.0 (Own request))) [
      | inl here ↦
          let is : first.1 ≡ number = same_Some first.1 number (rw here at own) in
          elim (cases_Bool (same_id first.0 id)) [
            | inl same ↦ other_way id request (subst (λ (i : Id). same_id i id ≡ true) (same_own first.0 request here) same)
            | inr apart ↦ absurd (false≢true (sym all.0 ∙ subst (λ (n : ℕ). has_number others n ≡ true) (sym is) (numbered others id number (rw apart at h))))
          ]
      | inr there ↦
          elim (cases_Bool (same_id first.0 id)) [
            | inl same ↦
                let is : first.1 ≡ number = same_Some first.1 number (rw same at h) in
                absurd (false≢true (sym all.0 ∙ subst (λ (n : ℕ). has_number others n ≡ true) (sym is) (numbered others (Own request) number (rw there at own))))
            | inr apart ↦ one_has others id request number all.1 (rw there at own) (rw apart at h)
          ]
    ]

kept_one : (active : List (Id × ℕ)) (id : Id) (gone number : ℕ) → number_in active id ≡ Some number → (number == gone) ≡ false → number_in (without gone active) id ≡ Some number
kept_one [] id gone number h apart = absurd (none-some number h)
kept_one (first ∷ others) id gone number h apart =
    elim (cases_Bool (same_id first.0 id)) [
      | inl here ↦
          let is : first.1 ≡ number = same_Some first.1 number (rw here at h) in
          let stays : (first.1 == gone) ≡ false = subst (λ (n : ℕ). (n == gone) ≡ false) (sym is) apart in
          rw (stays, here) (ap (λ (n : ℕ). Some n) is)
      | inr there ↦
          let rest = kept_one others id gone number (rw there at h) apart in
          elim (cases_Bool (first.1 == gone)) [
            | inl goes ↦ rw goes rest
            | inr stays ↦ rw (stays, there) rest
          ]
    ]

-- ---- Waits for others ----

abbrev pub NotIn : ℕ → List Id → Type 0
NotIn request [] = ⊤
NotIn request (id ∷ ids) = (same_id id (Own request) ≡ false) × NotIn request ids

apart_number : (active : List (Id × ℕ)) (id : Id) (request number other : ℕ) → Distinct active → number_in active (Own request) ≡ Some number → number_in active id ≡ Some other → same_id id (Own request) ≡ false → (number == other) ≡ false
apart_number active id request number other all own h differs =
    elim (cases_Bool (number == other)) [
      | inl same ↦ absurd (false≢true (sym differs ∙ one_has active id request number all own (h ∙ ap (λ (n : ℕ). Some n) (sym (eqb-true number other same)))))
      | inr apart ↦ apart
    ]

kept_all : (active : List (Id × ℕ)) (ids : List Id) (request number : ℕ) → Distinct active → number_in active (Own request) ≡ Some number → NotIn request ids → number_in (without_all (numbers_of active ids) active) (Own request) ≡ Some number
kept_all active [] request number all own none = own
kept_all active (id ∷ ids) request number all own none =
    by_number (number_in active id) refl
    (λ left distinct left_own. kept_all left ids request number distinct left_own none.1)
  where
    by_number : (o : Option ℕ) → number_in active id ≡ o → ((left : List (Id × ℕ)) → Distinct left → number_in left (Own request) ≡ Some number → number_in (without_all (numbers_of left ids) left) (Own request) ≡ Some number) → number_in (without_all (put_number o active (λ left. numbers_of left ids)) active) (Own request) ≡ Some number
    by_number None h rest = rest active all own
    by_number (Some other) h rest =
        rest (without other active) (distinct_without other active all)
        (kept_one active (Own request) other number own (apart_number active id request number other all own h none.0))

-- ---- Steps ----

abbrev pub IsActive : ℕ → Progress → Type 0
IsActive request progress = is_some (number_in progress.active (Own request)) ≡ true

abbrev pub Keeps : ℕ → Step → Type 0
Keeps request (WaitsForAll ids) = NotIn request ids
Keeps request (WaitsForOne id ids) = same_id id (Own request) ≡ false
Keeps request WaitsForLate = ⊥
Keeps request step = ⊤

abbrev pub AllSteps : (Step → Type 0) → List Step → Type 0
AllSteps S [] = ⊤
AllSteps S (step ∷ steps) = S step × AllSteps S steps

the_number : (o : Option ℕ) → is_some o ≡ true → (number : ℕ) × (o ≡ Some number)
the_number None h = absurd (false≢true h)
the_number (Some number) h = (number, refl)

some_is : (o : Option ℕ) (number : ℕ) → o ≡ Some number → is_some o ≡ true
some_is o number h = ap is_some h

one_distinct : (progress : Progress) (line : ℕ) (o : Option ℕ) (numbers : List ℕ) → Distinct progress.active → Distinct (wait_one progress line o numbers).active
one_distinct progress line None numbers all = all
one_distinct progress line (Some number) numbers all = distinct_without number progress.active all

pub step_distinct : (progress : Progress) (line : ℕ) (step : Step) → Distinct progress.active → Distinct (after_step progress line step).active
step_distinct progress line (Does call) all = all
step_distinct progress line (Starts id call) all = (least_is_free progress.active, all)
step_distinct progress line (WaitsForAll ids) all = distinct_all (numbers_of progress.active ids) progress.active all
step_distinct progress line (WaitsForOne id ids) all = one_distinct progress line (number_in progress.active id) _ all
step_distinct progress line (PutsOff ids) all = all
step_distinct progress line WaitsForLate all = distinct_all (numbers_of progress.active progress.late) progress.active all

pub steps_distinct : (progress : Progress) (line : ℕ) (steps : List Step) → Distinct progress.active → Distinct (after_steps progress line steps).active
steps_distinct progress line [] all = all
steps_distinct progress line (step ∷ steps) all = steps_distinct (after_step progress line step) line steps (step_distinct progress line step all)

start_active : (request taken : ℕ) (id : Id) (active : List (Id × ℕ)) → is_some (number_in active (Own request)) ≡ true → is_some (number_in ((id, taken) ∷ active) (Own request)) ≡ true
start_active request taken id active h =
    elim (cases_Bool (same_id id (Own request))) [
      | inl same ↦ rw same refl
      | inr other ↦ rw other h
    ]

one_active : (request number : ℕ) (progress : Progress) (line : ℕ) (id : Id) (o : Option ℕ) (numbers : List ℕ) → number_in progress.active id ≡ o → Distinct progress.active → number_in progress.active (Own request) ≡ Some number → same_id id (Own request) ≡ false → IsActive request (wait_one progress line o numbers)
one_active request number progress line id None numbers is all own differs = some_is _ number own
one_active request number progress line id (Some other) numbers is all own differs =
    some_is _ number (kept_one progress.active (Own request) other number own (apart_number progress.active id request number other all own is differs))

step_active : (request : ℕ) (progress : Progress) (line : ℕ) (step : Step) → Distinct progress.active → Keeps request step → IsActive request progress → IsActive request (after_step progress line step)
step_active request progress line (Does call) all keeps h = h
step_active request progress line (Starts id call) all keeps h = start_active request (least_free progress.active) id progress.active h
step_active request progress line (WaitsForAll ids) all keeps h =
    let number = the_number (number_in progress.active (Own request)) h in
    some_is _ number.0 (kept_all progress.active ids request number.0 all number.1 keeps)
step_active request progress line (WaitsForOne id ids) all keeps h =
    let number = the_number (number_in progress.active (Own request)) h in
    one_active request number.0 progress line id (number_in progress.active id) _ refl all number.1 keeps
step_active request progress line (PutsOff ids) all keeps h = h
step_active request progress line WaitsForLate all keeps h = absurd keeps

pub steps_active : (request : ℕ) (progress : Progress) (line : ℕ) (steps : List Step) → Distinct progress.active → AllSteps (Keeps request) steps → IsActive request progress → IsActive request (after_steps progress line steps)
steps_active request progress line [] all keep h = h
steps_active request progress line (step ∷ steps) all keep h =
    steps_active request (after_step progress line step) line steps (step_distinct progress line step all) keep.1 (step_active request progress line step all keep.0 h)

-- a request that is started is active then
pub started_active : (request : ℕ) (progress : Progress) (line : ℕ) (call : ℕ → Call) (steps : List Step) → Distinct progress.active → AllSteps (Keeps request) steps → IsActive request (after_steps progress line (Starts (Own request) call ∷ steps))
started_active request progress line call steps all keep =
    steps_active request (after_step progress line (Starts (Own request) call)) line steps (step_distinct progress line (Starts (Own request) call) all) keep
    (rw (eq-eqb request request refl) refl)
