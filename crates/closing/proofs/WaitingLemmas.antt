-- The list of a rank as entries are taken that wait or test.
use Rattle.std.proofs.Common.{◌≡◌, refl, sym, ◌∙◌, ap, subst, ℕ, Bool, true, false, not, Option, Some, None, Result, Ok, Err, List, [], ◌∷◌, ◌++◌, ◌<◌, ◌≤◌, ◌+◌, map, take, drop, get_or, length, inl, inr, arith, append_assoc}
use Rattle.std.specs.Prelude.{IfSome, OnOk, is_some, option_map, slice_get, if◌then◌else◌}
use Rattle.std.specs.List.{filter}
use Rattle.closing.specs.inner.Started.{active_at}
use Rattle.std.proofs.lemmas.Bool.{cases_Bool, cond-true, cond-false}
use Rattle.std.proofs.lemmas.List.{append-nil, map-append, drop_all, drop_more}
use Rattle.mpicall.specs.declared.call.Call.TheVariants.{Open}
use Rattle.mpicall.specs.declared.limits.TheConstants.{MOST_REQUESTS}
use Rattle.journals.specs.Lines.{Line}
use Rattle.journals.specs.declared.field.Field.{Field}
use Rattle.journals.specs.declared.field.Field.TheVariants.{Natural, Signed, Null, Any, Undefined}
use Rattle.closing.specs.Called.{naturals_in}
use Rattle.closing.specs.Reported.{is_left_out}
use Rattle.closing.specs.Steps.{Id, Own, Written, Progress, Step, Does, Starts, WaitsForAll, WaitsForOne, PutsOff, WaitsForLate, number_in, numbers_of, wait_one, after_step, after_steps}
use Rattle.closing.specs.Sinks.{Outcome, GoesOn, Ends}
use Rattle.closing.specs.Entry.{Choice, id_of, ids_of, is_of_send, pass_test, passes_tests, test, unless_past, wait_for_all, wait_for_one}
use Rattle.closing.specs.inner.Lists.{Handed, ComesTo, IsStartOf, IsStarted, Stands, is_active_send, is_send_in}
use Rattle.closing.specs.inner.Outcomes as kept
use Rattle.closing.specs.inner.Outcomes.{outcome_at}
use Rattle.closing.specs.inner.RequestReports.{AllStandFor, StandsFor, Tells}
use Rattle.closing.specs.inner.Standings.{id_in, ids_in}
use Rattle.closing.specs.inner.Walks.{Spot, chosen_or_ends, tests_on, waits_any_on, waits_on, waits_some_on}
use Rattle.closing.specs.Fit.{steps_in}
use Rattle.closing.specs.Fit.{AllHaveKind, HasKind, StartsKind}
use Rattle.closing.specs.inner.Walked.{AllTestsFit, Follows, LateWhere, Takes, TakesWhere, late_in}
use Rattle.closing.specs.declared.standing.Standing.{Standing}
use Rattle.closing.specs.declared.list.List.{List as ListCode}
use Rattle.closing.specs.declared.list.Active.{Active}
use Rattle.closing.specs.declared.stop.Stop.{Stop}
use Rattle.closing.specs.declared.stop.Stop.TheVariants.{Left, Memory}
use Rattle.closing.specs.declared.why.Why.TheVariants.{NeverCameBack, NeverReported, Failed, NoNumber, TooLong, CannotBe, Stopped, Aborted, Full, Cut, NoJournal, NotJudged}

-- ---- What is put off ----

late_one : (p : Progress) (line : ℕ) (number : Option ℕ) (numbers : List ℕ) → (wait_one p line number numbers).late ≡ p.late
late_one p line None numbers = refl
late_one p line (Some number) numbers = refl

same_late : (before after more : List Id) → after ≡ before → after ++ more ≡ before ++ more
same_late before after more e = ap (λ late. late ++ more) e

-- what is put off so far, and what the steps put off
pub late_after : (p : Progress) (line : ℕ) (steps : List Step) → (after_steps p line steps).late ≡ p.late ++ late_in steps
late_after p line [] = sym (append-nil p.late)
late_after p line (Does call ∷ steps) = late_after (after_step p line (Does call)) line steps
late_after p line (Starts id call ∷ steps) = late_after (after_step p line (Starts id call)) line steps
late_after p line (WaitsForAll ids ∷ steps) = late_after (after_step p line (WaitsForAll ids)) line steps
late_after p line (WaitsForOne id ids ∷ steps) =
    late_after (after_step p line (WaitsForOne id ids)) line steps
    ∙ same_late p.late (after_step p line (WaitsForOne id ids)).late (late_in steps)
    (late_one p line (number_in p.active id) (take MOST_REQUESTS (numbers_of p.active ids)))
late_after p line (PutsOff ids ∷ steps) =
    late_after (after_step p line (PutsOff ids)) line steps ∙ append_assoc p.late ids (late_in steps)
late_after p line (WaitsForLate ∷ steps) = late_after (after_step p line WaitsForLate) line steps

-- ---- Without memory ----

pub memory_stops : {B : Type 0} (spot : Spot) (outcome : Outcome) (result : Result B Stop) (old new : ListCode)
    → result ≡ Err Memory → Takes spot outcome result old new
memory_stops {B} spot (GoesOn steps) result old new e =
    subst (λ r. Takes {A = B} spot (GoesOn steps) r old new) (sym e) (λ handed p stands fits. tt)
memory_stops {B} spot (Ends steps end why) result old new e =
    subst (λ r. Takes {A = B} spot (Ends steps end why) r old new) (sym e) (λ handed p stands fits. tt)

-- ---- By whether the call came back ----

pub past_nothing : {B : Type 0} (done : B) (spot : Spot) (past : Bool) (steps : List Step) (it : ListCode)
    → past ≡ true → Takes {A = B} spot (GoesOn (unless_past past steps)) (Ok done) it it
past_nothing done spot true steps it e = λ handed p stands fits. stands
past_nothing done spot false steps it e = cc

pub now_all : {B : Type 0} (spot : Spot) (past : Bool) (steps : List Step) (result : Result B Stop) (old new : ListCode)
    → past ≡ false → Takes spot (GoesOn steps) result old new → Takes spot (GoesOn (unless_past past steps)) result old new
now_all spot true steps result old new e t = cc
now_all spot false steps result old new e t = t

-- ---- Waits ----

abbrev pub WaitingForAll : {B : Type 0} → List ℕ → Result B Stop → ListCode → ListCode → Type 0
WaitingForAll ids result old new =
    (handed : Handed) (progress : Progress) (line : ℕ) → Stands handed progress old
    → ComesTo result handed (after_step progress line (WaitsForAll (map Own ids))) line new

pub waits_put : {B : Type 0} (spot : Spot) (ids : List ℕ) (said : List Id) (result : Result B Stop) (old new : ListCode)
    → map Own ids ≡ said → WaitingForAll ids result old new → Takes spot (GoesOn (WaitsForAll said ∷ [])) result old new
waits_put {B} spot ids said result old new e waits =
    subst (λ v. Takes {A = B} spot (GoesOn (WaitsForAll v ∷ [])) result old new) e
    (λ handed p stands fits. waits handed p spot.line stands)

abbrev pub WaitingForOne : {B : Type 0} → ℕ → List ℕ → Result B Stop → ListCode → ListCode → Type 0
WaitingForOne wanted ids result old new =
    (handed : Handed) (progress : Progress) (line : ℕ) → Stands handed progress old
    → ComesTo result handed (after_step progress line (WaitsForOne (Own wanted) (map Own ids))) line new

-- the first of those that were chosen
pub one_put : {B : Type 0} (spot : Spot) (wanted : ℕ) (ids found : List ℕ) (chosen named : List Id) (result : Result B Stop) (old new : ListCode)
    → Some wanted ≡ slice_get found 0 → map Own found ≡ chosen → map Own ids ≡ named → WaitingForOne wanted ids result old new
    → Takes spot (GoesOn (wait_for_one chosen named)) result old new
one_put spot wanted ids [] chosen named result old new e ec en waits = cc
one_put {B} spot wanted ids (first ∷ others) chosen named result old new e ec en waits =
    let same : wanted ≡ first = cc in
    subst (λ v. Takes {A = B} spot (GoesOn (wait_for_one v named)) result old new) ec
    (subst (λ v. Takes {A = B} spot (GoesOn (wait_for_one (map Own (first ∷ others)) v)) result old new) en
    (subst (λ v. WaitingForOne {B = B} v ids result old new → Takes {A = B} spot (GoesOn (WaitsForOne (Own v) (map Own ids) ∷ [])) result old new) same
    (λ waits handed p stands fits. waits handed p spot.line stands) (subst (λ v. WaitingForOne {B = B} v ids result old new) same waits)))

pub none_put : {B : Type 0} (done : B) (spot : Spot) (found : List ℕ) (chosen named : List Id) (it : ListCode)
    → None ≡ slice_get found 0 → map Own found ≡ chosen → Takes {A = B} spot (GoesOn (wait_for_one chosen named)) (Ok done) it it
none_put {B} done spot [] chosen named it e ec =
    subst (λ v. Takes {A = B} spot (GoesOn (wait_for_one v named)) (Ok done) it it) ec (λ handed p stands fits. stands)
none_put done spot (first ∷ others) chosen named it e ec = cc

pub memory_where : {B : Type 0} (Holds : Progress → Type 0) (spot : Spot) (outcome : Outcome) (result : Result B Stop) (old new : ListCode)
    → result ≡ Err Memory → TakesWhere Holds spot outcome result old new
memory_where Holds spot outcome result old new e = λ handed p stands fits holds.
    memory_stops spot outcome result old new e handed p stands fits

pub on_ok : {B : Type 0} (P : Type 0) (result : Result B Stop) → P → OnOk result P
on_ok P (Ok done) holds = holds
on_ok P (Err stop) holds = tt

pub both_ok : {B : Type 0} (P Q : Type 0) (result : Result B Stop) → (P → Q) → OnOk result P → OnOk result Q
both_ok P Q (Ok done) gives holds = gives holds
both_ok P Q (Err stop) gives holds = tt

-- ---- A wait of one request, or of several ----

pub any_of_one : (spot : Spot) (requests : List ℕ) → length requests ≡ 1 → waits_on spot requests ≡ waits_any_on spot requests
any_of_one spot [] e = absurd (omega arith)
any_of_one spot (x ∷ []) e = refl
any_of_one spot (x ∷ y ∷ zs) e = absurd (omega arith)

pub some_of_one : (spot : Spot) (requests : List ℕ) → length requests ≡ 1 → waits_on spot requests ≡ waits_some_on spot requests
some_of_one spot [] e = absurd (omega arith)
some_of_one spot (x ∷ []) e = refl
some_of_one spot (x ∷ y ∷ zs) e = absurd (omega arith)

abbrev any_of : Spot → List ℕ → List ℕ → List Step
any_of spot requests wanted = unless_past spot.is_past (wait_for_one (ids_of spot.lines wanted) (ids_of spot.lines requests))

any_chosen : (spot : Spot) (requests : List ℕ) → (length requests ≡ 1 → ⊥)
    → chosen_or_ends spot.chose (any_of spot requests) ≡ waits_any_on spot requests
any_chosen spot [] apart = refl
any_chosen spot (x ∷ []) apart = absurd (apart refl)
any_chosen spot (x ∷ y ∷ zs) apart = refl

abbrev some_of : Spot → List ℕ → List Step
some_of spot wanted = unless_past spot.is_past (wait_for_all spot.lines wanted)

some_chosen : (spot : Spot) (requests : List ℕ) → (length requests ≡ 1 → ⊥)
    → chosen_or_ends spot.chose (some_of spot) ≡ waits_some_on spot requests
some_chosen spot [] apart = refl
some_chosen spot (x ∷ []) apart = absurd (apart refl)
some_chosen spot (x ∷ y ∷ zs) apart = refl

chose_none : {B : Type 0} (spot : Spot) (chose : Option (List ℕ)) (steps : List ℕ → List Step) (result : Result B Stop) (it : ListCode)
    → None ≡ chose → result ≡ Err (Left NeverCameBack) → Takes spot (chosen_or_ends chose steps) result it it
chose_none {B} spot chose steps result it e er =
    subst (λ v. Takes {A = B} spot (chosen_or_ends v steps) result it it) e
    (subst (λ r. Takes {A = B} spot (Ends [] Open (Some NeverCameBack)) r it it) (sym er) (λ handed p stands fits. (refl, stands)))

chose_some : {B : Type 0} (spot : Spot) (chose : Option (List ℕ)) (steps : List ℕ → List Step) (wanted : List ℕ) (result : Result B Stop) (old new : ListCode)
    → Some wanted ≡ chose → Takes spot (GoesOn (steps wanted)) result old new → Takes spot (chosen_or_ends chose steps) result old new
chose_some {B} spot chose steps wanted result old new e t = subst (λ v. Takes {A = B} spot (chosen_or_ends v steps) result old new) e t

pub any_unknown : {B : Type 0} (spot : Spot) (requests : List ℕ) (result : Result B Stop) (it : ListCode)
    → (length requests ≡ 1 → ⊥) → None ≡ spot.chose → result ≡ Err (Left NeverCameBack) → Takes spot (waits_any_on spot requests) result it it
any_unknown {B} spot requests result it apart e er =
    subst (λ v. Takes {A = B} spot v result it it) (any_chosen spot requests apart)
    (chose_none spot spot.chose (any_of spot requests) result it e er)

pub any_known : {B : Type 0} (spot : Spot) (requests wanted : List ℕ) (result : Result B Stop) (old new : ListCode)
    → (length requests ≡ 1 → ⊥) → Some wanted ≡ spot.chose
    → Takes spot (GoesOn (unless_past spot.is_past (wait_for_one (ids_of spot.lines wanted) (ids_of spot.lines requests)))) result old new
    → Takes spot (waits_any_on spot requests) result old new
any_known {B} spot requests wanted result old new apart e t =
    subst (λ v. Takes {A = B} spot v result old new) (any_chosen spot requests apart)
    (chose_some spot spot.chose (any_of spot requests) wanted result old new e t)

pub some_unknown : {B : Type 0} (spot : Spot) (requests : List ℕ) (result : Result B Stop) (it : ListCode)
    → (length requests ≡ 1 → ⊥) → None ≡ spot.chose → result ≡ Err (Left NeverCameBack) → Takes spot (waits_some_on spot requests) result it it
some_unknown {B} spot requests result it apart e er =
    subst (λ v. Takes {A = B} spot v result it it) (some_chosen spot requests apart)
    (chose_none spot spot.chose (some_of spot) result it e er)

pub some_known : {B : Type 0} (spot : Spot) (requests wanted : List ℕ) (result : Result B Stop) (old new : ListCode)
    → (length requests ≡ 1 → ⊥) → Some wanted ≡ spot.chose → Takes spot (waits_on spot wanted) result old new
    → Takes spot (waits_some_on spot requests) result old new
some_known {B} spot requests wanted result old new apart e t =
    subst (λ v. Takes {A = B} spot v result old new) (some_chosen spot requests apart)
    (chose_some spot spot.chose (some_of spot) wanted result old new e t)

pub chosen_stand : (lines : List Line) (it : Standing) (chose : Option (List ℕ)) (wanted : List ℕ) → Some wanted ≡ chose
    → IfSome chose (AllStandFor lines it) → AllStandFor lines it wanted
chosen_stand lines it chose wanted e h = subst (λ v. IfSome v (AllStandFor lines it)) (sym e) h

-- ---- Requests of sends, and others ----

first_by : (holds : Bool) (x : ℕ) (xs : List ℕ) → (if holds then x ∷ xs else xs) ≡ (if holds then x ∷ [] else []) ++ xs
first_by true x xs = refl
first_by false x xs = refl

filter_first : (p : ℕ → Bool) (x : ℕ) (xs : List ℕ) → filter p (x ∷ xs) ≡ (if p x then x ∷ [] else []) ++ filter p xs
filter_first p x xs = first_by (p x) x (filter p xs)

pub parts_more : (p : ℕ → Bool) (xs : List ℕ) (place : ℕ) (b : Bool) (before after all : List ℕ) → place < length xs
    → b ≡ p (get_or xs place 0) → after ≡ before ++ (if b then get_or xs place 0 ∷ [] else []) → before ++ filter p (drop place xs) ≡ all
    → after ++ filter p (drop (place + 1) xs) ≡ all
parts_more p xs place b before after all within eb ea so_far =
    ap (λ v. v ++ filter p (drop (place + 1) xs)) ea
    ∙ append_assoc before (if b then get_or xs place 0 ∷ [] else []) (filter p (drop (place + 1) xs))
    ∙ ap (λ v. before ++ ((if v then get_or xs place 0 ∷ [] else []) ++ filter p (drop (place + 1) xs))) eb
    ∙ ap (λ v. before ++ v) (sym (filter_first p (get_or xs place 0) (drop (place + 1) xs)))
    ∙ ap (λ v. before ++ filter p v) (sym (drop_more xs place 0 within))
    ∙ so_far

pub parts_all : (p : ℕ → Bool) (xs : List ℕ) (place : ℕ) (now all : List ℕ) → length xs ≤ place
    → now ++ filter p (drop place xs) ≡ all → now ≡ all
parts_all p xs place now all past so_far =
    sym (append-nil now) ∙ sym (ap (λ v. now ++ filter p v) (drop_all place xs past)) ∙ so_far

-- ---- Tests that are passed ----

-- an id is that of a send exactly if its request is
kind_same : (lines : List Line) (handed : Handed) (p : Progress) (list : ListCode) (it : Standing) (request : ℕ)
    → Stands handed p list → StandsFor lines it request → HasKind lines p request → is_send_in list (id_in it request) ≡ is_of_send lines request
kind_same lines handed p list it request stands same kind =
    by_active (active_at list.active (id_in it request))
    (ap (λ id. number_in p.active id) (sym same) ∙ sym (stands.own (id_in it request))) (stands.started (id_in it request))
  where
    starts_same : (found : Option Written) (active : Active) → StartsKind (is_of_send lines request) (id_of lines request) found
        → IsStartOf (id_in it request) active found → active.is_send ≡ is_of_send lines request
    starts_same None active k s = absurd s
    starts_same (Some written) active k s = sym s.1 ∙ k (s.0 ∙ ap (λ id. Some id) same)

    by_active : (found : Option Active) → number_in p.active (id_of lines request) ≡ option_map (λ (active : Active). active.number) found
        → IsStarted p.records (id_in it request) found → is_active_send found ≡ is_of_send lines request
    by_active None n s = elim (cases_Bool (is_of_send lines request)) [
      | inl holds ↦ let some : is_some (number_in p.active (id_of lines request)) ≡ true = kind.active holds in cc
      | inr fails ↦ sym fails
    ]
    by_active (Some active) n s = starts_same (slice_get p.records active.place) active (kind.starts active.place) s

module _ (lines : List Line) (g : ℕ → Bool) (request : ℕ) (requests : List ℕ) where
  ids_passed : g request ≡ false → ids_of lines (filter g (request ∷ requests)) ≡ ids_of lines (filter g requests)
  ids_passed fails = ap (ids_of lines) (cond-false (g request) (request ∷ filter g requests) (filter g requests) fails)

  ids_first : g request ≡ true → ids_of lines (filter g (request ∷ requests)) ≡ ids_of lines (request ∷ filter g requests)
  ids_first holds = ap (ids_of lines) (cond-true (g request) (request ∷ filter g requests) (filter g requests) holds)

  ids_left : is_left_out lines request ≡ true → ids_of lines (request ∷ filter g requests) ≡ ids_of lines (filter g requests)
  ids_left gone =
      ap (map (id_of lines)) (cond-false (not (is_left_out lines request)) (request ∷ filter (λ one. not (is_left_out lines one)) (filter g requests))
      (filter (λ one. not (is_left_out lines one)) (filter g requests)) (ap not gone))

  ids_had : is_left_out lines request ≡ false → ids_of lines (request ∷ filter g requests) ≡ id_of lines request ∷ ids_of lines (filter g requests)
  ids_had not_gone =
      ap (map (id_of lines)) (cond-true (not (is_left_out lines request)) (request ∷ filter (λ one. not (is_left_out lines one)) (filter g requests))
      (filter (λ one. not (is_left_out lines one)) (filter g requests)) (ap not not_gone))

  ids_without : is_left_out lines request ≡ true → ids_of lines (filter g (request ∷ requests)) ≡ ids_of lines (filter g requests)
  ids_without gone = elim (cases_Bool (g request)) [
    | inl holds ↦ ids_first holds ∙ ids_left gone
    | inr fails ↦ ids_passed fails
  ]

module _ (f : ℕ → Bool) (id : ℕ) (ids : List ℕ) where
  own_passed : f id ≡ false → map Own (filter f (id ∷ ids)) ≡ map Own (filter f ids)
  own_passed fails = ap (map Own) (cond-false (f id) (id ∷ filter f ids) (filter f ids) fails)

  own_first : f id ≡ true → map Own (filter f (id ∷ ids)) ≡ Own id ∷ map Own (filter f ids)
  own_first holds = ap (map Own) (cond-true (f id) (id ∷ filter f ids) (filter f ids) holds)

-- the ids of some of the requests, by their kind
module _ (keep : Bool → Bool) (lines : List Line) (handed : Handed) (p : Progress) (list : ListCode) (it : Standing)
    (stands : Stands handed p list) (tells : Tells lines it.outcomes) where
  abbrev kept_ids : List Field → List Id
  kept_ids fields = map Own (filter (λ id. keep (is_send_in list id)) (ids_in it fields))

  abbrev kept_requests : List ℕ → List Id
  kept_requests requests = ids_of lines (filter (λ request. keep (is_of_send lines request)) requests)

  next_kept : (request : ℕ) (fields : List Field) → StandsFor lines it request → (is_left_out lines request ≡ false → HasKind lines p request)
      → kept_ids fields ≡ kept_requests (naturals_in fields) → kept_ids (Natural request ∷ fields) ≡ kept_requests (request ∷ naturals_in fields)
  next_kept request fields same kind rest = elim (cases_Bool (is_left_out lines request)) [
    | inl gone ↦
        ap (λ ids. map Own (filter (λ id. keep (is_send_in list id)) ids))
        (cond-true (kept.is_left_out (outcome_at it.outcomes request)) (ids_in it fields) (id_in it request ∷ ids_in it fields) (tells.left_out request ∙ gone))
        ∙ rest ∙ sym (ids_without lines (λ request. keep (is_of_send lines request)) request (naturals_in fields) gone)
    | inr had ↦
        ap (λ ids. map Own (filter (λ id. keep (is_send_in list id)) ids))
        (cond-false (kept.is_left_out (outcome_at it.outcomes request)) (ids_in it fields) (id_in it request ∷ ids_in it fields) (tells.left_out request ∙ had))
        ∙ by_kind had (ap keep (kind_same lines handed p list it request stands same (kind had)))
  ]
    where
      by_kind : is_left_out lines request ≡ false → keep (is_send_in list (id_in it request)) ≡ keep (is_of_send lines request)
          → map Own (filter (λ id. keep (is_send_in list id)) (id_in it request ∷ ids_in it fields)) ≡ kept_requests (request ∷ naturals_in fields)
      by_kind had e = elim (cases_Bool (keep (is_of_send lines request))) [
        | inl holds ↦
            own_first (λ id. keep (is_send_in list id)) (id_in it request) (ids_in it fields) (e ∙ holds)
            ∙ ap (λ one. one ∷ kept_ids fields) same
            ∙ ap (λ others. id_of lines request ∷ others) rest
            ∙ sym (ids_had lines (λ request. keep (is_of_send lines request)) request (naturals_in fields) had)
            ∙ sym (ids_first lines (λ request. keep (is_of_send lines request)) request (naturals_in fields) holds)
        | inr fails ↦
            own_passed (λ id. keep (is_send_in list id)) (id_in it request) (ids_in it fields) (e ∙ fails)
            ∙ rest
            ∙ sym (ids_passed lines (λ request. keep (is_of_send lines request)) request (naturals_in fields) fails)
      ]

  pub all_kept : (fields : List Field) → AllStandFor lines it (naturals_in fields) → AllHaveKind lines p (naturals_in fields)
      → kept_ids fields ≡ kept_requests (naturals_in fields)
  all_kept [] same kinds = refl
  all_kept (Natural request ∷ fields) same kinds = next_kept request fields same.0 kinds.0 (all_kept fields same.1 kinds.1)
  all_kept (Signed number ∷ fields) same kinds = all_kept fields same kinds
  all_kept (Null ∷ fields) same kinds = all_kept fields same kinds
  all_kept (Any ∷ fields) same kinds = all_kept fields same kinds
  all_kept (Undefined ∷ fields) same kinds = all_kept fields same kinds

-- what is put off changes neither the records nor the active requests
stands_late : (handed : Handed) (p : Progress) (late : List Id) (it : ListCode) → Stands handed p it → Stands handed (record p { late = late }) it
stands_late handed p late it stands = record {
  records = stands.records;
  count = stands.count;
  short = stands.short;
  given = stands.given;
  numbered = stands.numbered;
  apart = stands.apart;
  own = stands.own;
  started = stands.started;
  ids = stands.ids;
  places = stands.places;
}

comes_late : {B : Type 0} (result : Result B Stop) (handed : Handed) (p : Progress) (late : List Id) (line : ℕ) (it : ListCode)
    → ComesTo result handed p line it → ComesTo result handed (record p { late = late }) line it
comes_late (Ok done) handed p late line it comes = stands_late handed p late it comes
comes_late (Err (Left TooLong)) handed p late line it comes = record { long = comes.long; records = comes.records; ends_at = comes.ends_at; places = comes.places }
comes_late (Err Memory) handed p late line it comes = tt
comes_late (Err (Left NeverCameBack)) handed p late line it comes = comes
comes_late (Err (Left NeverReported)) handed p late line it comes = comes
comes_late (Err (Left Failed)) handed p late line it comes = comes
comes_late (Err (Left NoNumber)) handed p late line it comes = comes
comes_late (Err (Left CannotBe)) handed p late line it comes = comes
comes_late (Err (Left Stopped)) handed p late line it comes = comes
comes_late (Err (Left Aborted)) handed p late line it comes = comes
comes_late (Err (Left Full)) handed p late line it comes = comes
comes_late (Err (Left Cut)) handed p late line it comes = comes
comes_late (Err (Left NotJudged)) handed p late line it comes = comes
comes_late (Err (Left NoJournal)) handed p late line it comes = comes

passed_is : (choice : Choice) (spot : Spot) (requests : List ℕ) → passes_tests choice.tests choice.calls ≡ true → spot.is_past ≡ false
    → tests_on choice spot requests ≡ GoesOn (pass_test spot.lines requests)
passed_is choice spot requests passes now =
    ap (λ past. GoesOn (unless_past past (test choice spot.lines requests))) now
    ∙ ap GoesOn (cond-true (passes_tests choice.tests choice.calls) (pass_test spot.lines requests) (wait_for_all spot.lines requests) passes)

waited_is : (choice : Choice) (spot : Spot) (requests : List ℕ) → passes_tests choice.tests choice.calls ≡ false
    → tests_on choice spot requests ≡ waits_on spot requests
waited_is choice spot requests fails =
    ap (λ steps. GoesOn (unless_past spot.is_past steps))
    (cond-false (passes_tests choice.tests choice.calls) (pass_test spot.lines requests) (wait_for_all spot.lines requests) fails)

pub test_put : {B : Type 0} (choice : Choice) (spot : Spot) (fields : List Field) (it : Standing) (ids wanted : List ℕ) (result : Result B Stop)
    (old new : ListCode) → passes_tests choice.tests choice.calls ≡ true → Tells spot.lines it.outcomes → AllStandFor spot.lines it (naturals_in fields)
    → ids ≡ ids_in it fields → wanted ≡ filter (λ id. not (is_send_in old id)) ids → WaitingForAll wanted result old new
    → TakesWhere (AllTestsFit choice spot (naturals_in fields)) spot (tests_on choice spot (naturals_in fields)) result old new
test_put {B} choice spot fields it ids wanted result old new passes tells same ei ew waits = λ handed p stands fits holds.
    let fit : (spot.is_past ≡ false) × AllHaveKind spot.lines p (naturals_in fields) = holds passes in
    let said : map Own wanted ≡ ids_of spot.lines (filter (λ request. not (is_of_send spot.lines request)) (naturals_in fields)) =
    ap (map Own) (ew ∙ ap (filter (λ id. not (is_send_in old id))) ei) ∙ all_kept not spot.lines handed p old it stands tells fields same fit.1 in
    let comes : ComesTo result handed (after_step p spot.line (WaitsForAll (ids_of spot.lines (filter (λ request. not (is_of_send spot.lines request)) (naturals_in fields))))) spot.line new =
    subst (λ v. ComesTo {A = B} result handed (after_step p spot.line (WaitsForAll v)) spot.line new) said (waits handed p spot.line stands) in
    subst (λ v. Follows {A = B} v result handed p spot.line new) (sym (passed_is choice spot (naturals_in fields) passes fit.0))
    (comes_late result handed (after_step p spot.line (WaitsForAll (ids_of spot.lines (filter (λ request. not (is_of_send spot.lines request)) (naturals_in fields)))))
    (p.late ++ ids_of spot.lines (filter (is_of_send spot.lines) (naturals_in fields))) spot.line new comes)

pub test_late : (choice : Choice) (spot : Spot) (fields : List Field) (it : Standing) (ids before after : List ℕ) (old : ListCode)
    → passes_tests choice.tests choice.calls ≡ true → Tells spot.lines it.outcomes → AllStandFor spot.lines it (naturals_in fields)
    → ids ≡ ids_in it fields → after ≡ before ++ filter (is_send_in old) ids
    → LateWhere (AllTestsFit choice spot (naturals_in fields)) (tests_on choice spot (naturals_in fields)) old before after
test_late choice spot fields it ids before after old passes tells same ei ea = λ handed p stands holds.
    let fit : (spot.is_past ≡ false) × AllHaveKind spot.lines p (naturals_in fields) = holds passes in
    ap (map Own) (ea ∙ ap (λ ids. before ++ filter (is_send_in old) ids) ei)
    ∙ map-append Own before (filter (is_send_in old) (ids_in it fields))
    ∙ ap (λ more. map Own before ++ more)
    (all_kept (λ b. b) spot.lines handed p old it stands tells fields same fit.1
    ∙ sym (append-nil (ids_of spot.lines (filter (is_of_send spot.lines) (naturals_in fields))))
    ∙ sym (ap (λ v. late_in (steps_in v)) (passed_is choice spot (naturals_in fields) passes fit.0)))

pub test_waits : {B : Type 0} (choice : Choice) (spot : Spot) (requests : List ℕ) (result : Result B Stop) (old new : ListCode)
    → passes_tests choice.tests choice.calls ≡ false → Takes spot (waits_on spot requests) result old new
    → TakesWhere (AllTestsFit choice spot requests) spot (tests_on choice spot requests) result old new
test_waits {B} choice spot requests result old new fails t =
    subst (λ v. TakesWhere {A = B} (AllTestsFit choice spot requests) spot v result old new) (sym (waited_is choice spot requests fails))
    (λ handed p stands fits holds. t handed p stands fits)

pub none_late : (past : Bool) (lines : List Line) (requests : List ℕ) → late_in (unless_past past (wait_for_all lines requests)) ≡ []
none_late true lines requests = refl
none_late false lines requests = refl

pub test_not_late : (choice : Choice) (spot : Spot) (requests before after : List ℕ) (old : ListCode)
    → passes_tests choice.tests choice.calls ≡ false → after ≡ before
    → LateWhere (AllTestsFit choice spot requests) (tests_on choice spot requests) old before after
test_not_late choice spot requests before after old fails e = λ handed p stands holds.
    ap (map Own) e ∙ sym (append-nil (map Own before))
    ∙ sym (ap (λ late. map Own before ++ late) (ap (λ v. late_in (steps_in v)) (waited_is choice spot requests fails) ∙ none_late spot.is_past spot.lines requests))
