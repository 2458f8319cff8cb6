-- Lists whose calls all pass the tests that look at communicators, and what such lists keep as they grow.
use Rattle.std.proofs.Common.{◌≡◌, ℕ, zero, suc, ◌||◌, ◌==◌, Bool, true, false, Option, Some, None, List, [], ◌∷◌, ◌++◌, length, map, take, refl, sym, ap, subst, ◌∙◌, append_assoc, append-nil, inl, inr}
use Rattle.std.specs.Prelude.{⊤, slice_get}
use Rattle.std.specs.List.{list_any, position}
use Rattle.std.proofs.lemmas.Bool.{cases_Bool}
use Rattle.std.proofs.lemmas.List.{map-append}
use Rattle.std.proofs.lemmas.Option.{none-some, same_Some}
use Rattle.mpicall.specs.declared.call.Call.{Call}
use Rattle.mpicall.specs.declared.limits.TheConstants.{MOST_REQUESTS}
use Rattle.mpigroup.specs.Groups.{Groups}
use Rattle.callstore.specs.Communicators.{does_make, holds}
use Rattle.pairing.specs.Faults.{holds_comm, makes_afresh}
use Rattle.closing.specs.Steps.{Step, Does, Starts, WaitsForAll, WaitsForOne, PutsOff, WaitsForLate, Written, Progress, number_in, numbers_of, least_free, waits_for, wait_for_one, wait_one, plain, after_step, after_steps}
use Rattle.lawful.proofs.StepLemmas.{calls_in, added_plain}
use Rattle.lawful.proofs.PassLemmas.{IsStep, AreSteps, AllCalls, PassWaits, waits_pass, chosen_passes}

-- ---- Calls ----

-- the call passes the tests that look at communicators
pub record Holds (groups : Groups) (rank : ℕ) (calls : List Call) (call : Call) : Type 0 where
  pub comms : holds_comm groups rank calls call ≡ true
  pub afresh : makes_afresh groups rank calls call ≡ true

-- each call does, after some others
abbrev pub AllHold : Groups → ℕ → List Call → List Call → Type 0
AllHold groups rank before [] = ⊤
AllHold groups rank before (call ∷ calls) = Holds groups rank before call × AllHold groups rank (before ++ call ∷ []) calls

pub hold_append : (groups : Groups) (rank : ℕ) (calls xs ys : List Call) → AllHold groups rank calls xs → AllHold groups rank (calls ++ xs) ys → AllHold groups rank calls (xs ++ ys)
hold_append groups rank calls [] ys first others =
    subst (λ (before : List Call). AllHold groups rank before ys) (append-nil calls) others
hold_append groups rank calls (x ∷ xs) ys first others =
    (first.0, hold_append groups rank (calls ++ x ∷ []) xs ys first.1 (subst (λ (before : List Call). AllHold groups rank before ys) (sym (append_assoc calls (x ∷ []) xs)) others))

pub hold_more : (groups : Groups) (rank : ℕ) (calls : List Call) (call : Call) → AllHold groups rank [] calls → Holds groups rank calls call → AllHold groups rank [] (calls ++ call ∷ [])
hold_more groups rank calls call all is = hold_append groups rank [] calls (call ∷ []) all (is, tt)

pub hold_take : (groups : Groups) (rank n : ℕ) (before calls : List Call) → AllHold groups rank before calls → AllHold groups rank before (take n calls)
hold_take groups rank zero before calls all = tt
hold_take groups rank (suc n) before [] all = tt
hold_take groups rank (suc n) before (call ∷ calls) all = (all.0, hold_take groups rank n (before ++ call ∷ []) calls all.1)

pub hold_at : (groups : Groups) (rank : ℕ) (before calls : List Call) (place : ℕ) (call : Call) → AllHold groups rank before calls → slice_get calls place ≡ Some call → Holds groups rank (before ++ take place calls) call
hold_at groups rank before [] place call all h = absurd (none-some call h)
hold_at groups rank before (one ∷ calls) zero call all h =
    subst (λ (c : Call). Holds groups rank (before ++ []) c) (same_Some one call h) (subst (λ (b : List Call). Holds groups rank b one) (sym (append-nil before)) all.0)
hold_at groups rank before (one ∷ calls) (suc place) call all h =
    subst (λ (b : List Call). Holds groups rank b call) (append_assoc before (one ∷ []) (take place calls)) (hold_at groups rank (before ++ one ∷ []) calls place call all.1 h)

-- ---- What is made stays ----

or_left : (b : Bool) → (true || b) ≡ true
or_left b = refl

or_right : (b : Bool) → (b || true) ≡ true
or_right true = refl
or_right false = refl

or_false : (b : Bool) → (b || false) ≡ b
or_false true = refl
or_false false = refl

or_assoc : (a b c : Bool) → ((a || b) || c) ≡ (a || (b || c))
or_assoc true b c = refl
or_assoc false b c = refl

pub any_more : {A : Type 0} (test : A → Bool) (xs : List A) (x : A) → list_any test (xs ++ x ∷ []) ≡ (list_any test xs || test x)
any_more test [] x = or_false (test x)
any_more test (y ∷ ys) x = ap (λ (b : Bool). test y || b) (any_more test ys x) ∙ sym (or_assoc (test y) (list_any test ys) (test x))

pub any_kept : {A : Type 0} (test : A → Bool) (xs : List A) (x : A) → list_any test xs ≡ true → list_any test (xs ++ x ∷ []) ≡ true
any_kept test xs x has = any_more test xs x ∙ ap (λ (b : Bool). b || test x) has

pub any_last : {A : Type 0} (test : A → Bool) (xs : List A) (x : A) → test x ≡ true → list_any test (xs ++ x ∷ []) ≡ true
any_last test xs x is = any_more test xs x ∙ ap (λ (b : Bool). list_any test xs || b) is ∙ or_right (list_any test xs)

pub held_made : (calls : List Call) (comm : ℕ) → list_any (does_make comm) calls ≡ true → holds calls comm ≡ true
held_made calls comm made = ap (λ (b : Bool). comm == 0 || b) made ∙ or_right (comm == 0)

pub holds_more : (calls : List Call) (call : Call) (comm : ℕ) → holds calls comm ≡ true → holds (calls ++ call ∷ []) comm ≡ true
holds_more calls call comm is =
    elim (cases_Bool (comm == 0)) [
      | inl world ↦ rw world refl
      | inr other ↦ rw (other, any_kept (does_make comm) calls call (rw other at is)) refl
    ]

-- ---- What steps keep ----

-- what some calls have is kept by each that passes a test
abbrev pub Keeps : (List Call → Type 0) → (Call → Type 0) → Type 0
Keeps I P = (calls : List Call) (call : Call) → P call → I calls → I (calls ++ call ∷ [])

calls_keep : (I : List Call → Type 0) (P : Call → Type 0) (calls new : List Call) → Keeps I P → AllCalls P new → I calls → I (calls ++ new)
calls_keep I P calls [] keeps all is = subst I (sym (append-nil calls)) is
calls_keep I P calls (call ∷ new) keeps all is =
    subst I (append_assoc calls (call ∷ []) new) (calls_keep I P (calls ++ call ∷ []) new keeps all.1 (keeps calls call all.0 is))

plain_keep : (I : List Call → Type 0) (P : Call → Type 0) (old : Progress) (line : ℕ) (new : List Call) → Keeps I P → AllCalls P new → I (calls_in old) → I (map (λ (one : Written). one.call) (old.records ++ plain line new))
plain_keep I P old line new keeps all is =
    subst I (sym (added_plain old line new)) (calls_keep I P (calls_in old) new keeps all is)

one_keeps : (I : List Call → Type 0) (P : Call → Type 0) (old : Progress) (line : ℕ) (o : Option ℕ) (numbers : List ℕ) → Keeps I P → PassWaits P → I (calls_in old) → I (calls_in (wait_one old line o numbers))
one_keeps I P old line None numbers keeps waits is = is
one_keeps I P old line (Some number) numbers keeps waits is =
    plain_keep I P old line (wait_for_one number numbers ∷ []) keeps
    (chosen_passes P number numbers (position (λ (other : ℕ). other == number) numbers) waits, tt) is

step_keeps : (I : List Call → Type 0) (P : Call → Type 0) (old : Progress) (line : ℕ) (step : Step) → Keeps I P → PassWaits P → IsStep P step → I (calls_in old) → I (calls_in (after_step old line step))
step_keeps I P old line (Does call) keeps waits passes is = plain_keep I P old line (call ∷ []) keeps (passes, tt) is
step_keeps I P old line (Starts id call) keeps waits passes is =
    let number = least_free old.active in
    subst I (sym (map-append (λ (one : Written). one.call) old.records (record { call = call number; line = line; starts = Some id } ∷ [])))
    (keeps (calls_in old) (call number) (passes number) is)
step_keeps I P old line (WaitsForAll ids) keeps waits passes is =
    plain_keep I P old line (waits_for (length (numbers_of old.active ids)) (numbers_of old.active ids)) keeps
    (waits_pass P (length (numbers_of old.active ids)) (numbers_of old.active ids) waits) is
step_keeps I P old line (WaitsForOne id ids) keeps waits passes is =
    one_keeps I P old line (number_in old.active id) (take MOST_REQUESTS (numbers_of old.active ids)) keeps waits is
step_keeps I P old line (PutsOff ids) keeps waits passes is = is
step_keeps I P old line WaitsForLate keeps waits passes is =
    plain_keep I P old line (waits_for (length (numbers_of old.active old.late)) (numbers_of old.active old.late)) keeps
    (waits_pass P (length (numbers_of old.active old.late)) (numbers_of old.active old.late) waits) is

pub steps_keep : (I : List Call → Type 0) (P : Call → Type 0) (old : Progress) (line : ℕ) (steps : List Step) → Keeps I P → PassWaits P → AreSteps P steps → I (calls_in old) → I (calls_in (after_steps old line steps))
steps_keep I P old line [] keeps waits are is = is
steps_keep I P old line (step ∷ steps) keeps waits are is =
    steps_keep I P (after_step old line step) line steps keeps waits are.1 (step_keeps I P old line step keeps waits are.0 is)
