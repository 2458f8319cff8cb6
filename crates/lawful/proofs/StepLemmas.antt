-- What a step adds to a list: calls that pass the tests of requests, and the requests that are active then.
use Rattle.std.proofs.Common.{◌≡◌, ℕ, zero, suc, ◌<◌, ◌≤◌, ◌==◌, true, false, eqb, Option, Some, None, List, [], ◌∷◌, ◌++◌, length, map, take, drop, refl, sym, ap, subst, ◌∙◌, ⊎_elim, arith, append_assoc, append-nil, length-drop, one-add}
use Rattle.std.specs.Prelude.{⊤}
use Rattle.std.specs.List.{position, position_or_len}
use Rattle.std.proofs.lemmas.List.{take-append-drop, map-append}
use Rattle.std.proofs.lemmas.Option.{none-some, same_Some}
use Rattle.std.proofs.lemmas.Bool.{cases_Bool, cases_lt, eqb-true, lt-ltb, le-ltb}
use Rattle.mpicall.specs.declared.call.Call.{Call}
use Rattle.mpicall.specs.declared.call.Call.TheVariants.{Wait, Waitall, Waitany}
use Rattle.mpicall.specs.declared.limits.TheConstants.{MOST_REQUESTS}
use Rattle.closing.specs.Steps.{Id, Written, Progress, Step, Does, Starts, WaitsForAll, WaitsForOne, PutsOff, WaitsForLate, number_in, has_number, without_all, numbers_of, least_free, wait_for, waits_for, chosen_at, wait_for_one, wait_all, wait_one, plain, after_step, after_steps}
use Rattle.lawful.proofs.RequestLemmas.{AreActive, AreDrawn, IsPlain, IsStart, IsWait, AllFit, plain_keeps, start_keeps, wait_keeps, plain_fits, start_fits, wait_fits, numbered, drawn, drawn_take, drawn_drop}

-- ---- Waits ----

pub fit_append : (calls xs ys : List Call) → AllFit calls xs → AllFit (calls ++ xs) ys → AllFit calls (xs ++ ys)
fit_append calls [] ys first others = subst (λ (before : List Call). AllFit before ys) (append-nil calls) others
fit_append calls (x ∷ xs) ys first others =
    (first.0, fit_append (calls ++ x ∷ []) xs ys first.1 (subst (λ (before : List Call). AllFit before ys) (sym (append_assoc calls (x ∷ []) xs)) others))

-- calls after some others pass, and leave these requests active
record Adds (calls new : List Call) (active : List (Id × ℕ)) : Type 0 where
  fit : AllFit calls new
  same : AreActive (calls ++ new) active

adds_none : (calls : List Call) (active : List (Id × ℕ)) → AreActive calls active → Adds calls [] active
adds_none calls active same = record { fit = tt; same = subst (λ (all : List Call). AreActive all active) (sym (append-nil calls)) same }

adds_wait : (calls : List Call) (active : List (Id × ℕ)) (call : Call) (named completed : List ℕ) → IsWait named completed call → AreActive calls active → AreDrawn named active → Adds calls (call ∷ []) (without_all completed active)
adds_wait calls active call named completed is_wait same all = record {
  fit = (wait_fits calls active call named completed is_wait same all, tt);
  same = wait_keeps calls active call named completed is_wait same;
}

adds_wait_for : (calls : List Call) (active : List (Id × ℕ)) (numbers : List ℕ) → AreActive calls active → AreDrawn numbers active → Adds calls (wait_for numbers) (without_all numbers active)
adds_wait_for calls active [] same all = adds_none calls active same
adds_wait_for calls active (one ∷ []) same all =
    adds_wait calls active (Wait one) (one ∷ []) (one ∷ []) (record { starts_none = refl; names = refl; completes_them = refl; goes_on = refl }) same all
adds_wait_for calls active (one ∷ two ∷ others) same all =
    adds_wait calls active (Waitall (one ∷ two ∷ others)) (one ∷ two ∷ others) (one ∷ two ∷ others)
    (record { starts_none = refl; names = refl; completes_them = refl; goes_on = refl }) same all

without_append : (xs ys : List ℕ) (active : List (Id × ℕ)) → without_all (xs ++ ys) active ≡ without_all ys (without_all xs active)
without_append [] ys active = refl
without_append (x ∷ xs) ys active = without_append xs ys _

adds_both : (calls xs ys : List Call) (between after : List (Id × ℕ)) → Adds calls xs between → Adds (calls ++ xs) ys after → Adds calls (xs ++ ys) after
adds_both calls xs ys between after first others = record {
  fit = fit_append calls xs ys first.fit others.fit;
  same = subst (λ (all : List Call). AreActive all after) (append_assoc calls xs ys) others.same;
}

few_left : (most : ℕ) (numbers : List ℕ) → length numbers ≤ suc most → length (drop MOST_REQUESTS numbers) ≤ most
few_left most numbers h = omega (arith, h, length-drop MOST_REQUESTS numbers)

adds_waits : (most : ℕ) (calls : List Call) (active : List (Id × ℕ)) (numbers : List ℕ) → length numbers ≤ most → AreActive calls active → AreDrawn numbers active → Adds calls (waits_for most numbers) (without_all numbers active)
adds_waits zero calls active [] few same all = adds_none calls active same
adds_waits zero calls active (one ∷ numbers) few same all = absurd (omega (arith, few))
adds_waits (suc most) calls active numbers few same all =
    let first = adds_wait_for calls active (take MOST_REQUESTS numbers) same (drawn_take MOST_REQUESTS numbers active all) in
    let others = adds_waits most (calls ++ wait_for (take MOST_REQUESTS numbers)) (without_all (take MOST_REQUESTS numbers) active) (drop MOST_REQUESTS numbers) (few_left most numbers few) first.same (drawn_drop MOST_REQUESTS numbers active all) in
    let parts : without_all numbers active ≡ without_all (drop MOST_REQUESTS numbers) (without_all (take MOST_REQUESTS numbers) active) =
    ap (λ (all : List ℕ). without_all all active) (sym (take-append-drop MOST_REQUESTS numbers)) ∙ without_append (take MOST_REQUESTS numbers) (drop MOST_REQUESTS numbers) active in
    rw parts (adds_both calls (wait_for (take MOST_REQUESTS numbers)) (waits_for most (drop MOST_REQUESTS numbers)) _ _ first others)

-- ---- Steps ----

abbrev pub calls_in : Progress → List Call
calls_in progress = map (λ one. one.call) progress.records

-- what a step adds
pub record Added (old new : Progress) : Type 0 where
  pub calls : List Call
  pub are : calls_in new ≡ calls_in old ++ calls
  pub adds_calls : AllFit (calls_in old) calls
  pub same : AreActive (calls_in new) new.active

-- the record of a step starts no request, or the one that it says
abbrev pub IsSaid : Step → Type 0
IsSaid (Does call) = IsPlain call
IsSaid (Starts id call) = (number : ℕ) → IsStart number (call number)
IsSaid step = ⊤

pub plain_calls : (line : ℕ) (calls : List Call) → map (λ (one : Written). one.call) (plain line calls) ≡ calls
plain_calls line [] = refl
plain_calls line (call ∷ calls) = ap (λ (others : List Call). call ∷ others) (plain_calls line calls)

pub added_plain : (old : Progress) (line : ℕ) (calls : List Call) → map (λ (one : Written). one.call) (old.records ++ plain line calls) ≡ calls_in old ++ calls
added_plain old line calls =
    map-append (λ (one : Written). one.call) old.records (plain line calls) ∙ ap (λ (new : List Call). calls_in old ++ new) (plain_calls line calls)

-- records of a line that wait, or do neither, with what is active then
added_calls : (old : Progress) (line : ℕ) (calls : List Call) (active : List (Id × ℕ)) → Adds (calls_in old) calls active → Added old (record old { records = old.records ++ plain line calls; active = active })
added_calls old line calls active adds = record {
  calls = calls;
  are = added_plain old line calls;
  adds_calls = adds.fit;
  same = subst (λ (all : List Call). AreActive all active) (sym (added_plain old line calls)) adds.same;
}

adds_plain : (calls : List Call) (active : List (Id × ℕ)) (call : Call) → IsPlain call → AreActive calls active → Adds calls (call ∷ []) active
adds_plain calls active call plain same = record { fit = (plain_fits calls call plain, tt); same = plain_keeps calls active call plain same }

added_start : (old : Progress) (line : ℕ) (id : Id) (call : ℕ → Call) → ((number : ℕ) → IsStart number (call number)) → AreActive (calls_in old) old.active → Added old (after_step old line (Starts id call))
added_start old line id call is_start same =
    let number = least_free old.active in
    let are = map-append (λ (one : Written). one.call) old.records (record { call = call number; line = line; starts = Some id } ∷ []) in
    record {
      calls = call number ∷ [];
      are = are;
      adds_calls = (start_fits (calls_in old) old.active (call number) (is_start number) same, tt);
      same = subst (λ (all : List Call). AreActive all ((id, number) ∷ old.active)) (sym are) (start_keeps (calls_in old) old.active (call number) id number (is_start number) same);
    }

added_none : (old : Progress) → AreActive (calls_in old) old.active → Added old old
added_none old same = record { calls = []; are = sym (append-nil (calls_in old)); adds_calls = tt; same = same }

added_wait_all : (old : Progress) (line : ℕ) (numbers : List ℕ) → AreActive (calls_in old) old.active → AreDrawn numbers old.active → Added old (wait_all old line numbers)
added_wait_all old line numbers same all =
    added_calls old line (waits_for (length numbers) numbers) (without_all numbers old.active)
    (adds_waits (length numbers) (calls_in old) old.active numbers (omega arith) same all)

-- the place of a number is where it stands
at_place : (number : ℕ) (numbers : List ℕ) → position_or_len (λ (other : ℕ). other == number) numbers < length numbers → take 1 (drop (position_or_len (λ (other : ℕ). other == number) numbers) numbers) ≡ number ∷ []
at_place number [] h = absurd (omega (arith, h))
at_place number (one ∷ numbers) h =
    ⊎_elim
    (λ (e : eqb one number ≡ true). rw e (ap (λ (n : ℕ). n ∷ []) (eqb-true one number e)))
    (λ (e : eqb one number ≡ false). rw (e, one-add (position_or_len (λ (other : ℕ). other == number) numbers)) (at_place number numbers (omega (arith, rw e at h))))
    (cases_Bool (eqb one number))

pub chosen_stands : (number : ℕ) (numbers : List ℕ) (place : ℕ) → position (λ (other : ℕ). other == number) numbers ≡ Some place → take 1 (drop place numbers) ≡ number ∷ []
chosen_stands number numbers place h =
    ⊎_elim
    (λ (within : position_or_len (λ (other : ℕ). other == number) numbers < length numbers).
    let same : Some (position_or_len (λ (other : ℕ). other == number) numbers) ≡ Some place = rw (lt-ltb (position_or_len (λ (other : ℕ). other == number) numbers) (length numbers) within) at h in
    subst (λ (at : ℕ). take 1 (drop at numbers) ≡ number ∷ []) (same_Some (position_or_len (λ (other : ℕ). other == number) numbers) place same) (at_place number numbers within))
    (λ (past : length numbers ≤ position_or_len (λ (other : ℕ). other == number) numbers).
    absurd (none-some place (rw (le-ltb (position_or_len (λ (other : ℕ). other == number) numbers) (length numbers) past) at h)))
    (cases_lt (position_or_len (λ (other : ℕ). other == number) numbers) (length numbers))

adds_chosen : (calls : List Call) (active : List (Id × ℕ)) (number : ℕ) (numbers : List ℕ) (o : Option ℕ) → position (λ (other : ℕ). other == number) numbers ≡ o → AreActive calls active → AreDrawn numbers active → has_number active number ≡ true → Adds calls (chosen_at number numbers o ∷ []) (without_all (number ∷ []) active)
adds_chosen calls active number numbers None is same all has =
    adds_wait calls active (Wait number) (number ∷ []) (number ∷ []) (record { starts_none = refl; names = refl; completes_them = refl; goes_on = refl }) same (has, tt)
adds_chosen calls active number numbers (Some place) is same all has =
    adds_wait calls active (Waitany place numbers) numbers (number ∷ [])
    (record { starts_none = refl; names = refl; completes_them = chosen_stands number numbers place is; goes_on = refl }) same all

added_wait_one : (old : Progress) (line : ℕ) (id : Id) (o : Option ℕ) (numbers : List ℕ) → number_in old.active id ≡ o → AreActive (calls_in old) old.active → AreDrawn numbers old.active → Added old (wait_one old line o numbers)
added_wait_one old line id None numbers e same all = added_none old same
added_wait_one old line id (Some number) numbers e same all =
    added_calls old line (wait_for_one number numbers ∷ []) (without_all (number ∷ []) old.active)
    (adds_chosen (calls_in old) old.active number numbers (position (λ (other : ℕ). other == number) numbers) refl same all (numbered old.active id number e))

pub step_adds : (old : Progress) (line : ℕ) (step : Step) → IsSaid step → AreActive (calls_in old) old.active → Added old (after_step old line step)
step_adds old line (Does call) said same = added_calls old line (call ∷ []) old.active (adds_plain (calls_in old) old.active call said same)
step_adds old line (Starts id call) said same = added_start old line id call said same
step_adds old line (WaitsForAll ids) said same = added_wait_all old line (numbers_of old.active ids) same (drawn old.active ids)
step_adds old line (WaitsForOne id ids) said same =
    added_wait_one old line id (number_in old.active id) (take MOST_REQUESTS (numbers_of old.active ids)) refl same
    (drawn_take MOST_REQUESTS (numbers_of old.active ids) old.active (drawn old.active ids))
step_adds old line (PutsOff ids) said same = record { calls = []; are = sym (append-nil (calls_in old)); adds_calls = tt; same = same }
step_adds old line WaitsForLate said same = added_wait_all old line (numbers_of old.active old.late) same (drawn old.active old.late)

added_both : (old between new : Progress) → Added old between → Added between new → Added old new
added_both old between new first others = record {
  calls = first.calls ++ others.calls;
  are = others.are ∙ ap (λ (before : List Call). before ++ others.calls) first.are ∙ append_assoc (calls_in old) first.calls others.calls;
  adds_calls = fit_append (calls_in old) first.calls others.calls first.adds_calls (subst (λ (before : List Call). AllFit before others.calls) first.are others.adds_calls);
  same = others.same;
}

abbrev pub AreSaid : List Step → Type 0
AreSaid [] = ⊤
AreSaid (step ∷ steps) = IsSaid step × AreSaid steps

pub steps_add : (old : Progress) (line : ℕ) (steps : List Step) → AreSaid steps → AreActive (calls_in old) old.active → Added old (after_steps old line steps)
steps_add old line [] said same = added_none old same
steps_add old line (step ∷ steps) said same =
    let first = step_adds old line step said.0 same in
    added_both old (after_step old line step) (after_steps (after_step old line step) line steps) first (steps_add (after_step old line step) line steps said.1 first.same)
