-- Lists whose records all pass a test.
use Rattle.std.proofs.Common.{◌≡◌, ℕ, ◌==◌, zero, suc, Bool, true, false, if◌then◌else◌, Option, Some, None, List, [], ◌∷◌, ◌++◌, length, map, take, drop, refl, sym, subst}
use Rattle.std.specs.Prelude.{⊤}
use Rattle.std.specs.List.{position}
use Rattle.std.specs.Option.{option_map_or}
use Rattle.std.proofs.lemmas.List.{map-append}
use Rattle.mpicall.specs.declared.call.Call.{Call}
use Rattle.mpicall.specs.declared.call.Call.TheVariants.{Wait, Waitall, Waitany}
use Rattle.mpicall.specs.declared.limits.TheConstants.{MOST_REQUESTS}
use Rattle.closing.specs.Reported.{Message}
use Rattle.closing.specs.Steps.{Step, Does, Starts, WaitsForAll, WaitsForOne, PutsOff, WaitsForLate, Written, Progress, number_in, numbers_of, least_free, wait_for, waits_for, chosen_at, wait_for_one, wait_one, plain, after_step, after_steps}
use Rattle.closing.specs.Entry.{unless_past}
use Rattle.lawful.proofs.StepLemmas.{calls_in, added_plain}

-- the steps of a list whose records all pass a test
abbrev pub IsStep : (Call → Type 0) → Step → Type 0
IsStep P (Does call) = P call
IsStep P (Starts id call) = (number : ℕ) → P (call number)
IsStep P step = ⊤

abbrev pub AreSteps : (Call → Type 0) → List Step → Type 0
AreSteps P [] = ⊤
AreSteps P (step ∷ steps) = IsStep P step × AreSteps P steps

pub steps_if : (P : Call → Type 0) (b : Bool) (xs ys : List Step) → AreSteps P xs → AreSteps P ys → AreSteps P (if b then xs else ys)
steps_if P true xs ys first others = first
steps_if P false xs ys first others = others

pub steps_append : (P : Call → Type 0) (xs ys : List Step) → AreSteps P xs → AreSteps P ys → AreSteps P (xs ++ ys)
steps_append P [] ys first others = others
steps_append P (x ∷ xs) ys first others = (first.0, steps_append P xs ys first.1 others)

pub steps_or : (P : Call → Type 0) (o : Option Message) (steps : Message → List Step) → ((it : Message) → o ≡ Some it → AreSteps P (steps it)) → AreSteps P (option_map_or steps o [])
steps_or P None steps all = tt
steps_or P (Some it) steps all = all it refl

pub steps_unless : (P : Call → Type 0) (past : Bool) (steps : List Step) → AreSteps P steps → AreSteps P (unless_past past steps)
steps_unless P true steps all = tt
steps_unless P false steps all = all

-- ---- Calls ----

abbrev pub AllCalls : (Call → Type 0) → List Call → Type 0
AllCalls P [] = ⊤
AllCalls P (call ∷ calls) = P call × AllCalls P calls

-- each wait passes
pub record PassWaits (P : Call → Type 0) : Type 0 where
  pub wait : (request : ℕ) → P (Wait request)
  pub waitall : (requests : List ℕ) → P (Waitall requests)
  pub waitany : (place : ℕ) (requests : List ℕ) → P (Waitany place requests)

pub calls_append : (P : Call → Type 0) (xs ys : List Call) → AllCalls P xs → AllCalls P ys → AllCalls P (xs ++ ys)
calls_append P [] ys first others = others
calls_append P (x ∷ xs) ys first others = (first.0, calls_append P xs ys first.1 others)

pub calls_take : (P : Call → Type 0) (n : ℕ) (calls : List Call) → AllCalls P calls → AllCalls P (take n calls)
calls_take P zero calls all = tt
calls_take P (suc n) [] all = tt
calls_take P (suc n) (call ∷ calls) all = (all.0, calls_take P n calls all.1)

wait_passes : (P : Call → Type 0) (numbers : List ℕ) → PassWaits P → AllCalls P (wait_for numbers)
wait_passes P [] waits = tt
wait_passes P (one ∷ []) waits = (waits.wait one, tt)
wait_passes P (one ∷ two ∷ others) waits = (waits.waitall (one ∷ two ∷ others), tt)

pub waits_pass : (P : Call → Type 0) (most : ℕ) (numbers : List ℕ) → PassWaits P → AllCalls P (waits_for most numbers)
waits_pass P zero numbers waits = tt
waits_pass P (suc most) numbers waits =
    calls_append P (wait_for (take MOST_REQUESTS numbers)) (waits_for most (drop MOST_REQUESTS numbers))
    (wait_passes P (take MOST_REQUESTS numbers) waits) (waits_pass P most (drop MOST_REQUESTS numbers) waits)

pub chosen_passes : (P : Call → Type 0) (number : ℕ) (numbers : List ℕ) (o : Option ℕ) → PassWaits P → P (chosen_at number numbers o)
chosen_passes P number numbers None waits = waits.wait number
chosen_passes P number numbers (Some place) waits = waits.waitany place numbers

-- ---- Steps ----

put_calls : (P : Call → Type 0) (old : Progress) (line : ℕ) (calls : List Call) → AllCalls P (calls_in old) → AllCalls P calls → AllCalls P (map (λ (one : Written). one.call) (old.records ++ plain line calls))
put_calls P old line calls all new =
    subst (λ (every : List Call). AllCalls P every) (sym (added_plain old line calls)) (calls_append P (calls_in old) calls all new)

one_passes : (P : Call → Type 0) (old : Progress) (line : ℕ) (o : Option ℕ) (numbers : List ℕ) → PassWaits P → AllCalls P (calls_in old) → AllCalls P (calls_in (wait_one old line o numbers))
one_passes P old line None numbers waits all = all
one_passes P old line (Some number) numbers waits all =
    put_calls P old line (wait_for_one number numbers ∷ []) all
    (chosen_passes P number numbers (position (λ (other : ℕ). other == number) numbers) waits, tt)

step_passes : (P : Call → Type 0) (old : Progress) (line : ℕ) (step : Step) → PassWaits P → IsStep P step → AllCalls P (calls_in old) → AllCalls P (calls_in (after_step old line step))
step_passes P old line (Does call) waits is all = put_calls P old line (call ∷ []) all (is, tt)
step_passes P old line (Starts id call) waits is all =
    let number = least_free old.active in
    subst (λ (every : List Call). AllCalls P every)
    (sym (map-append (λ (one : Written). one.call) old.records (record { call = call number; line = line; starts = Some id } ∷ [])))
    (calls_append P (calls_in old) (call number ∷ []) all (is number, tt))
step_passes P old line (WaitsForAll ids) waits is all =
    put_calls P old line (waits_for (length (numbers_of old.active ids)) (numbers_of old.active ids)) all
    (waits_pass P (length (numbers_of old.active ids)) (numbers_of old.active ids) waits)
step_passes P old line (WaitsForOne id ids) waits is all =
    one_passes P old line (number_in old.active id) (take MOST_REQUESTS (numbers_of old.active ids)) waits all
step_passes P old line (PutsOff ids) waits is all = all
step_passes P old line WaitsForLate waits is all =
    put_calls P old line (waits_for (length (numbers_of old.active old.late)) (numbers_of old.active old.late)) all
    (waits_pass P (length (numbers_of old.active old.late)) (numbers_of old.active old.late) waits)

pub steps_pass : (P : Call → Type 0) (old : Progress) (line : ℕ) (steps : List Step) → PassWaits P → AreSteps P steps → AllCalls P (calls_in old) → AllCalls P (calls_in (after_steps old line steps))
steps_pass P old line [] waits are all = all
steps_pass P old line (step ∷ steps) waits are all =
    steps_pass P (after_step old line step) line steps waits are.1 (step_passes P old line step waits are.0 all)
