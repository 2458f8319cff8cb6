-- Lists whose calls are all in their ranges, but for requests: as long as a list is no longer than there are numbers of
-- requests, these are in theirs too.
use Rattle.std.proofs.Common.{◌≡◌, ℕ, zero, suc, ◌+◌, ◌-◌, ◌<◌, ◌≤◌, ◌==◌, max, Bool, true, Option, Some, None, unwrap_or, List, [], ◌∷◌, ◌++◌, length, map, take, drop, refl, sym, subst, arith, inl, inr, length-append}
use Rattle.std.specs.Prelude.{⊤, nat_le}
use Rattle.std.specs.List.{list_all, find, range_with_len, position, position_or_len}
use Rattle.std.specs.Option.{option_map_or}
use Rattle.std.proofs.lemmas.Bool.{cases_Bool, eqb-true, false≢true, le-leb, cases_lt, lt-ltb, le-ltb}
use Rattle.std.proofs.lemmas.List.{map-append}
use Rattle.std.proofs.lemmas.Option.{none-some, same_Some}
use Rattle.mpicall.specs.Argument.{is_in_range, request_argument}
use Rattle.mpicall.specs.Limits.{in_ranges}
use Rattle.mpicall.specs.declared.call.Call.{Call}
use Rattle.mpicall.specs.declared.call.Call.TheVariants.{Wait, Waitall, Waitany}
use Rattle.mpicall.specs.declared.limits.TheConstants.{GREATEST_REQUEST, MOST_REQUESTS}
use Rattle.callstore.specs.Requests.{starts}
use Rattle.closing.specs.Steps.{Id, Written, Progress, Step, Does, Starts, WaitsForAll, WaitsForOne, PutsOff, WaitsForLate, number_in, has_number, without, without_all, numbers_of, is_free, above, least_free, wait_for, waits_for, chosen_at, wait_for_one, wait_all, wait_one, plain, after_step, after_steps}
use Rattle.lawful.proofs.RequestLemmas.{AreDrawn, drawn, drawn_take, numbered}
use Rattle.lawful.proofs.StepLemmas.{AreSaid, IsSaid, calls_in, added_plain}
use Rattle.lawful.proofs.PassLemmas.{IsStep, AreSteps}

-- ---- Places ----

-- each call is in its ranges, as long as its place is no greater than a request's number may be
abbrev pub AllRanged : ℕ → List Call → Type 0
AllRanged place [] = ⊤
AllRanged place (call ∷ calls) = (place ≤ GREATEST_REQUEST → in_ranges call ≡ true) × AllRanged (place + 1) calls

-- the call is, if the number of the request that it starts is
abbrev pub Ranged : Call → Type 0
Ranged call = option_map_or (λ (number : ℕ). nat_le number GREATEST_REQUEST) (starts call) true ≡ true → in_ranges call ≡ true

ranged_append : (place : ℕ) (xs ys : List Call) → AllRanged place xs → AllRanged (place + length xs) ys → AllRanged place (xs ++ ys)
ranged_append place [] ys first others = subst (λ (n : ℕ). AllRanged n ys) (plus_zero place) others
  where
    plus_zero : (n : ℕ) → n + 0 ≡ n
    plus_zero n = omega arith
ranged_append place (x ∷ xs) ys first others =
    (first.0, ranged_append (place + 1) xs ys first.1 (subst (λ (n : ℕ). AllRanged n ys) (one_more place (length xs)) others))
  where
    one_more : (a b : ℕ) → a + suc b ≡ (a + 1) + b
    one_more a b = omega arith

pub ranged_take : (n place : ℕ) (calls : List Call) → AllRanged place calls → AllRanged place (take n calls)
ranged_take zero place calls all = tt
ranged_take (suc n) place [] all = tt
ranged_take (suc n) place (call ∷ calls) all = (all.0, ranged_take n (place + 1) calls all.1)

-- calls in a list that is short enough are all in their ranges
pub ranged_all : (place : ℕ) (calls : List Call) → place + length calls ≤ GREATEST_REQUEST → AllRanged place calls → list_all in_ranges calls ≡ true
ranged_all place [] short all = refl
ranged_all place (call ∷ calls) short all =
    rw (all.0 (omega (arith, short)), ranged_all (place + 1) calls (omega (arith, short)) all.1) refl

-- ---- Numbers ----

-- each is below a bound
abbrev pub AllLow : ℕ → List ℕ → Type 0
AllLow bound [] = ⊤
AllLow bound (number ∷ numbers) = (number < bound) × AllLow bound numbers

low_more : (bound more : ℕ) (numbers : List ℕ) → bound ≤ more → AllLow bound numbers → AllLow more numbers
low_more bound more [] le all = tt
low_more bound more (number ∷ numbers) le all = (omega (arith, le, all.0), low_more bound more numbers le all.1)

low_take : (bound n : ℕ) (numbers : List ℕ) → AllLow bound numbers → AllLow bound (take n numbers)
low_take bound zero numbers all = tt
low_take bound (suc n) [] all = tt
low_take bound (suc n) (number ∷ numbers) all = (all.0, low_take bound n numbers all.1)

low_drop : (bound n : ℕ) (numbers : List ℕ) → AllLow bound numbers → AllLow bound (drop n numbers)
low_drop bound zero numbers all = all
low_drop bound (suc n) [] all = tt
low_drop bound (suc n) (number ∷ numbers) all = low_drop bound n numbers all.1

has_low : (active : List (Id × ℕ)) (number : ℕ) → has_number active number ≡ true → number < above active
has_low [] number has = absurd (false≢true has)
has_low (one ∷ active) number has =
    elim (cases_Bool (one.1 == number)) [
      | inl here ↦ let same : one.1 ≡ number = eqb-true one.1 number here in omega (arith, same)
      | inr there ↦ let rest = has_low active number (rw there at has) in omega (arith, rest)
    ]

above_without : (number : ℕ) (active : List (Id × ℕ)) → above (without number active) ≤ above active
above_without number [] = omega arith
above_without number (one ∷ active) =
    elim (cases_Bool (one.1 == number)) [
      | inl here ↦ rw here (let rest = above_without number active in omega (arith, rest))
      | inr there ↦ rw there (let rest = above_without number active in omega (arith, rest))
    ]

above_without_all : (numbers : List ℕ) (active : List (Id × ℕ)) → above (without_all numbers active) ≤ above active
above_without_all [] active = omega arith
above_without_all (number ∷ numbers) active =
    let rest = above_without_all numbers (without number active) in
    let first = above_without number active in
    omega (arith, rest, first)

drawn_low : (numbers : List ℕ) (active : List (Id × ℕ)) → AreDrawn numbers active → AllLow (above active) numbers
drawn_low [] active all = tt
drawn_low (number ∷ numbers) active all = (
  has_low active number all.0,
  low_more (above (without number active)) (above active) numbers (above_without number active) (drawn_low numbers (without number active) all.1),
)

-- ---- The least free number ----

range_low : (first count bound : ℕ) → first + count ≤ bound → AllLow bound (range_with_len first count)
range_low first zero bound le = tt
range_low first (suc count) bound le = (omega (arith, le), range_low (first + 1) count bound (omega (arith, le)))

found_low : (test : ℕ → Bool) (numbers : List ℕ) (bound : ℕ) → AllLow bound numbers → unwrap_or (find test numbers) bound ≤ bound
found_low test [] bound all = omega arith
found_low test (number ∷ numbers) bound all =
    elim (cases_Bool (test number)) [
      | inl here ↦ rw here (omega (arith, all.0))
      | inr there ↦ rw there (found_low test numbers bound all.1)
    ]

least_low : (active : List (Id × ℕ)) → least_free active ≤ above active
least_low active =
    found_low (is_free active) (range_with_len 0 (above active)) (above active) (range_low 0 (above active) (above active) (omega arith))

-- ---- Waits ----

request_ranged : (bound number : ℕ) → number < bound → bound ≤ GREATEST_REQUEST → nat_le number GREATEST_REQUEST ≡ true
request_ranged bound number low le = le-leb number GREATEST_REQUEST (omega (arith, low, le))

requests_ranged : (bound : ℕ) (numbers : List ℕ) → AllLow bound numbers → bound ≤ GREATEST_REQUEST → list_all is_in_range (map request_argument numbers) ≡ true
requests_ranged bound [] all le = refl
requests_ranged bound (number ∷ numbers) all le =
    rw (request_ranged bound number all.0 le, requests_ranged bound numbers all.1 le) refl

one_ranged : (bound number : ℕ) → number < bound → bound ≤ GREATEST_REQUEST → in_ranges (Wait number) ≡ true
one_ranged bound number low le = rw (request_ranged bound number low le) refl

several_ranged : (bound : ℕ) (numbers : List ℕ) → AllLow bound numbers → 1 ≤ length numbers → length numbers ≤ MOST_REQUESTS → bound ≤ GREATEST_REQUEST → in_ranges (Waitall numbers) ≡ true
several_ranged bound numbers all some few le =
    rw (requests_ranged bound numbers all le, le-leb 1 (length numbers) some, le-leb (length numbers) MOST_REQUESTS few) refl

any_ranged : (bound place : ℕ) (numbers : List ℕ) → AllLow bound numbers → place < length numbers → length numbers ≤ MOST_REQUESTS → bound ≤ GREATEST_REQUEST → in_ranges (Waitany place numbers) ≡ true
any_ranged bound place numbers all within few le =
    rw (le-leb place (length numbers - 1) (omega (arith, within)), requests_ranged bound numbers all le, le-leb 1 (length numbers) (omega (arith, within)), le-leb (length numbers) MOST_REQUESTS few) refl

wait_ranged : (bound place : ℕ) (numbers : List ℕ) → AllLow bound numbers → length numbers ≤ MOST_REQUESTS → bound ≤ place → AllRanged place (wait_for numbers)
wait_ranged bound place [] all few le = tt
wait_ranged bound place (one ∷ []) all few le = (λ within. one_ranged bound one all.0 (omega (arith, le, within)), tt)
wait_ranged bound place (one ∷ two ∷ numbers) all few le =
    (λ within. several_ranged bound (one ∷ two ∷ numbers) all (omega arith) few (omega (arith, le, within)), tt)

few_taken : {A : Type 0} (n : ℕ) (xs : List A) → length (take n xs) ≤ n
few_taken zero xs = omega arith
few_taken (suc n) [] = omega arith
few_taken (suc n) (x ∷ xs) = let rest = few_taken n xs in omega (arith, rest)

waits_ranged : (most bound place : ℕ) (numbers : List ℕ) → AllLow bound numbers → bound ≤ place → AllRanged place (waits_for most numbers)
waits_ranged zero bound place numbers all le = tt
waits_ranged (suc most) bound place numbers all le =
    ranged_append place (wait_for (take MOST_REQUESTS numbers)) (waits_for most (drop MOST_REQUESTS numbers))
    (wait_ranged bound place (take MOST_REQUESTS numbers) (low_take bound MOST_REQUESTS numbers all) (few_taken MOST_REQUESTS numbers) le)
    (waits_ranged most bound (place + length (wait_for (take MOST_REQUESTS numbers))) (drop MOST_REQUESTS numbers)
    (low_drop bound MOST_REQUESTS numbers all) (omega (arith, le)))

position_within : (test : ℕ → Bool) (numbers : List ℕ) (place : ℕ) → position test numbers ≡ Some place → place < length numbers
position_within test numbers place h =
    elim (cases_lt (position_or_len test numbers) (length numbers)) [
      | inl within ↦
          subst (λ (n : ℕ). n < length numbers)
          (same_Some (position_or_len test numbers) place (rw (lt-ltb (position_or_len test numbers) (length numbers) within) at h)) within
      | inr past ↦ absurd (none-some place (rw (le-ltb (position_or_len test numbers) (length numbers) past) at h))
    ]

chosen_ranged : (bound place number : ℕ) (numbers : List ℕ) (o : Option ℕ) → position (λ (other : ℕ). other == number) numbers ≡ o → number < bound → AllLow bound numbers → length numbers ≤ MOST_REQUESTS → bound ≤ place → AllRanged place (chosen_at number numbers o ∷ [])
chosen_ranged bound place number numbers None is low all few le = (λ within. one_ranged bound number low (omega (arith, le, within)), tt)
chosen_ranged bound place number numbers (Some index) is low all few le =
    (λ within. any_ranged bound index numbers all (position_within (λ (other : ℕ). other == number) numbers index is) few (omega (arith, le, within)), tt)

-- ---- Steps ----

-- the calls so far are in their ranges, and the numbers of requests are no more than there are calls
pub record InRanges (progress : Progress) : Type 0 where
  pub ranged : AllRanged 0 (calls_in progress)
  pub low : above progress.active ≤ length (calls_in progress)

put_ranged : (old : Progress) (line : ℕ) (new : List Call) (active : List (Id × ℕ)) → InRanges old → AllRanged (length (calls_in old)) new → above active ≤ above old.active → InRanges (record old { records = old.records ++ plain line new; active = active })
put_ranged old line new active ranges others le = record {
  ranged = subst (λ (all : List Call). AllRanged 0 all) (sym (added_plain old line new))
      (ranged_append 0 (calls_in old) new ranges.ranged (subst (λ (n : ℕ). AllRanged n new) (zero_plus (length (calls_in old))) others));
  low = subst (λ (all : List Call). above active ≤ length all) (sym (added_plain old line new))
      (subst (λ (n : ℕ). above active ≤ n) (sym (length-append (calls_in old) new)) (longer (above active) (above old.active) (length (calls_in old)) (length new) le ranges.low));
}
  where
    zero_plus : (n : ℕ) → n ≡ 0 + n
    zero_plus n = omega arith

    longer : (a b c d : ℕ) → a ≤ b → b ≤ c → a ≤ c + d
    longer a b c d ab bc = omega (arith, ab, bc)

le_three : (a b c : ℕ) → a ≤ b → b ≤ c → 0 + c ≤ GREATEST_REQUEST → a ≤ GREATEST_REQUEST
le_three a b c ab bc cg = omega (arith, ab, bc, cg)

start_ranged : (old : Progress) (line : ℕ) (id : Id) (call : ℕ → Call) → ((number : ℕ) → starts (call number) ≡ Some number) → ((number : ℕ) → Ranged (call number)) → InRanges old → InRanges (after_step old line (Starts id call))
start_ranged old line id call starts_it ranged ranges =
    let number = least_free old.active in
    let are = map-append (λ (one : Written). one.call) old.records (record { call = call number; line = line; starts = Some id } ∷ []) in
    let le = least_low old.active in
    record {
      ranged = subst (λ (all : List Call). AllRanged 0 all) (sym are)
          (ranged_append 0 (calls_in old) (call number ∷ []) ranges.ranged (here number le, tt));
      low = subst (λ (all : List Call). max (number + 1) (above old.active) ≤ length all) (sym are)
          (subst (λ (n : ℕ). max (number + 1) (above old.active) ≤ n) (sym (length-append (calls_in old) (call number ∷ []))) (one_more number (above old.active) (length (calls_in old)) le ranges.low));
    }
  where
    one_more : (a b c : ℕ) → a ≤ b → b ≤ c → max (a + 1) b ≤ c + 1
    one_more a b c ab bc = omega (arith, ab, bc)

    here : (number : ℕ) → number ≤ above old.active → 0 + length (calls_in old) ≤ GREATEST_REQUEST → in_ranges (call number) ≡ true
    here number le within =
        let fits = le-leb number GREATEST_REQUEST (le_three number (above old.active) (length (calls_in old)) le ranges.low within) in
        ranged number (rw (starts_it number, fits) refl)

wait_all_ranged : (old : Progress) (line : ℕ) (numbers : List ℕ) → AreDrawn numbers old.active → InRanges old → InRanges (wait_all old line numbers)
wait_all_ranged old line numbers all ranges =
    put_ranged old line (waits_for (length numbers) numbers) (without_all numbers old.active) ranges
    (waits_ranged (length numbers) (above old.active) (length (calls_in old)) numbers (drawn_low numbers old.active all) ranges.low)
    (above_without_all numbers old.active)

wait_one_ranged : (old : Progress) (line : ℕ) (id : Id) (o : Option ℕ) (numbers : List ℕ) → number_in old.active id ≡ o → AreDrawn numbers old.active → length numbers ≤ MOST_REQUESTS → InRanges old → InRanges (wait_one old line o numbers)
wait_one_ranged old line id None numbers is all few ranges = ranges
wait_one_ranged old line id (Some number) numbers is all few ranges =
    put_ranged old line (wait_for_one number numbers ∷ []) (without_all (number ∷ []) old.active) ranges
    (chosen_ranged (above old.active) (length (calls_in old)) number numbers (position (λ (other : ℕ). other == number) numbers) refl
    (has_low old.active number (numbered old.active id number is)) (drawn_low numbers old.active all) few ranges.low)
    (above_without_all (number ∷ []) old.active)

step_ranged : (old : Progress) (line : ℕ) (step : Step) → IsSaid step → IsStep Ranged step → InRanges old → InRanges (after_step old line step)
step_ranged old line (Does call) said is ranges =
    put_ranged old line (call ∷ []) old.active ranges (λ within. is (rw said.starts_none refl), tt) (omega arith)
step_ranged old line (Starts id call) said is ranges = start_ranged old line id call (λ number. (said number).starts_it) is ranges
step_ranged old line (WaitsForAll ids) said is ranges = wait_all_ranged old line (numbers_of old.active ids) (drawn old.active ids) ranges
step_ranged old line (WaitsForOne id ids) said is ranges =
    wait_one_ranged old line id (number_in old.active id) (take MOST_REQUESTS (numbers_of old.active ids)) refl
    (drawn_take MOST_REQUESTS (numbers_of old.active ids) old.active (drawn old.active ids)) (few_taken MOST_REQUESTS (numbers_of old.active ids)) ranges
step_ranged old line (PutsOff ids) said is ranges = record { ranged = ranges.ranged; low = ranges.low }
step_ranged old line WaitsForLate said is ranges = wait_all_ranged old line (numbers_of old.active old.late) (drawn old.active old.late) ranges

pub steps_ranged : (old : Progress) (line : ℕ) (steps : List Step) → AreSaid steps → AreSteps Ranged steps → InRanges old → InRanges (after_steps old line steps)
steps_ranged old line [] said are ranges = ranges
steps_ranged old line (step ∷ steps) said are ranges =
    steps_ranged (after_step old line step) line steps said.1 are.1 (step_ranged old line step said.0 are.0 ranges)
