-- How many calls a lawful recording has at most, and so how many seats of probes.
use Rattle.std.proofs.Common.{◌≡◌, ℕ, ◌+◌, ◌*◌, ◌<◌, ◌≤◌, ◌^◌, Option, Some, List, [], ◌∷◌, ◌++◌, length, take, get_or, ap, subst, ⊎_elim, arith}
use Rattle.std.proofs.lemmas.Bool.{cases_lt}
use Rattle.std.proofs.lemmas.List.{length-append, length-take-le}
use Rattle.std.proofs.lemmas.List.Elements.{All-from_get_or}
use Rattle.std.proofs.lemmas.List.Sums.{sum_by-set, sum_by-le}
use Rattle.std.specs.Prelude.{unwrap_or}
use Rattle.std.specs.List.{slice_get}
use Rattle.std.proofs.lemmas.Option.{slice_get-get_or, slice_get_past, slice_get_within, unwrap_or-slice_get}
use Rattle.mpicall.specs.declared.call.Call.{Call}
use Rattle.mpicall.specs.declared.call.Call.TheVariants.{Finalize}
use Rattle.mpigroup.specs.Groups.{Groups, ranks_of}
use Rattle.mpigroup.specs.declared.limits.TheConstants.{MOST_RANKS}
use Rattle.callstore.specs.Limits.{most_calls}
use Rattle.callstore.specs.Recordings.{Lists, calls_of, appended}
use Rattle.pairing.specs.Faults.{IsLawfulList, IsLawful}
use Rattle.pairing.specs.inner.Probing.{calls_in_all}
use Rattle.pairing.proofs.FaultLemmas.{fault_none}

pub one_more_call : (recording : Lists) (rank : ℕ) (call : Call) → rank < length recording → calls_in_all (appended recording rank call) ≡ calls_in_all recording + 1
one_more_call recording rank call is_rank =
    omega (
      arith,
      sum_by-set (λ (calls : List Call). length calls) recording rank (calls_of recording rank ++ call ∷ []) [] is_rank,
      length-append (calls_of recording rank) (call ∷ []),
      ap (λ (calls : List Call). length calls) (unwrap_or-slice_get recording rank []),
    )

few_calls : (groups : Groups) (rank : ℕ) (calls : List Call) → IsLawfulList groups rank calls → length calls ≤ most_calls
few_calls groups rank calls lawful =
    ⊎_elim
    (λ (more : most_calls < length calls).
    let faultless = fault_none groups rank (take most_calls calls) (get_or calls most_calls Finalize) (lawful most_calls (get_or calls most_calls Finalize) (slice_get-get_or calls most_calls Finalize more)) in
    absurd (omega (arith, faultless.has_room, length-take-le most_calls calls (omega (arith, more)))))
    (λ (few : length calls ≤ most_calls). few)
    (cases_lt most_calls (length calls))

-- so a call's place is before the most
pub place_few : (groups : Groups) (recording : Lists) (rank place : ℕ) (call : Call) → IsLawful groups recording → slice_get (calls_of recording rank) place ≡ Some call → place < most_calls
place_few groups recording rank place call lawful h =
    let within = slice_get_within (calls_of recording rank) place call h in
    ⊎_elim
    (λ (is_rank : rank < length recording). omega (arith, within, few_calls groups rank (calls_of recording rank) (lawful rank is_rank)))
    (λ (past : length recording ≤ rank).
    let none : calls_of recording rank ≡ [] = ap (λ (o : Option (List Call)). unwrap_or o []) (slice_get_past recording rank past) in
    absurd (omega (arith, within, ap (λ (calls : List Call). length calls) none)))
    (cases_lt rank (length recording))

pub few_in_all : (groups : Groups) (recording : Lists) → IsLawful groups recording → calls_in_all recording ≤ length recording * most_calls
few_in_all groups recording lawful =
    sum_by-le (λ (calls : List Call). length calls) most_calls recording
    (All-from_get_or (λ (calls : List Call). length calls ≤ most_calls) recording []
    (λ rank there. subst (λ (calls : List Call). length calls ≤ most_calls) (unwrap_or-slice_get recording rank []) (few_calls groups rank (calls_of recording rank) (lawful rank there))))

-- so the number of a seat fits 32 bits
pub few_seats : (groups : Groups) (recording : Lists) (seats : ℕ) → IsLawful groups recording → length recording ≡ ranks_of groups → ranks_of groups ≤ MOST_RANKS → seats ≤ calls_in_all recording → seats < 2 ^ 32
few_seats groups recording seats lawful ranks most few = omega (arith, ranks, most, few, few_in_all groups recording lawful)
