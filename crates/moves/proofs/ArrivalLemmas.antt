-- What is kept of arrivals.
use Rattle.std.proofs.Common.{◌≡◌, ◌≢◌, ℕ, suc, ◌<◌, true, false, cond, is_none, Option, Some, None, List, [], ◌∷◌, ◌++◌, length, replicate, refl, sym, ap, subst, ◌∙◌, ⊎_elim, arith}
use Rattle.std.proofs.lemmas.List.{length-set}
use Rattle.std.proofs.lemmas.Option.{none-some}
use Rattle.std.proofs.lemmas.Bool.{cases_eq, cases_Bool, false≢true, eq-eqb, ne_eqb}
use Rattle.mpicall.specs.declared.call.Call.{Call}
use Rattle.mpigroup.specs.Groups.{Groups, ranks_of}
use Rattle.pairing.specs.declared.fault.CallFault.{CallFault}
use Rattle.callstore.specs.Recordings.{Lists, calls_of, appended}
use Rattle.pairing.specs.Faults.{fault_of, IsLawfulList, IsLawful}
use Rattle.pairing.proofs.FaultLemmas.{lawful_push}
use Rattle.callstore.proofs.RecordingLemmas.{calls_of-appended, calls_of-appended_other}
use Rattle.callstore.proofs.PlacesLemmas.{no_calls}
use Rattle.moves.specs.Arrivals.{Arrival, kept_one, kept_from, kept_of, calls_by, KeptIsLawful, MixesAreKeptAlike}

length-kept_one : (groups : Groups) (recording : Lists) (arrival : Arrival) → length (kept_one groups recording arrival) ≡ length recording
length-kept_one groups recording arrival =
    ⊎_elim
    (λ (fine : is_none (fault_of groups arrival.0 (calls_of recording arrival.0) arrival.1) ≡ true).
    rw fine (length-set recording arrival.0 (calls_of recording arrival.0 ++ arrival.1 ∷ [])))
    (λ (fault : is_none (fault_of groups arrival.0 (calls_of recording arrival.0) arrival.1) ≡ false). rw fault refl)
    (cases_Bool (is_none (fault_of groups arrival.0 (calls_of recording arrival.0) arrival.1)))

length-kept_from : (groups : Groups) (recording : Lists) (arrivals : List Arrival) → length (kept_from groups recording arrivals) ≡ length recording
length-kept_from groups recording [] = refl
length-kept_from groups recording (arrival ∷ rest) =
    length-kept_from groups (kept_one groups recording arrival) rest ∙ length-kept_one groups recording arrival

none_is : (fault : Option CallFault) → is_none fault ≡ true → fault ≡ None
none_is None h = refl
none_is (Some fault) h = absurd (false≢true h)

lawful_one : (groups : Groups) (recording : Lists) (arrival : Arrival) → IsLawful groups recording → IsLawful groups (kept_one groups recording arrival)
lawful_one groups recording arrival lawful =
    ⊎_elim
    (λ (fine : is_none (fault_of groups arrival.0 (calls_of recording arrival.0) arrival.1) ≡ true).
    rw fine (lawful_appended groups recording arrival.0 arrival.1 lawful (none_is (fault_of groups arrival.0 (calls_of recording arrival.0) arrival.1) fine)))
    (λ (fault : is_none (fault_of groups arrival.0 (calls_of recording arrival.0) arrival.1) ≡ false). rw fault lawful)
    (cases_Bool (is_none (fault_of groups arrival.0 (calls_of recording arrival.0) arrival.1)))
  where
    lawful_appended : (groups : Groups) (recording : Lists) (rank : ℕ) (call : Call) → IsLawful groups recording → fault_of groups rank (calls_of recording rank) call ≡ None → IsLawful groups (appended recording rank call)
    lawful_appended groups recording rank call lawful none other is_rank =
        let there : other < length recording = omega (arith, is_rank, length-set recording rank (calls_of recording rank ++ call ∷ [])) in
        ⊎_elim
        (λ (same : other ≡ rank).
        let at_rank : rank < length recording = omega (arith, there, same) in
        rw same (subst (λ (calls : List Call). IsLawfulList groups rank calls) (sym (calls_of-appended recording rank call at_rank))
        (lawful_push groups rank (calls_of recording rank) call (lawful rank at_rank) none)))
        (λ (differs : other ≢ rank).
        subst (λ (calls : List Call). IsLawfulList groups other calls) (sym (calls_of-appended_other recording rank other call differs)) (lawful other there))
        (cases_eq other rank)

lawful_from : (groups : Groups) (recording : Lists) (arrivals : List Arrival) → IsLawful groups recording → IsLawful groups (kept_from groups recording arrivals)
lawful_from groups recording [] lawful = lawful
lawful_from groups recording (arrival ∷ rest) lawful = lawful_from groups (kept_one groups recording arrival) rest (lawful_one groups recording arrival lawful)

pub kept_is_lawful : KeptIsLawful
kept_is_lawful groups arrivals =
    lawful_from groups (replicate (ranks_of groups) []) arrivals
    (λ rank is_rank place call h. absurd (none-some call (rw (no_calls (ranks_of groups) rank) at h)))

-- what is kept of one rank's calls, one after another
kept_call : Groups → ℕ → List Call → Call → List Call
kept_call groups rank calls call = cond (is_none (fault_of groups rank calls call)) (calls ++ call ∷ []) calls

kept_calls : Groups → ℕ → List Call → List Call → List Call
kept_calls groups rank calls [] = calls
kept_calls groups rank calls (call ∷ rest) = kept_calls groups rank (kept_call groups rank calls call) rest

one_of_rank : (groups : Groups) (recording : Lists) (arrival : Arrival) → arrival.0 < length recording → calls_of (kept_one groups recording arrival) arrival.0 ≡ kept_call groups arrival.0 (calls_of recording arrival.0) arrival.1
unfolding kept_call
one_of_rank groups recording arrival is_rank =
    ⊎_elim
    (λ (fine : is_none (fault_of groups arrival.0 (calls_of recording arrival.0) arrival.1) ≡ true).
    rw fine (calls_of-appended recording arrival.0 arrival.1 is_rank))
    (λ (fault : is_none (fault_of groups arrival.0 (calls_of recording arrival.0) arrival.1) ≡ false). rw fault refl)
    (cases_Bool (is_none (fault_of groups arrival.0 (calls_of recording arrival.0) arrival.1)))

one_of_other : (groups : Groups) (recording : Lists) (arrival : Arrival) (rank : ℕ) → rank ≢ arrival.0 → calls_of (kept_one groups recording arrival) rank ≡ calls_of recording rank
one_of_other groups recording arrival rank differs =
    ⊎_elim
    (λ (fine : is_none (fault_of groups arrival.0 (calls_of recording arrival.0) arrival.1) ≡ true).
    rw fine (calls_of-appended_other recording arrival.0 rank arrival.1 differs))
    (λ (fault : is_none (fault_of groups arrival.0 (calls_of recording arrival.0) arrival.1) ≡ false). rw fault refl)
    (cases_Bool (is_none (fault_of groups arrival.0 (calls_of recording arrival.0) arrival.1)))

kept_of_rank : (groups : Groups) (recording : Lists) (arrivals : List Arrival) (rank : ℕ) → rank < length recording → calls_of (kept_from groups recording arrivals) rank ≡ kept_calls groups rank (calls_of recording rank) (calls_by rank arrivals)
unfolding kept_calls
kept_of_rank groups recording [] rank is_rank = refl
kept_of_rank groups recording (arrival ∷ rest) rank is_rank =
    let still : rank < length (kept_one groups recording arrival) = rw (length-kept_one groups recording arrival) is_rank in
    let later = kept_of_rank groups (kept_one groups recording arrival) rest rank still in
    ⊎_elim
    (λ (same : arrival.0 ≡ rank).
    let own : calls_of (kept_one groups recording arrival) rank ≡ kept_call groups rank (calls_of recording rank) arrival.1 =
    subst (λ (r : ℕ). calls_of (kept_one groups recording arrival) r ≡ kept_call groups r (calls_of recording r) arrival.1) same
    (one_of_rank groups recording arrival (omega (arith, is_rank, same))) in
    rw (eq-eqb arrival.0 rank same) (later ∙ ap (λ (calls : List Call). kept_calls groups rank calls (calls_by rank rest)) own))
    (λ (differs : arrival.0 ≢ rank).
    rw (ne_eqb arrival.0 rank differs)
    (later ∙ ap (λ (calls : List Call). kept_calls groups rank calls (calls_by rank rest)) (one_of_other groups recording arrival rank (λ e. differs (sym e)))))
    (cases_eq arrival.0 rank)

same_recordings : (a b : Lists) → length a ≡ length b → ((rank : ℕ) → rank < length a → calls_of a rank ≡ calls_of b rank) → a ≡ b
same_recordings [] [] l h = refl
same_recordings [] (y ∷ ys) l h = absurd (omega arith)
same_recordings (x ∷ xs) [] l h = absurd (omega arith)
same_recordings (x ∷ xs) (y ∷ ys) l h =
    let first : x ≡ y = h 0 (omega arith) in
    let rest : xs ≡ ys = same_recordings xs ys (omega arith) (λ rank is_rank. h (suc rank) (omega arith)) in
    cc

pub mixes_are_kept_alike : MixesAreKeptAlike
mixes_are_kept_alike groups a b same =
    same_recordings (kept_of groups a) (kept_of groups b)
    (length-kept_from groups (replicate (ranks_of groups) []) a ∙ sym (length-kept_from groups (replicate (ranks_of groups) []) b))
    (λ rank is_rank.
    let at : rank < length (replicate (ranks_of groups) []) = rw (← length-kept_from groups (replicate (ranks_of groups) []) a) is_rank in
    kept_of_rank groups (replicate (ranks_of groups) []) a rank at
    ∙ ap (λ (calls : List Call). kept_calls groups rank (calls_of (replicate (ranks_of groups) []) rank) calls) (same rank)
    ∙ sym (kept_of_rank groups (replicate (ranks_of groups) []) b rank at))
