-- What an analyser's stands and lists are at the start, after a call, and at any time.
use Rattle.moves.specs.declared.reading.Reading.{Reading}
use Rattle.std.proofs.Common.{◌≡◌, ◌≢◌, ◌↔◌, ℕ, zero, suc, ◌+◌, ◌-◌, ◌<◌, ◌≤◌, Bool, true, false, cond, eqb, Option, Some, None, Ok, Err, IfSome, List, [], ◌∷◌, ◌++◌, length, replicate, refl, sym, ap, subst, ◌∙◌, ⊎_elim, arith, append-nil}
use Rattle.std.specs.List.{list_all, range_with_len}
use Rattle.std.proofs.lemmas.List.{length-set, length-replicate, length-append}
use Rattle.std.proofs.lemmas.Option.{none-some}
use Rattle.std.proofs.lemmas.Bool.{cases_eq, cases_Bool, eq-eqb, ne_eqb, false≢true, true_from_ne_false}
use Rattle.mpicall.specs.declared.call.Call.{Call}
use Rattle.mpigroup.proofs.ListLemmas.{get_end}
use Rattle.mpigroup.specs.Groups.{Groups, ranks_of}
use Rattle.mpicall.specs.Ending.{ends_list}
use Rattle.callstore.specs.Recordings.{Lists, calls_of, appended, GoesOn, is_ended, IsClosed}
use Rattle.pairing.specs.Faults.{fault_of, IsLawful}
use Rattle.pairing.specs.Pairs.{TellsFault}
use Rattle.pairing.specs.declared.added.PairFault.{PairFault}
use Rattle.pairing.specs.declared.fault.CallFault.{CallFault}
use Rattle.pairing.specs.declared.added.PairFault.TheVariants.{Refused, Memory}
use Rattle.pairing.proofs.FaultLemmas.{an_ended_lawful_list_is_closed}
use Rattle.callstore.proofs.RecordingLemmas.{calls_of-appended, calls_of-appended_other}
use Rattle.callstore.proofs.PlacesLemmas.{no_calls}
use Rattle.moves.specs.Runs.{State, start, IsReached, NoneCanMove, IsTheEnd}
use Rattle.moves.specs.Needs.{can_move}
use Rattle.moves.specs.Stands.{stands_of, lowest_run_over}
use Rattle.moves.specs.Arrivals.{Arrival, kept_one, kept_from, IsKeptOn, MixesStandAlike}
use Rattle.moves.proofs.RunLemmas.{reached_start}
use Rattle.moves.proofs.NeedLemmas.{can_pass}
use Rattle.moves.proofs.StandLemmas.{every_maximal_run_ends_at_the_stands, reached_on}
use Rattle.moves.proofs.ArrivalLemmas.{mixes_are_kept_alike}
use Rattle.moves.proofs.AdvanceLemmas.{stuck_end}
use Rattle.moves.proofs.LookLemmas.{fails_in_range}

-- what all numbers of a range pass, one of them passes
all_pass : (p : ℕ → Bool) (a n r : ℕ) → list_all p (range_with_len a n) ≡ true → a ≤ r → r < a + n → p r ≡ true
all_pass p a n r h from to = true_from_ne_false (p r) (λ fails. false≢true (sym (fails_in_range p a n r from to fails) ∙ h))

-- where there is no call, no rank can move
nothing_moves : (reading : Reading) (groups : Groups) (ranks : ℕ) (s : State) → NoneCanMove (can_move reading groups (replicate ranks [])) s
nothing_moves reading groups ranks s rank is_rank =
    ⊎_elim
    (λ (able : can_move reading groups (replicate ranks []) s rank ≡ true).
    let pass = can_pass reading groups (replicate ranks []) s rank able in
    absurd (none-some pass.call (rw (no_calls ranks rank) at pass.is_present)))
    (λ (unable : can_move reading groups (replicate ranks []) s rank ≡ false). unable)
    (cases_Bool (can_move reading groups (replicate ranks []) s rank))

-- at the start each rank stands where it must
pub start_end : (reading : Reading) (groups : Groups) (ranks : ℕ) → IsTheEnd (can_move reading groups (replicate ranks [])) ranks (start ranks)
start_end reading groups ranks =
    let lists : length {A = List Call} (replicate ranks []) ≡ ranks = length-replicate ranks [] in
    subst (λ (n : ℕ). IsTheEnd (can_move reading groups (replicate ranks [])) n (start ranks)) lists
    (stuck_end reading groups (replicate ranks []) (start ranks)
    (subst (λ (n : ℕ). IsReached (can_move reading groups (replicate ranks [])) n (start ranks)) (sym lists) (reached_start (can_move reading groups (replicate ranks [])) ranks))
    (nothing_moves reading groups ranks (start ranks)))

-- the end of every maximal run are the stands
pub end_stands : (reading : Reading) (groups : Groups) (recording : Lists) (s : State) → IsTheEnd (can_move reading groups recording) (length recording) s → s ≡ stands_of reading groups recording
end_stands reading groups recording s end =
    sym (end.of_all (lowest_run_over reading groups recording) (every_maximal_run_ends_at_the_stands reading groups recording).0)

-- a recording goes on by a call
more_calls : ℕ → Call → ℕ → List Call
more_calls rank call other = cond (eqb other rank) (call ∷ []) []

calls_go_on : (recording : Lists) (rank other : ℕ) (call : Call) → rank < length recording → calls_of (appended recording rank call) other ≡ calls_of recording other ++ more_calls rank call other
unfolding more_calls
calls_go_on recording rank other call is_rank =
    ⊎_elim
    (λ (same : other ≡ rank). rw (eq-eqb other rank same) (rw same (calls_of-appended recording rank call is_rank)))
    (λ (differs : other ≢ rank). rw (ne_eqb other rank differs) (calls_of-appended_other recording rank other call differs ∙ sym (append-nil (calls_of recording other))))
    (cases_eq other rank)

pub goes_on_by : (recording : Lists) (rank : ℕ) (call : Call) → rank < length recording → GoesOn recording (appended recording rank call)
goes_on_by recording rank call is_rank = record {
  same_ranks = sym (length-set recording rank (calls_of recording rank ++ call ∷ []));
  more = more_calls rank call;
  goes_on = λ other. calls_go_on recording rank other call is_rank;
}

-- what the ranks have reached, they have reached with one more call
pub still_reached : (reading : Reading) (groups : Groups) (recording : Lists) (rank : ℕ) (call : Call) (s : State) → rank < length recording → IsTheEnd (can_move reading groups recording) (length recording) s → IsReached (can_move reading groups (appended recording rank call)) (length (appended recording rank call)) s
still_reached reading groups recording rank call s is_rank end =
    reached_on reading groups recording (appended recording rank call) s (goes_on_by recording rank call is_rank) end.is_reached

-- one arrival more
kept_from_more : (groups : Groups) (recording : Lists) (arrivals : List Arrival) (arrival : Arrival) → kept_from groups recording (arrivals ++ arrival ∷ []) ≡ kept_one groups (kept_from groups recording arrivals) arrival
kept_from_more groups recording [] arrival = refl
kept_from_more groups recording (first ∷ rest) arrival = kept_from_more groups (kept_one groups recording first) rest arrival

kept_on : (groups : Groups) (old new : Lists) (arrival : Arrival) → new ≡ kept_one groups old arrival → IsKeptOn groups old new arrival
kept_on groups old new arrival h arrivals is =
    h ∙ ap (λ (recording : Lists). kept_one groups recording arrival) is ∙ sym (kept_from_more groups (replicate (ranks_of groups) []) arrivals arrival)

-- a call that was taken has no fault, since it would have been refused
pub accepted_none : {A : Type 0} (first : Option CallFault) (x : A) → IfSome first (λ fault. Ok x ≡ Err (Refused fault)) → first ≡ None
accepted_none None x refused = refl
accepted_none (Some fault) x refused = cc

pub accepted_kept : (groups : Groups) (old new : Lists) (rank : ℕ) (call : Call) → fault_of groups rank (calls_of old rank) call ≡ None → new ≡ appended old rank call → IsKeptOn groups old new (rank, call)
accepted_kept groups old new rank call none is =
    kept_on groups old new (rank, call) (rw none is)

pub refused_kept : (groups : Groups) (old new : Lists) (rank : ℕ) (call : Call) (fault : PairFault) → TellsFault (fault_of groups rank (calls_of old rank) call) fault → fault ≢ Memory → new ≡ old → IsKeptOn groups old new (rank, call)
refused_kept groups old new rank call (Refused fault) told other same = kept_on groups old new (rank, call) (rw told same)
refused_kept groups old new rank call Memory told other same = absurd (other refl)

pub mixes_stand_alike : MixesStandAlike
mixes_stand_alike reading groups a b same = ap (stands_of reading groups) (mixes_are_kept_alike groups a b same)

-- numbers of a range that all pass
all_from : (p : ℕ → Bool) (a n : ℕ) → ((r : ℕ) → a ≤ r → r < a + n → p r ≡ true) → list_all p (range_with_len a n) ≡ true
all_from p a zero h = refl
all_from p a (suc n) h =
    let first : p a ≡ true = h a (omega arith) (omega arith) in
    rw first (all_from p (a + 1) n (λ r from to. h r (omega arith) (omega arith)))

-- a list whose last call ends it is ended
pub closed_is_ended : (calls before : List Call) (last : Call) → calls ≡ before ++ last ∷ [] → ends_list last ≡ true → is_ended calls ≡ true
closed_is_ended calls before last is ends =
    let place : length (before ++ last ∷ []) - 1 ≡ length before = omega (arith, length-append before (last ∷ [])) in
    rw is (rw (place, get_end before last) ends)

-- a lawful recording is closed where each list is ended
pub closed_where_ended : (groups : Groups) (recording : Lists) (ranks : ℕ) (all : Bool) → IsLawful groups recording → ranks ≡ length recording → all ≡ list_all (λ rank. is_ended (calls_of recording rank)) (range_with_len 0 ranks) → (all ≡ true) ↔ IsClosed recording
closed_where_ended groups recording ranks all lawful many is = (
  λ h rank is_rank.
      an_ended_lawful_list_is_closed groups rank (calls_of recording rank) (lawful rank is_rank)
      (all_pass (λ rank. is_ended (calls_of recording rank)) 0 ranks rank (sym is ∙ h) (omega arith) (omega (arith, many, is_rank))),
  λ closed.
      is ∙ all_from (λ rank. is_ended (calls_of recording rank)) 0 ranks
      (λ rank from to.
      let list = closed rank (omega (arith, many, to)) in
      closed_is_ended (calls_of recording rank) list.before list.last list.is_all list.is_the_end),
)
