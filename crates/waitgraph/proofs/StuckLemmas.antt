-- Stuck ranks of a closed recording: each waits, and for a rank that is stuck.
use Rattle.moves.specs.declared.reading.Reading.{Reading}
use Rattle.moves.specs.declared.reading.Reading.TheVariants.{Strict, Eager}
use Rattle.std.proofs.Common.{◌≡◌, ◌≢◌, ℕ, zero, suc, ◌+◌, ◌<◌, ◌≤◌, Bool, true, false, ◌&&◌, Option, Some, List, [], ◌∷◌, length, get_or, refl, sym, ap, ◌∙◌, ⊎_elim, arith, length-append}
use Rattle.std.specs.Prelude.{nat_lt, slice_index}
use Rattle.std.specs.List.{slice_get, list_all, list_any}
use Rattle.std.specs.Option.{option_map_or}
use Rattle.std.proofs.lemmas.Option.{none-some, same_Some, slice_get-get_or}
use Rattle.std.proofs.lemmas.Bool.{cases_eq, false≢true, or_parts, ltb-true, leb-false, not-true, not-false}
use Rattle.mpicall.specs.Ending.{ends_list}
use Rattle.mpicall.specs.declared.call.Call.{Call}
use Rattle.mpicall.specs.declared.call.Call.TheVariants.{Finalize, Open}
use Rattle.mpigroup.specs.Groups.{Groups}
use Rattle.mpigroup.proofs.ListLemmas.{get_end}
use Rattle.callstore.specs.Recordings.{Lists, calls_of, IsClosedList, IsClosed}
use Rattle.callstore.proofs.PlaceLemmas.{slice_get-front}
use Rattle.moves.specs.declared.need.Need.{Need}
use Rattle.moves.specs.declared.need.Need.TheVariants.{At}
use Rattle.moves.specs.Needs.{needs_of, is_met, may_pass, can_move}
use Rattle.moves.specs.Stands.{stands_of, is_at_end, lowest_run_over}
use Rattle.moves.proofs.RunLemmas.{reached_ranks}
use Rattle.moves.proofs.StandLemmas.{EndsThere, end_there, every_maximal_run_ends_at_the_stands, no_call_behind_the_end_is_reached}
use Rattle.pairing.proofs.RankLemmas.{calls_past}
use Rattle.waitgraph.specs.Stuck.{is_stuck, unmet_at, unmet_of, StuckRanksWaitForStuckRanks}
use Rattle.waitgraph.proofs.AmongLemmas.{Among, in_among, among_all, one_fails}
use Rattle.waitgraph.proofs.UnmetLemmas.{unmet_from, unmet_all}
use Rattle.waitgraph.proofs.CalledLemmas.{is_call, needs_called}

none_of : (p : Call → Bool) (calls : List Call) (index : ℕ) (call : Call) → list_any p calls ≡ false → slice_get calls index ≡ Some call → p call ≡ false
none_of p [] index call none h = absurd (none-some call h)
none_of p (first ∷ rest) zero call none h = ap p (sym (same_Some first call h)) ∙ (or_parts (p first) (list_any p rest) none).0
none_of p (first ∷ rest) (suc index) call none h = none_of p rest index call (or_parts (p first) (list_any p rest) none).1 h

-- a closed list has the call that ends it in the last place, and another one in each place before
pub record EndsAt (calls : List Call) : Type 0 where
  pub end : ℕ
  pub is_last : length calls ≡ end + 1
  pub last : Call
  pub is_there : slice_get calls end ≡ Some last
  pub ends : ends_list last ≡ true
  pub before : (place : ℕ) (call : Call) → place < end → slice_get calls place ≡ Some call → ends_list call ≡ false

pub ends_at : (calls : List Call) → IsClosedList calls → EndsAt calls
ends_at calls closed = record {
  end = length closed.before;
  is_last = ap (λ (cs : List Call). length cs) closed.is_all ∙ length-append closed.before (closed.last ∷ []);
  last = closed.last;
  is_there =
      ap (λ (cs : List Call). slice_get cs (length closed.before)) closed.is_all
      ∙ get_end closed.before closed.last;
  ends = closed.is_the_end;
  before = λ place call low h.
      none_of ends_list closed.before place call closed.has_no_other
      (sym (slice_get-front closed.before (closed.last ∷ []) place low) ∙ ap (λ (cs : List Call). slice_get cs place) (sym closed.is_all) ∙ h);
}

-- no rank stands past its end
pub not_past : (reading : Reading) (groups : Groups) (recording : Lists) (rank : ℕ) (ends : EndsAt (calls_of recording rank)) → slice_index (stands_of reading groups recording) rank ≤ ends.end
not_past reading groups recording rank ends =
    no_call_behind_the_end_is_reached reading groups recording rank ends.end ends.last (lowest_run_over reading groups recording) (every_maximal_run_ends_at_the_stands reading groups recording).0.is_run ends.is_there ends.ends

-- the present call of a stuck rank
pub record StandsBefore (reading : Reading) (groups : Groups) (recording : Lists) (rank : ℕ) : Type 0 where
  pub call : Call
  pub is_present : slice_get (calls_of recording rank) (slice_index (stands_of reading groups recording) rank) ≡ Some call
  pub is_no_end : ends_list call ≡ false

pub stands_before : (reading : Reading) (groups : Groups) (recording : Lists) (rank : ℕ) (ends : EndsAt (calls_of recording rank)) → slice_index (stands_of reading groups recording) rank < ends.end → StandsBefore reading groups recording rank
stands_before reading groups recording rank ends low =
    let stand = slice_index (stands_of reading groups recording) rank in
    let within : stand < length (calls_of recording rank) = omega (arith, ends.is_last) in
    let there = slice_get-get_or (calls_of recording rank) stand Finalize within in
    record {
      call = get_or (calls_of recording rank) (slice_index (stands_of reading groups recording) rank) Finalize;
      is_present = there;
      is_no_end = ends.before stand (get_or (calls_of recording rank) (slice_index (stands_of reading groups recording) rank) Finalize) low there;
    }

pub stuck_low : (reading : Reading) (groups : Groups) (recording : Lists) (rank : ℕ) (ends : EndsAt (calls_of recording rank)) → is_stuck reading groups recording rank ≡ true → slice_index (stands_of reading groups recording) rank < ends.end
stuck_low reading groups recording rank ends stuck =
    let stand = slice_index (stands_of reading groups recording) rank in
    let most = not_past reading groups recording rank ends in
    ⊎_elim
    (λ (same : stand ≡ ends.end).
    let there : is_at_end recording (stands_of reading groups recording) rank ≡ true =
    ap (λ (o : Option Call). option_map_or ends_list o false) (ap (λ (place : ℕ). slice_get (calls_of recording rank) place) same ∙ ends.is_there) ∙ ends.ends in
    absurd (false≢true (sym (not-true (is_at_end recording (stands_of reading groups recording) rank) stuck) ∙ there)))
    (λ (other : stand ≢ ends.end). omega arith)
    (cases_eq stand ends.end)

pub stuck_from : (reading : Reading) (groups : Groups) (recording : Lists) (rank : ℕ) → StandsBefore reading groups recording rank → is_stuck reading groups recording rank ≡ true
stuck_from reading groups recording rank present = rw (present.is_present, present.is_no_end) refl

-- there is a stand for each rank
rank_count : (reading : Reading) (groups : Groups) (recording : Lists) → length (stands_of reading groups recording) ≡ length recording
rank_count reading groups recording =
    reached_ranks (can_move reading groups recording) (length recording) (stands_of reading groups recording) (every_maximal_run_ends_at_the_stands reading groups recording).1.is_reached

first_of : (need : Need) (needs : List Need) → Among need needs → (first : Need) × (slice_get needs 0 ≡ Some first)
first_of need [] h = absurd h
first_of need (first ∷ rest) h = (first, refl)

-- the first unmet need of a rank
pub record FirstNeed (reading : Reading) (groups : Groups) (recording : Lists) (rank : ℕ) : Type 0 where
  pub need : Need
  pub is_first : slice_get (unmet_of reading groups recording rank) 0 ≡ Some need

-- a rank that stands before its end has an unmet need
pub needs_before : (reading : Reading) (groups : Groups) (recording : Lists) (rank : ℕ) → rank < length recording → StandsBefore reading groups recording rank → FirstNeed reading groups recording rank
needs_before reading groups recording rank is_rank present =
    let stands = stands_of reading groups recording in
    let needs = needs_of reading groups recording rank (slice_index (stands_of reading groups recording) rank) in
    let cannot = (every_maximal_run_ends_at_the_stands reading groups recording).1.is_stuck rank (omega (arith, rank_count reading groups recording)) in
    let unmet : list_all (is_met (stands_of reading groups recording)) (needs_of reading groups recording rank (slice_index (stands_of reading groups recording) rank)) ≡ false =
    not_all groups recording rank present.call (list_all (is_met (stands_of reading groups recording)) (needs_of reading groups recording rank (slice_index (stands_of reading groups recording) rank))) present.is_present present.is_no_end cannot in
    let one = one_fails (is_met (stands_of reading groups recording)) (needs_of reading groups recording rank (slice_index (stands_of reading groups recording) rank)) unmet in
    let first = first_of one.0 (unmet_at reading groups recording (stands_of reading groups recording) rank) (unmet_all reading groups recording (stands_of reading groups recording) rank one.0 one.1 one.2) in
    record {
      need = first.0;
      is_first = first.1;
    }
  where
    not_all : (groups : Groups) (recording : Lists) (rank : ℕ) (call : Call) (all : Bool) → slice_get (calls_of recording rank) (slice_index (stands_of reading groups recording) rank) ≡ Some call → ends_list call ≡ false → (may_pass (slice_get (calls_of recording rank) (slice_index (stands_of reading groups recording) rank)) && all) ≡ false → all ≡ false
    not_all groups recording rank call all present not_finalize h = rw (present, not_finalize) at h

-- for whom a rank waits stands before its end
pub record IsAwaited (reading : Reading) (groups : Groups) (recording : Lists) (peer : ℕ) : Type 0 where
  pub is_rank : peer < length recording
  pub stands : StandsBefore reading groups recording peer

pub awaited_stands : (reading : Reading) (groups : Groups) (recording : Lists) → IsClosed recording → (rank next place : ℕ) → Among (At next place) (unmet_of reading groups recording rank) → IsAwaited reading groups recording next
awaited_stands reading groups recording closed rank next place h =
    let parts = unmet_from reading groups recording (stands_of reading groups recording) rank (At next place) h in
    let called : nat_lt place (length (calls_of recording next)) ≡ true =
    among_all (At next place) (is_call recording) (needs_of reading groups recording rank (slice_index (stands_of reading groups recording) rank)) parts.0 (needs_called reading groups recording rank (slice_index (stands_of reading groups recording) rank)) in
    let within = ltb-true place (length (calls_of recording next)) called in
    let is_rank = calls_past recording next place within in
    let behind = leb-false place (slice_index (stands_of reading groups recording) next) parts.1 in
    let ends = ends_at (calls_of recording next) (closed next is_rank) in
    record { is_rank = is_rank; stands = stands_before reading groups recording next ends (omega (arith, ends.is_last)) }

pub ends_without_needs : (reading : Reading) (groups : Groups) (recording : Lists) (rank place : ℕ) (call : Call) → slice_get (calls_of recording rank) place ≡ Some call → ends_list call ≡ true → needs_of reading groups recording rank place ≡ []
ends_without_needs Strict groups recording rank place Finalize is_there ends = rw is_there (rw is_there refl)
ends_without_needs Strict groups recording rank place Open is_there ends = rw is_there (rw is_there refl)
ends_without_needs (Eager limit) groups recording rank place Finalize is_there ends = rw is_there (rw is_there refl)
ends_without_needs (Eager limit) groups recording rank place Open is_there ends = rw is_there (rw is_there refl)
ends_without_needs reading groups recording rank place _ is_there ends = absurd (false≢true ends)

no_needs : (reading : Reading) (groups : Groups) (recording : Lists) (rank place : ℕ) → EndsThere (slice_get (calls_of recording rank) place) → needs_of reading groups recording rank place ≡ []
no_needs reading groups recording rank place there = ends_without_needs reading groups recording rank place there.end there.is_present there.ends

-- a rank that isn't stuck has no unmet need
none_at_the_end : (reading : Reading) (groups : Groups) (recording : Lists) (rank : ℕ) → is_stuck reading groups recording rank ≡ false → unmet_of reading groups recording rank ≡ []
unfolding unmet_at
none_at_the_end reading groups recording rank not_stuck =
    let there_is = end_there (slice_get (calls_of recording rank) (slice_index (stands_of reading groups recording) rank)) (not-false (is_at_end recording (stands_of reading groups recording) rank) not_stuck) in
    rw (no_needs reading groups recording rank (slice_index (stands_of reading groups recording) rank) there_is) refl

pub stuck_ranks_wait_for_stuck_ranks : StuckRanksWaitForStuckRanks
stuck_ranks_wait_for_stuck_ranks reading groups recording closed = record {
  each_waits = λ rank is_rank stuck.
      let ends = ends_at (calls_of recording rank) (closed rank is_rank) in
      let first = needs_before reading groups recording rank is_rank (stands_before reading groups recording rank ends (stuck_low reading groups recording rank ends stuck)) in
      (first.need, (0, first.is_first));
  no_other_waits = λ rank not_stuck. none_at_the_end reading groups recording rank not_stuck;
  for_stuck_ranks = λ rank peer place h.
      let there = awaited_stands reading groups recording closed rank peer place (in_among (At peer place) (unmet_of reading groups recording rank) h) in
      (there.is_rank, stuck_from reading groups recording peer there.stands);
}
