-- Where ranks come to stand in the whole recording, by where they stand in the two windows of a clean cut.
use Rattle.moves.specs.declared.reading.Reading.{Reading}
use Rattle.std.proofs.Common.{◌≡◌, ℕ, zero, suc, ◌+◌, ◌-◌, ◌<◌, ◌≤◌, Bool, true, false, not, ◌&&◌, Option, Some, None, if◌then◌else◌, List, [], ◌∷◌, ◌++◌, length, drop, refl, sym, ap, subst, ◌∙◌, ⊎_elim, arith}
use Rattle.std.specs.Prelude.{is_some, slice_index}
use Rattle.std.specs.List.{slice_get, filter, list_all}
use Rattle.std.specs.Option.{option_map_or}
use Rattle.std.proofs.lemmas.Option.{none-some, same_Some, slice_get_within}
use Rattle.std.proofs.lemmas.Bool.{cases_lt, and_parts, and_from, false≢true, le-leb, leb-true, false_from_ne_true, lt-ltb, le-ltb}
use lib.Dec.{ltb}
use Rattle.mpicall.specs.Ending.{ends_list}
use Rattle.mpicall.specs.declared.call.Mode.TheVariants.{Standard}
use Rattle.mpicall.specs.declared.call.Peer.TheVariants.{Null}
use Rattle.mpicall.specs.declared.call.Call.{Call}
use Rattle.mpicall.specs.declared.call.Call.TheVariants.{Isend, Irecv, Finalize, Open}
use Rattle.mpigroup.specs.Groups.{Groups}
use Rattle.mpigroup.proofs.ListLemmas.{get_end}
use Rattle.callstore.specs.Recordings.{Lists, calls_of, IsClosed}
use Rattle.callstore.specs.Requests.{starts}
use Rattle.callstore.proofs.OptionLemmas.{and_then_parts}
use Rattle.callstore.proofs.PlaceLemmas.{slice_get_there}
use Rattle.moves.specs.declared.need.Need.{Need}
use Rattle.moves.specs.declared.need.Need.TheVariants.{At, Lacking}
use Rattle.moves.specs.Runs.{State, NoneCanMove, StandsNoLater}
use Rattle.moves.specs.Needs.{needs_of, is_met, may_pass, can_move}
use Rattle.moves.specs.Stands.{stands_of, is_at_end}
use Rattle.moves.proofs.NeedLemmas.{can_move_is_persistent, can_from_pass}
use Rattle.waitgraph.proofs.StuckLemmas.{ends_at}
use Rattle.windows.specs.Cuts.{Cut, before_cut, after_cut, left_active, is_moved, without_peer, first_calls, first_window, front_calls, front_of, second_window, place_in_whole, need_in_whole}
use Rattle.windows.proofs.CutLists.{as_first, first_length}
use Rattle.windows.proofs.CutWindows.{before_past, first_ranks, second_ranks, second_calls, first_window_calls, call_before, call_in_first}
use Rattle.windows.proofs.CleanLemmas.{CleanCut, before_length, rank_before}
use Rattle.windows.proofs.FirstNeeds.{AreBefore, needs_same}
use Rattle.windows.proofs.SecondNeeds.{lacks, StandAlike, AreMembers, needs_shift, whole_at, second_at}
use Rattle.windows.proofs.StandForms.{state_of, state_ranks, state_at, state_past, stands_ranks, stands_stuck, stands_past, least, can_at, both_same, is_none_of, none_mapped, met_all}
use Rattle.callstore.proofs.PlaceLemmas.{slice_get-front}

-- ---- Starts in front of the second window ----

-- each call in front starts a request
pub front_starts : (moves : ℕ → Bool) (calls : List Call) (place : ℕ) (call : Call) → slice_get (front_calls moves calls) place ≡ Some call → is_some (starts call) ≡ true
front_starts moves [] place call h = absurd (none-some call h)
front_starts moves (first ∷ rest) place call h = by_active (λ index there. front_starts moves rest index call there) (left_active first rest) refl (is_moved moves first rest) place h
  where
    started : (req : ℕ) (moved : Bool) → left_active first rest ≡ Some req → is_some (starts (if moved then first else Isend req Standard 0 Null 0 None)) ≡ true
    started req false active = refl
    started req true active =
        let parts = and_then_parts _ (starts first) req active in
        rw parts.1 refl

    by_active : ((index : ℕ) → slice_get (front_calls moves rest) index ≡ Some call → is_some (starts call) ≡ true) → (o : Option ℕ) → left_active first rest ≡ o → (moved : Bool) (place : ℕ) → slice_get (option_map_or (λ req. (if moved then first else Isend req Standard 0 Null 0 None) ∷ []) o [] ++ front_calls moves rest) place ≡ Some call → is_some (starts call) ≡ true
    by_active later None active moved place there = later place there
    by_active later (Some req) active moved zero there =
        subst (λ (c : Call). is_some (starts c) ≡ true) (same_Some (if moved then first else Isend req Standard 0 Null 0 None) call there) (started req moved active)
    by_active later (Some req) active moved (suc place) there = later place there

pub starts_no_end : (call : Call) → is_some (starts call) ≡ true → ends_list call ≡ false
starts_no_end Finalize h = absurd (false≢true h)
starts_no_end Open h = absurd (false≢true h)
starts_no_end _ h = refl

-- a call is no other end as it stands in the first window
pub ends_same : (moves : ℕ → Bool) (call : Call) (rest : List Call) → ends_list (as_first moves call rest) ≡ ends_list call
ends_same moves call rest = by_moved (is_moved moves call rest) call
  where
    by_moved : (moved : Bool) (c : Call) → ends_list (if moved then without_peer c else c) ≡ ends_list c
    by_moved false c = refl
    by_moved true (Irecv req comm source tag) = refl
    by_moved true _ = refl

-- needs for calls before the cut are met in another state that is as far there
met_before : (whole : Lists) (cut : Cut) (stands others : State) (needs : List Need) → AreBefore whole cut needs → ((rank place : ℕ) → place < length (before_cut whole cut rank) → place ≤ slice_index stands rank → place ≤ slice_index others rank) → list_all (is_met stands) needs ≡ true → list_all (is_met others) needs ≡ true
met_before whole cut stands others [] before far h = refl
met_before whole cut stands others (Lacking rank ∷ rest) before far h = absurd before
met_before whole cut stands others (At rank place ∷ rest) before far h =
    let parts = and_parts (is_met stands (At rank place)) (list_all (is_met stands) rest) h in
    let met : is_met others (At rank place) ≡ true = le-leb place (slice_index others rank) (far rank place before.0 (leb-true place (slice_index stands rank) parts.0)) in
    rw met (met_before whole cut stands others rest before.1 far parts.1)

module _ (reading : Reading) (groups : Groups) (whole : Lists) (cut : Cut) (clean : CleanCut groups whole cut) where
  -- ---- The first window ----

  -- at most its calls before the cut are behind a rank there, and it stands no later than in the whole recording
  pub record StandsFirst (rank : ℕ) : Type 0 where
    pub within : slice_index (stands_of reading groups (first_window whole cut)) rank ≤ length (before_cut whole cut rank)
    pub no_later : slice_index (stands_of reading groups (first_window whole cut)) rank ≤ slice_index (stands_of reading groups whole) rank

  abbrev smaller : ℕ → ℕ → ℕ
  smaller a b = a - (a - b)

  -- a rank that can move in the first window can move in the whole recording, where that is as far
  can_in_whole : (stands others : State) (rank place : ℕ) → rank < length whole → place < length (before_cut whole cut rank) → ((other p : ℕ) → p < length (before_cut whole cut other) → p ≤ slice_index stands other → p ≤ slice_index others other) → can_at reading groups (first_window whole cut) stands rank place ≡ true → can_at reading groups whole others rank place ≡ true
  can_in_whole stands others rank place is_rank low far can =
      let there = slice_get_there (before_cut whole cut rank) place low in
      let parts = and_parts (may_pass (slice_get (calls_of (first_window whole cut) rank) place)) (list_all (is_met stands) (needs_of reading groups (first_window whole cut) rank place)) can in
      let same = needs_same reading groups whole cut clean rank is_rank place there.0 there.1 in
      let passes : may_pass (slice_get (calls_of whole rank) place) ≡ true =
      ap may_pass (call_before whole cut rank place there.0 there.1)
      ∙ ap (λ (ends : Bool). not ends) (sym (ends_same (cut.moves rank) there.0 (drop (suc place) (before_cut whole cut rank))))
      ∙ ap may_pass (sym (call_in_first whole cut rank place there.0 is_rank there.1))
      ∙ parts.0 in
      and_from (may_pass (slice_get (calls_of whole rank) place)) (list_all (is_met others) (needs_of reading groups whole rank place)) passes
      (ap (list_all (is_met others)) same.same ∙ met_before whole cut stands others (needs_of reading groups (first_window whole cut) rank place) same.before far parts.1)

  -- and back
  can_in_first : (stands others : State) (rank place : ℕ) → rank < length whole → place < length (before_cut whole cut rank) → ((other p : ℕ) → p < length (before_cut whole cut other) → p ≤ slice_index stands other → p ≤ slice_index others other) → can_at reading groups whole stands rank place ≡ true → can_at reading groups (first_window whole cut) others rank place ≡ true
  can_in_first stands others rank place is_rank low far can =
      let there = slice_get_there (before_cut whole cut rank) place low in
      let parts = and_parts (may_pass (slice_get (calls_of whole rank) place)) (list_all (is_met stands) (needs_of reading groups whole rank place)) can in
      let same = needs_same reading groups whole cut clean rank is_rank place there.0 there.1 in
      let passes : may_pass (slice_get (calls_of (first_window whole cut) rank) place) ≡ true =
      ap may_pass (call_in_first whole cut rank place there.0 is_rank there.1)
      ∙ ap (λ (ends : Bool). not ends) (ends_same (cut.moves rank) there.0 (drop (suc place) (before_cut whole cut rank)))
      ∙ ap may_pass (sym (call_before whole cut rank place there.0 there.1))
      ∙ parts.0 in
      and_from (may_pass (slice_get (calls_of (first_window whole cut) rank) place)) (list_all (is_met others) (needs_of reading groups (first_window whole cut) rank place)) passes
      (met_before whole cut stands others (needs_of reading groups (first_window whole cut) rank place) same.before far (ap (list_all (is_met stands)) (sym same.same) ∙ parts.1))

  -- at its Finalize a rank of the first window stays
  pub first_end : (rank : ℕ) → rank < length whole → slice_get (calls_of (first_window whole cut) rank) (length (before_cut whole cut rank)) ≡ Some Finalize
  first_end rank is_rank =
      ap (λ (calls : List Call). slice_get calls (length (before_cut whole cut rank))) (first_window_calls whole cut rank is_rank)
      ∙ ap (λ (place : ℕ). slice_get (first_calls (cut.moves rank) (before_cut whole cut rank) ++ Finalize ∷ []) place) (sym (first_length (cut.moves rank) (before_cut whole cut rank)))
      ∙ get_end (first_calls (cut.moves rank) (before_cut whole cut rank)) Finalize

  first_stays : (stands : State) (rank : ℕ) → rank < length whole → can_at reading groups (first_window whole cut) stands rank (length (before_cut whole cut rank)) ≡ false
  first_stays stands rank is_rank =
      and_false (may_pass (slice_get (calls_of (first_window whole cut) rank) (length (before_cut whole cut rank)))) (list_all (is_met stands) (needs_of reading groups (first_window whole cut) rank (length (before_cut whole cut rank)))) (ap may_pass (first_end rank is_rank))
    where
      and_false : (a b : Bool) → a ≡ false → (a && b) ≡ false
      and_false a b is = rw is refl

  -- the state in which each rank stands as in the whole recording, but at most at the cut
  abbrev low_stand : ℕ → ℕ
  low_stand rank = smaller (slice_index (stands_of reading groups whole) rank) (length (before_cut whole cut rank))

  abbrev low_state : State
  low_state = state_of (length (first_window whole cut)) low_stand

  pub stands_first : (rank : ℕ) → StandsFirst rank
  stands_first rank =
      ⊎_elim
      (λ (is_rank : rank < length whole).
      let below = (least reading groups (first_window whole cut) low_state (state_ranks (length (first_window whole cut)) low_stand) stuck).stands rank in
      let here = state_at (length (first_window whole cut)) low_stand rank (omega (arith, is_rank, first_ranks whole cut)) in
      record { within = omega (arith, below, here); no_later = omega (arith, below, here) })
      (λ (past : length whole ≤ rank).
      let none = stands_past reading groups (first_window whole cut) rank (omega (arith, past, first_ranks whole cut)) in
      record { within = omega (arith, none); no_later = omega (arith, none) })
      (cases_lt rank (length whole))
    where
      no_later : (rank : ℕ) → slice_index low_state rank ≤ slice_index (stands_of reading groups whole) rank
      no_later rank =
          ⊎_elim
          (λ (within : rank < length (first_window whole cut)). omega (arith, state_at (length (first_window whole cut)) low_stand rank within))
          (λ (past : length (first_window whole cut) ≤ rank). omega (arith, state_past (length (first_window whole cut)) low_stand rank past))
          (cases_lt rank (length (first_window whole cut)))

      stuck : NoneCanMove (can_move reading groups (first_window whole cut)) low_state
      stuck rank within =
          let is_first : rank < length (first_window whole cut) = omega (arith, within, state_ranks (length (first_window whole cut)) low_stand) in
          let is_rank : rank < length whole = omega (arith, is_first, first_ranks whole cut) in
          let here = state_at (length (first_window whole cut)) low_stand rank is_first in
          ⊎_elim
          (λ (low : slice_index (stands_of reading groups whole) rank < length (before_cut whole cut rank)).
          let same : slice_index low_state rank ≡ slice_index (stands_of reading groups whole) rank = omega (arith, here, low) in
          false_from_ne_true (can_move reading groups (first_window whole cut) low_state rank)
          (λ can.
          let can_there : can_at reading groups (first_window whole cut) low_state rank (slice_index (stands_of reading groups whole) rank) ≡ true =
          ap (can_at reading groups (first_window whole cut) low_state rank) (sym same) ∙ can in
          false≢true (sym (stands_stuck reading groups whole rank is_rank)
          ∙ can_in_whole low_state (stands_of reading groups whole) rank (slice_index (stands_of reading groups whole) rank) is_rank low (λ other p _ h. omega (arith, h, no_later other)) can_there)))
          (λ (high : length (before_cut whole cut rank) ≤ slice_index (stands_of reading groups whole) rank).
          let same : slice_index low_state rank ≡ length (before_cut whole cut rank) = omega (arith, here, high) in
          ap (can_at reading groups (first_window whole cut) low_state rank) same ∙ first_stays low_state rank is_rank)
          (cases_lt (slice_index (stands_of reading groups whole) rank) (length (before_cut whole cut rank)))

  -- ---- Ranks that don't come to the cut ----

  -- the state in which each rank that doesn't come to the cut stands as in the first window, and the others as in the whole
  -- recording
  abbrev high_stand : ℕ → ℕ
  high_stand rank = if ltb (slice_index (stands_of reading groups (first_window whole cut)) rank) (length (before_cut whole cut rank)) then slice_index (stands_of reading groups (first_window whole cut)) rank else slice_index (stands_of reading groups whole) rank

  -- a rank that stands before the cut in the first window stands there in the whole recording
  pub stands_there : (rank : ℕ) → slice_index (stands_of reading groups (first_window whole cut)) rank < length (before_cut whole cut rank) → slice_index (stands_of reading groups whole) rank ≡ slice_index (stands_of reading groups (first_window whole cut)) rank
  stands_there rank low =
      let is_rank = rank_before whole cut rank (slice_index (stands_of reading groups (first_window whole cut)) rank) low in
      let below = (least reading groups whole (state_of (length whole) high_stand) (state_ranks (length whole) high_stand) stuck).stands rank in
      let here = state_at (length whole) high_stand rank is_rank in
      let own = stand_low rank low in
      omega (arith, below, here, own, (stands_first rank).no_later)
    where
      stand_low : (rank : ℕ) → slice_index (stands_of reading groups (first_window whole cut)) rank < length (before_cut whole cut rank) → high_stand rank ≡ slice_index (stands_of reading groups (first_window whole cut)) rank
      stand_low rank low = rw (lt-ltb (slice_index (stands_of reading groups (first_window whole cut)) rank) (length (before_cut whole cut rank)) low) refl

      stand_high : (rank : ℕ) → length (before_cut whole cut rank) ≤ slice_index (stands_of reading groups (first_window whole cut)) rank → high_stand rank ≡ slice_index (stands_of reading groups whole) rank
      stand_high rank high = rw (le-ltb (slice_index (stands_of reading groups (first_window whole cut)) rank) (length (before_cut whole cut rank)) high) refl

      no_later : (rank : ℕ) → slice_index (state_of (length whole) high_stand) rank ≤ slice_index (stands_of reading groups whole) rank
      no_later rank =
          ⊎_elim
          (λ (within : rank < length whole).
          ⊎_elim
          (λ low. omega (arith, state_at (length whole) high_stand rank within, stand_low rank low, (stands_first rank).no_later))
          (λ high. omega (arith, state_at (length whole) high_stand rank within, stand_high rank high))
          (cases_lt (slice_index (stands_of reading groups (first_window whole cut)) rank) (length (before_cut whole cut rank))))
          (λ (past : length whole ≤ rank). omega (arith, state_past (length whole) high_stand rank past))
          (cases_lt rank (length whole))

      -- a call before the cut that is reached is reached in the first window
      reached : (other p : ℕ) → p < length (before_cut whole cut other) → p ≤ slice_index (state_of (length whole) high_stand) other → p ≤ slice_index (stands_of reading groups (first_window whole cut)) other
      reached other p before h =
          let is_other = rank_before whole cut other p before in
          ⊎_elim
          (λ low. omega (arith, h, state_at (length whole) high_stand other is_other, stand_low other low))
          (λ (high : length (before_cut whole cut other) ≤ slice_index (stands_of reading groups (first_window whole cut)) other). omega (arith, before, high))
          (cases_lt (slice_index (stands_of reading groups (first_window whole cut)) other) (length (before_cut whole cut other)))

      stuck : NoneCanMove (can_move reading groups whole) (state_of (length whole) high_stand)
      stuck rank within =
          let is_rank : rank < length whole = omega (arith, within, state_ranks (length whole) high_stand) in
          let here = state_at (length whole) high_stand rank is_rank in
          ⊎_elim
          (λ (low : slice_index (stands_of reading groups (first_window whole cut)) rank < length (before_cut whole cut rank)).
          let same : slice_index (state_of (length whole) high_stand) rank ≡ slice_index (stands_of reading groups (first_window whole cut)) rank = omega (arith, here, stand_low rank low) in
          false_from_ne_true (can_move reading groups whole (state_of (length whole) high_stand) rank)
          (λ can.
          let can_there : can_at reading groups whole (state_of (length whole) high_stand) rank (slice_index (stands_of reading groups (first_window whole cut)) rank) ≡ true =
          ap (can_at reading groups whole (state_of (length whole) high_stand) rank) (sym same) ∙ can in
          false≢true (sym (stands_stuck reading groups (first_window whole cut) rank (omega (arith, is_rank, first_ranks whole cut)))
          ∙ can_in_first (state_of (length whole) high_stand) (stands_of reading groups (first_window whole cut)) rank (slice_index (stands_of reading groups (first_window whole cut)) rank) is_rank low reached can_there)))
          (λ (high : length (before_cut whole cut rank) ≤ slice_index (stands_of reading groups (first_window whole cut)) rank).
          let same : slice_index (state_of (length whole) high_stand) rank ≡ slice_index (stands_of reading groups whole) rank = omega (arith, here, stand_high rank high) in
          false_from_ne_true (can_move reading groups whole (state_of (length whole) high_stand) rank)
          (λ can.
          false≢true (sym (stands_stuck reading groups whole rank is_rank)
          ∙ can_move_is_persistent reading groups whole (state_of (length whole) high_stand) (stands_of reading groups whole) rank
          (record { ranks = state_ranks (length whole) high_stand ∙ sym (stands_ranks reading groups whole); stands = no_later }) same can)))
          (cases_lt (slice_index (stands_of reading groups (first_window whole cut)) rank) (length (before_cut whole cut rank)))

  -- ---- The second window ----

  pub front_past : (rank : ℕ) → length whole ≤ rank → length (front_of whole cut rank) ≡ 0
  front_past rank past = ap (λ (calls : List Call). length (front_calls (cut.moves rank) calls)) (before_past whole cut rank past)

  pub before_none : (rank : ℕ) → length whole ≤ rank → length (before_cut whole cut rank) ≡ 0
  before_none rank past = ap length (before_past whole cut rank past)

  -- the starts in front are behind each rank
  pub front_behind : (rank : ℕ) → length (front_of whole cut rank) ≤ slice_index (stands_of reading groups (second_window whole cut)) rank
  front_behind rank =
      ⊎_elim
      (λ (is_rank : rank < length whole).
      ⊎_elim
      (λ (low : slice_index (stands_of reading groups (second_window whole cut)) rank < length (front_of whole cut rank)).
      let there = slice_get_there (front_of whole cut rank) (slice_index (stands_of reading groups (second_window whole cut)) rank) low in
      let own : slice_get (calls_of (second_window whole cut) rank) (slice_index (stands_of reading groups (second_window whole cut)) rank) ≡ Some there.0 =
      ap (λ (calls : List Call). slice_get calls (slice_index (stands_of reading groups (second_window whole cut)) rank)) (second_calls whole cut rank)
      ∙ slice_get-front (front_of whole cut rank) (after_cut whole cut rank) (slice_index (stands_of reading groups (second_window whole cut)) rank) low ∙ there.1 in
      let starts_one = front_starts (cut.moves rank) (before_cut whole cut rank) (slice_index (stands_of reading groups (second_window whole cut)) rank) there.0 there.1 in
      absurd (false≢true (sym (stands_stuck reading groups (second_window whole cut) rank (omega (arith, is_rank, second_ranks whole cut)))
      ∙ can_from_pass reading groups (second_window whole cut) (stands_of reading groups (second_window whole cut)) rank
      (record { call = there.0; is_present = own; is_no_end = starts_no_end there.0 starts_one; needs_met = rw starts_one refl }))))
      (λ (high : length (front_of whole cut rank) ≤ slice_index (stands_of reading groups (second_window whole cut)) rank). high)
      (cases_lt (slice_index (stands_of reading groups (second_window whole cut)) rank) (length (front_of whole cut rank))))
      (λ (past : length whole ≤ rank). omega (arith, front_past rank past))
      (cases_lt rank (length whole))

  module _ (members : AreMembers groups whole) where
    -- ranks that stand alike can move alike
    move_same : (stands others : State) (alike : StandAlike whole cut stands others) (rank : ℕ) → can_move reading groups whole stands rank ≡ can_move reading groups (second_window whole cut) others rank
    move_same stands others alike rank =
        ap (can_at reading groups whole stands rank) (alike.in_whole rank)
        ∙ both_same _ _ _ _
        (ap may_pass (whole_at reading groups whole cut clean members stands others alike rank (alike.index rank) ∙ sym (second_at reading groups whole cut clean members stands others alike rank (alike.index rank))))
        (met_all stands (needs_of reading groups whole rank (length (before_cut whole cut rank) + alike.index rank))
        ∙ ap is_none_of (needs_shift reading groups whole cut clean members stands others alike rank (alike.index rank))
        ∙ none_mapped (need_in_whole whole cut) (filter (lacks others) (needs_of reading groups (second_window whole cut) rank (length (front_of whole cut rank) + alike.index rank)))
        ∙ sym (met_all others (needs_of reading groups (second_window whole cut) rank (length (front_of whole cut rank) + alike.index rank))))
        ∙ ap (can_at reading groups (second_window whole cut) others rank) (sym (alike.in_second rank))

    module _ (comes : (rank : ℕ) → length (before_cut whole cut rank) ≤ slice_index (stands_of reading groups whole) rank) where
      abbrev from_second : ℕ → ℕ
      from_second rank = length (before_cut whole cut rank) + (slice_index (stands_of reading groups (second_window whole cut)) rank - length (front_of whole cut rank))

      abbrev from_whole : ℕ → ℕ
      from_whole rank = length (front_of whole cut rank) + (slice_index (stands_of reading groups whole) rank - length (before_cut whole cut rank))

      second_alike : StandAlike whole cut (state_of (length whole) from_second) (stands_of reading groups (second_window whole cut))
      second_alike = record {
        index = λ rank. slice_index (stands_of reading groups (second_window whole cut)) rank - length (front_of whole cut rank);
        in_whole = λ rank.
            ⊎_elim
            (λ (within : rank < length whole). state_at (length whole) from_second rank within)
            (λ (past : length whole ≤ rank). omega (arith, state_past (length whole) from_second rank past, before_none rank past, stands_past reading groups (second_window whole cut) rank (omega (arith, past, second_ranks whole cut))))
            (cases_lt rank (length whole));
        in_second = λ rank. omega (arith, front_behind rank);
      }

      whole_alike : StandAlike whole cut (stands_of reading groups whole) (state_of (length (second_window whole cut)) from_whole)
      whole_alike = record {
        index = λ rank. slice_index (stands_of reading groups whole) rank - length (before_cut whole cut rank);
        in_whole = λ rank. omega (arith, comes rank);
        in_second = λ rank.
            ⊎_elim
            (λ (within : rank < length (second_window whole cut)). state_at (length (second_window whole cut)) from_whole rank within)
            (λ (past : length (second_window whole cut) ≤ rank).
            let beyond : length whole ≤ rank = omega (arith, past, second_ranks whole cut) in
            omega (arith, state_past (length (second_window whole cut)) from_whole rank past, front_past rank beyond, stands_past reading groups whole rank beyond))
            (cases_lt rank (length (second_window whole cut)));
      }

      whole_below : StandsNoLater (stands_of reading groups whole) (state_of (length whole) from_second)
      whole_below = least reading groups whole (state_of (length whole) from_second) (state_ranks (length whole) from_second)
          (λ rank within.
          move_same (state_of (length whole) from_second) (stands_of reading groups (second_window whole cut)) second_alike rank
          ∙ stands_stuck reading groups (second_window whole cut) rank (omega (arith, within, state_ranks (length whole) from_second, second_ranks whole cut)))

      second_below : StandsNoLater (stands_of reading groups (second_window whole cut)) (state_of (length (second_window whole cut)) from_whole)
      second_below = least reading groups (second_window whole cut) (state_of (length (second_window whole cut)) from_whole) (state_ranks (length (second_window whole cut)) from_whole)
          (λ rank within.
          sym (move_same (stands_of reading groups whole) (state_of (length (second_window whole cut)) from_whole) whole_alike rank)
          ∙ stands_stuck reading groups whole rank (omega (arith, within, state_ranks (length (second_window whole cut)) from_whole, second_ranks whole cut)))

      -- where each rank comes to the cut it stands behind it as in the second window
      pub stands_behind : (rank : ℕ) → slice_index (stands_of reading groups whole) rank ≡ place_in_whole whole cut rank (slice_index (stands_of reading groups (second_window whole cut)) rank)
      stands_behind rank =
          ⊎_elim
          (λ (is_rank : rank < length whole).
          let upper = whole_below.stands rank in
          let upper_at = state_at (length whole) from_second rank is_rank in
          let lower = second_below.stands rank in
          let lower_at = state_at (length (second_window whole cut)) from_whole rank (omega (arith, is_rank, second_ranks whole cut)) in
          omega (arith, upper, upper_at, lower, lower_at, comes rank, front_behind rank))
          (λ (past : length whole ≤ rank).
          omega (arith, stands_past reading groups whole rank past, before_none rank past, stands_past reading groups (second_window whole cut) rank (omega (arith, past, second_ranks whole cut))))
          (cases_lt rank (length whole))

      pub stand_alike : StandAlike whole cut (stands_of reading groups whole) (stands_of reading groups (second_window whole cut))
      stand_alike = record {
        index = λ rank. slice_index (stands_of reading groups (second_window whole cut)) rank - length (front_of whole cut rank);
        in_whole = stands_behind;
        in_second = λ rank. omega (arith, front_behind rank);
      }

  -- ---- A first window that is free ----

  -- no call before the cut ends its list
  pub no_end_before : IsClosed whole → (rank place : ℕ) (call : Call) → slice_get (before_cut whole cut rank) place ≡ Some call → ends_list call ≡ false
  no_end_before closed rank place call there =
      let low = slice_get_within (before_cut whole cut rank) place call there in
      let is_rank = rank_before whole cut rank place low in
      let ends = ends_at (calls_of whole rank) (closed rank is_rank) in
      ends.before place call (omega (arith, low, before_length groups whole cut clean rank is_rank, clean.within rank is_rank, ends.is_last)) (call_before whole cut rank place call there)

  -- a rank at its end in the first window comes to the cut
  pub comes_to_cut : IsClosed whole → (rank : ℕ) → is_at_end (first_window whole cut) (stands_of reading groups (first_window whole cut)) rank ≡ true → length (before_cut whole cut rank) ≤ slice_index (stands_of reading groups (first_window whole cut)) rank
  comes_to_cut closed rank at_end =
      ⊎_elim
      (λ (low : slice_index (stands_of reading groups (first_window whole cut)) rank < length (before_cut whole cut rank)).
      let there = slice_get_there (before_cut whole cut rank) (slice_index (stands_of reading groups (first_window whole cut)) rank) low in
      let is_rank = rank_before whole cut rank (slice_index (stands_of reading groups (first_window whole cut)) rank) low in
      let no_end : is_at_end (first_window whole cut) (stands_of reading groups (first_window whole cut)) rank ≡ false =
      ap (λ (o : Option Call). option_map_or ends_list o false) (call_in_first whole cut rank (slice_index (stands_of reading groups (first_window whole cut)) rank) there.0 is_rank there.1)
      ∙ ends_same (cut.moves rank) there.0 (drop (suc (slice_index (stands_of reading groups (first_window whole cut)) rank)) (before_cut whole cut rank))
      ∙ no_end_before closed rank (slice_index (stands_of reading groups (first_window whole cut)) rank) there.0 there.1 in
      absurd (false≢true (sym no_end ∙ at_end)))
      (λ (high : length (before_cut whole cut rank) ≤ slice_index (stands_of reading groups (first_window whole cut)) rank). high)
      (cases_lt (slice_index (stands_of reading groups (first_window whole cut)) rank) (length (before_cut whole cut rank)))

  -- and one that isn't at its end stands before it
  pub stuck_before : (rank : ℕ) → rank < length whole → is_at_end (first_window whole cut) (stands_of reading groups (first_window whole cut)) rank ≡ false → slice_index (stands_of reading groups (first_window whole cut)) rank < length (before_cut whole cut rank)
  stuck_before rank is_rank stuck =
      ⊎_elim
      (λ (low : slice_index (stands_of reading groups (first_window whole cut)) rank < length (before_cut whole cut rank)). low)
      (λ (high : length (before_cut whole cut rank) ≤ slice_index (stands_of reading groups (first_window whole cut)) rank).
      let same : slice_index (stands_of reading groups (first_window whole cut)) rank ≡ length (before_cut whole cut rank) = omega (arith, high, (stands_first rank).within) in
      let there : slice_get (calls_of (first_window whole cut) rank) (slice_index (stands_of reading groups (first_window whole cut)) rank) ≡ Some Finalize =
      ap (λ (place : ℕ). slice_get (calls_of (first_window whole cut) rank) place) same ∙ first_end rank is_rank in
      absurd (false≢true (sym stuck ∙ ap (λ (o : Option Call). option_map_or ends_list o false) there)))
      (cases_lt (slice_index (stands_of reading groups (first_window whole cut)) rank) (length (before_cut whole cut rank)))
