-- The lists of the two windows of a cut, and what is told of their places and requests by the whole recording.
use Rattle.std.proofs.Common.{◌≡◌, ◌⊎◌, inl, inr, ℕ, zero, suc, ◌+◌, ◌<◌, ◌≤◌, Bool, true, false, Option, Some, None, unwrap_or, List, [], ◌∷◌, ◌++◌, length, map, take, drop, refl, sym, ap, ◌∙◌, ⊎_elim, arith, take-append-drop}
use Rattle.std.specs.List.{slice_get, list_any, range_with_len}
use Rattle.std.specs.Option.{option_map}
use Rattle.std.proofs.lemmas.List.{take-append-le, length-take}
use Rattle.std.proofs.lemmas.List.FromFn.{length-map-range_with_len, get_or-map-range_with_len}
use Rattle.std.proofs.lemmas.Option.{slice_get-get_or, slice_get_past, slice_get_within}
use Rattle.std.proofs.lemmas.Bool.{cases_lt, cases_Bool}
use Rattle.mpicall.specs.declared.call.Call.{Call}
use Rattle.mpicall.specs.declared.call.Call.TheVariants.{Finalize}
use Rattle.callstore.specs.Recordings.{Lists, calls_of}
use Rattle.callstore.specs.Places.{places, count_before}
use Rattle.callstore.specs.Requests.{does_start, does_complete, started_in, started_before}
use Rattle.callstore.proofs.PlaceLemmas.{slice_get-front}
use Rattle.callstore.proofs.PlacesLemmas.{places_push_not}
use Rattle.windows.specs.Cuts.{Cut, before_cut, after_cut, is_moved, first_calls, front_calls, first_window, front_of, second_window}
use Rattle.windows.proofs.PlaceCuts.{count, count-append, places_count, get-front, place_less, SamePlace, same_place}
use Rattle.windows.proofs.CutLists.{as_first, front_before, FailsAlone, InTurn, first_length, first_get, counts_split, counts_all, take_behind, front_take, none_in_front, none_behind_moved, first_prefix}
use Rattle.windows.proofs.StartedLemmas.{started-append, StartedAt, started_at}
use Rattle.windows.proofs.FrontStarts.{front_started}

-- a table over the ranks, asked for one of them
in_table : {X : Type 0} (f : ℕ → X) (n rank : ℕ) (d : X) → rank < n → slice_get (map f (range_with_len 0 n)) rank ≡ Some (f rank)
in_table f n rank d within =
    slice_get-get_or (map f (range_with_len 0 n)) rank d (omega (arith, length-map-range_with_len f 0 n, within))
    ∙ ap (λ x. Some x) (get_or-map-range_with_len f 0 n rank rank d within (omega arith))

past_table : {X : Type 0} (f : ℕ → X) (n rank : ℕ) → n ≤ rank → slice_get (map f (range_with_len 0 n)) rank ≡ None
past_table f n rank past = slice_get_past (map f (range_with_len 0 n)) rank (omega (arith, length-map-range_with_len f 0 n, past))

-- ---- Lists that are cut ----

-- it was started behind the cut at the same place, or before it and stands for it in front
abbrev pub SameStart : (ℕ → Bool) → List Call → ℕ → Option ℕ → Option ℕ → Type 0
SameStart moves before req None None = Unit {0}
SameStart moves before req None (Some there) = ⊥
SameStart moves before req (Some place) None = ⊥
SameStart moves before req (Some place) (Some there) =
    ((index : ℕ) × (place ≡ length before + index) × (there ≡ length (front_calls moves before) + index))
    ⊎ (StartedAt before req place × (there ≡ length (front_before moves place before)))

-- of a list that goes on behind the cut, and of the list in the second window
module _ (moves : ℕ → Bool) (before behind calls others : List Call) (is_cut : calls ≡ before ++ behind) (is_second : others ≡ front_calls moves before ++ behind) where
  generic_behind : (test : Call → Bool) (index : ℕ) → FailsAlone test → count_before test calls (length before + index) ≡ count test (first_calls moves before) + count_before test others (length (front_calls moves before) + index)
  generic_behind test index fails =
      let all = counts_all test moves before fails in
      rw (is_cut, is_second, take_behind before behind index, take_behind (front_calls moves before) behind index)
      (omega (
        arith,
        all,
        places_count 0 test (before ++ take index behind),
        places_count 0 test (front_calls moves before ++ take index behind),
        count-append test before (take index behind),
        count-append test (front_calls moves before) (take index behind),
      ))

  generic_nth : (test : Call → Bool) (more number : ℕ) → FailsAlone test → count test (first_calls moves before) ≡ more → SamePlace (length before) (length (front_calls moves before)) (slice_get (places test calls) (more + number)) (slice_get (places test others) number)
  generic_nth test more number fails is =
      let all = counts_all test moves before fails in
      rw (is_cut, is_second) (same_place test before (front_calls moves before) behind more number (omega (arith, all, is)))

  generic_start : (index req : ℕ) → SameStart moves before req (started_in (take (length before + index) calls) req) (started_in (take (length (front_calls moves before) + index) others) req)
  generic_start index req =
      rw (is_cut, is_second, take_behind before behind index, take_behind (front_calls moves before) behind index, started-append before (take index behind) req, started-append (front_calls moves before) (take index behind) req)
      (⊎_elim
      (λ (some : list_any (does_start req) (take index behind) ≡ true). rw some (started_behind (started_in (take index behind) req)))
      (λ (none : list_any (does_start req) (take index behind) ≡ false).
      rw none
      (⊎_elim
      (λ (ends : list_any (does_complete req) (take index behind) ≡ true). rw ends tt)
      (λ (stays : list_any (does_complete req) (take index behind) ≡ false).
      rw (stays, front_started moves before req) (in_front (started_in before req) refl))
      (cases_Bool (list_any (does_complete req) (take index behind)))))
      (cases_Bool (list_any (does_start req) (take index behind))))
    where
      started_behind : (o : Option ℕ) → SameStart moves before req (option_map (λ place. length before + place) o) (option_map (λ place. length (front_calls moves before) + place) o)
      started_behind None = tt
      started_behind (Some place) = inl (place, refl, refl)

      in_front : (o : Option ℕ) → started_in before req ≡ o → SameStart moves before req o (option_map (λ place. length (front_before moves place before)) o)
      in_front None is = tt
      in_front (Some place) is = inr (started_at before req place is, refl)

module _ (whole : Lists) (cut : Cut) where
  -- ---- The lists ----

  pub whole_calls : (rank : ℕ) → calls_of whole rank ≡ before_cut whole cut rank ++ after_cut whole cut rank
  whole_calls rank = sym (take-append-drop (cut.place rank) (calls_of whole rank))

  pub none_past : (rank : ℕ) → length whole ≤ rank → calls_of whole rank ≡ []
  none_past rank past = rw (slice_get_past whole rank past) refl

  take_none : (n : ℕ) → ◌≡◌ {A = List Call} (take n []) []
  take_none zero = refl
  take_none (suc n) = refl

  drop_none : (n : ℕ) → ◌≡◌ {A = List Call} (drop n []) []
  drop_none zero = refl
  drop_none (suc n) = refl

  pub before_past : (rank : ℕ) → length whole ≤ rank → before_cut whole cut rank ≡ []
  before_past rank past = ap (λ (calls : List Call). take (cut.place rank) calls) (none_past rank past) ∙ take_none (cut.place rank)

  behind_past : (rank : ℕ) → length whole ≤ rank → after_cut whole cut rank ≡ []
  behind_past rank past = ap (λ (calls : List Call). drop (cut.place rank) calls) (none_past rank past) ∙ drop_none (cut.place rank)

  pub second_ranks : length (second_window whole cut) ≡ length whole
  second_ranks = length-map-range_with_len (λ rank. front_of whole cut rank ++ after_cut whole cut rank) 0 (length whole)

  pub first_ranks : length (first_window whole cut) ≡ length whole
  first_ranks = length-map-range_with_len (λ rank. first_calls (cut.moves rank) (before_cut whole cut rank) ++ Finalize ∷ []) 0 (length whole)

  pub second_calls : (rank : ℕ) → calls_of (second_window whole cut) rank ≡ front_of whole cut rank ++ after_cut whole cut rank
  second_calls rank =
      ⊎_elim
      (λ (within : rank < length whole).
      ap (λ (calls : Option (List Call)). unwrap_or calls []) (in_table (λ r. front_of whole cut r ++ after_cut whole cut r) (length whole) rank [] within))
      (λ (past : length whole ≤ rank).
      ap (λ (calls : Option (List Call)). unwrap_or calls []) (past_table (λ r. front_of whole cut r ++ after_cut whole cut r) (length whole) rank past)
      ∙ sym (ap (λ (calls : List Call). front_calls (cut.moves rank) calls ++ after_cut whole cut rank) (before_past rank past) ∙ behind_past rank past))
      (cases_lt rank (length whole))

  pub first_window_calls : (rank : ℕ) → rank < length whole → calls_of (first_window whole cut) rank ≡ first_calls (cut.moves rank) (before_cut whole cut rank) ++ Finalize ∷ []
  first_window_calls rank within =
      ap (λ (calls : Option (List Call)). unwrap_or calls []) (in_table (λ r. first_calls (cut.moves r) (before_cut whole cut r) ++ Finalize ∷ []) (length whole) rank [] within)

  pub first_past : (rank : ℕ) → length whole ≤ rank → calls_of (first_window whole cut) rank ≡ []
  first_past rank past =
      ap (λ (calls : Option (List Call)). unwrap_or calls []) (past_table (λ r. first_calls (cut.moves r) (before_cut whole cut r) ++ Finalize ∷ []) (length whole) rank past)

  -- ---- Places in the first window ----

  pub first_places : (test : Call → Bool) (rank : ℕ) → test Finalize ≡ false → places test (calls_of (first_window whole cut) rank) ≡ places test (first_calls (cut.moves rank) (before_cut whole cut rank))
  first_places test rank last =
      ⊎_elim
      (λ (within : rank < length whole). rw (first_window_calls rank within) (places_push_not 0 test (first_calls (cut.moves rank) (before_cut whole cut rank)) Finalize last))
      (λ (past : length whole ≤ rank). rw (first_past rank past, before_past rank past) refl)
      (cases_lt rank (length whole))

  -- what stands in the first window stands before the cut
  pub place_in_first : (test later : Call → Bool) (rank number place : ℕ) → FailsAlone test → InTurn test later (cut.moves rank) (before_cut whole cut rank) → ((c : Call) → test c ≡ true → later c ≡ true) → test Finalize ≡ false → slice_get (places test (calls_of (first_window whole cut) rank)) number ≡ Some place → (slice_get (places test (calls_of whole rank)) number ≡ Some place) × (place < length (before_cut whole cut rank))
  place_in_first test later rank number place fails in_turn implies last h =
      let own : slice_get (places test (before_cut whole cut rank)) number ≡ Some place =
      first_prefix test later (cut.moves rank) 0 (before_cut whole cut rank) number place fails in_turn implies (rw (first_places test rank last) at h) in (
        rw (whole_calls rank) (get-front test (before_cut whole cut rank) (after_cut whole cut rank) number place own),
        (place_less test (before_cut whole cut rank) number place own).1,
      )

  pub first_count : (test : Call → Bool) (rank : ℕ) → test Finalize ≡ false → length (places test (calls_of (first_window whole cut) rank)) ≡ count test (first_calls (cut.moves rank) (before_cut whole cut rank))
  first_count test rank last = ap length (first_places test rank last) ∙ places_count 0 test (first_calls (cut.moves rank) (before_cut whole cut rank))

  -- a call before the cut is in the first window
  pub call_before : (rank place : ℕ) (call : Call) → slice_get (before_cut whole cut rank) place ≡ Some call → slice_get (calls_of whole rank) place ≡ Some call
  call_before rank place call h =
      rw (whole_calls rank) (slice_get-front (before_cut whole cut rank) (after_cut whole cut rank) place (slice_get_within (before_cut whole cut rank) place call h) ∙ h)

  pub call_in_first : (rank place : ℕ) (call : Call) → rank < length whole → slice_get (before_cut whole cut rank) place ≡ Some call → slice_get (calls_of (first_window whole cut) rank) place ≡ Some (as_first (cut.moves rank) call (drop (suc place) (before_cut whole cut rank)))
  call_in_first rank place call is_rank h =
      let within = slice_get_within (before_cut whole cut rank) place call h in
      let within_first : place < length (first_calls (cut.moves rank) (before_cut whole cut rank)) = omega (arith, within, first_length (cut.moves rank) (before_cut whole cut rank)) in
      rw (first_window_calls rank is_rank)
      (slice_get-front (first_calls (cut.moves rank) (before_cut whole cut rank)) (Finalize ∷ []) place within_first
      ∙ first_get (cut.moves rank) (before_cut whole cut rank) place call h)

  pub take_before : (rank place : ℕ) → place ≤ length (before_cut whole cut rank) → take place (calls_of whole rank) ≡ take place (before_cut whole cut rank)
  take_before rank place within = ap (λ (calls : List Call). take place calls) (whole_calls rank) ∙ take-append-le place (before_cut whole cut rank) (after_cut whole cut rank) within

  pub take_in_first : (rank place : ℕ) → rank < length whole → place ≤ length (before_cut whole cut rank) → take place (calls_of (first_window whole cut) rank) ≡ take place (first_calls (cut.moves rank) (before_cut whole cut rank))
  take_in_first rank place is_rank within =
      rw (first_window_calls rank is_rank)
      (take-append-le place (first_calls (cut.moves rank) (before_cut whole cut rank)) (Finalize ∷ []) (omega (arith, within, first_length (cut.moves rank) (before_cut whole cut rank))))

  -- a call that isn't moved has the same number in the first window
  pub number_in_first : (test later : Call → Bool) (rank place : ℕ) (call : Call) → FailsAlone test → InTurn test later (cut.moves rank) (before_cut whole cut rank) → rank < length whole → slice_get (before_cut whole cut rank) place ≡ Some call → is_moved (cut.moves rank) call (drop (suc place) (before_cut whole cut rank)) ≡ false → later call ≡ true → count_before test (calls_of whole rank) place ≡ count_before test (calls_of (first_window whole cut) rank) place
  number_in_first test later rank place call fails in_turn is_rank h stays passes =
      let within : place ≤ length (before_cut whole cut rank) = omega (arith, slice_get_within (before_cut whole cut rank) place call h) in
      let split = counts_split test (cut.moves rank) place (before_cut whole cut rank) fails in
      let none = none_in_front test later (cut.moves rank) (before_cut whole cut rank) place call fails in_turn h stays passes in
      rw (take_before rank place within, take_in_first rank place is_rank within)
      (omega (arith, places_count 0 test (take place (before_cut whole cut rank)), places_count 0 test (take place (first_calls (cut.moves rank) (before_cut whole cut rank))), split, none))

  -- ---- Places in the second window ----

  -- what stands behind the cut has a lower number in the second window, by those that are in the first one
  pub number_behind : (test : Call → Bool) (rank index : ℕ) → FailsAlone test → count_before test (calls_of whole rank) (length (before_cut whole cut rank) + index) ≡ count test (first_calls (cut.moves rank) (before_cut whole cut rank)) + count_before test (calls_of (second_window whole cut) rank) (length (front_of whole cut rank) + index)
  number_behind test rank index fails =
      generic_behind (cut.moves rank) (before_cut whole cut rank) (after_cut whole cut rank) (calls_of whole rank) (calls_of (second_window whole cut) rank) (whole_calls rank) (second_calls rank) test index fails

  -- so has a moved receive
  pub number_moved : (test later : Call → Bool) (rank place : ℕ) (call : Call) → FailsAlone test → InTurn test later (cut.moves rank) (before_cut whole cut rank) → ((c : Call) → test c ≡ true → later c ≡ true) → slice_get (before_cut whole cut rank) place ≡ Some call → is_moved (cut.moves rank) call (drop (suc place) (before_cut whole cut rank)) ≡ true → test call ≡ true → count_before test (calls_of whole rank) place ≡ count test (first_calls (cut.moves rank) (before_cut whole cut rank)) + count_before test (calls_of (second_window whole cut) rank) (length (front_before (cut.moves rank) place (before_cut whole cut rank)))
  number_moved test later rank place call fails in_turn implies h is passes =
      let within : place ≤ length (before_cut whole cut rank) = omega (arith, slice_get_within (before_cut whole cut rank) place call h) in
      let split = counts_split test (cut.moves rank) place (before_cut whole cut rank) fails in
      let rest = none_behind_moved test later (cut.moves rank) (before_cut whole cut rank) place call fails in_turn implies h is passes in
      let front : take (length (front_before (cut.moves rank) place (before_cut whole cut rank))) (calls_of (second_window whole cut) rank) ≡ front_before (cut.moves rank) place (before_cut whole cut rank) = front_of_second rank place in
      rw (take_before rank place within, front)
      (omega (arith, split, rest, places_count 0 test (take place (before_cut whole cut rank)), places_count 0 test (front_before (cut.moves rank) place (before_cut whole cut rank))))
    where
      front_of_second : (rank place : ℕ) → take (length (front_before (cut.moves rank) place (before_cut whole cut rank))) (calls_of (second_window whole cut) rank) ≡ front_before (cut.moves rank) place (before_cut whole cut rank)
      front_of_second rank place = rw (second_calls rank) (shorter (front_of whole cut rank) (after_cut whole cut rank) (front_before (cut.moves rank) place (before_cut whole cut rank)) (front_take (cut.moves rank) (before_cut whole cut rank) place))
        where
          shorter : (xs ys zs : List Call) → take (length zs) xs ≡ zs → take (length zs) (xs ++ ys) ≡ zs
          shorter xs ys zs h = take-append-le (length zs) xs ys (omega (arith, length-take (length zs) xs, ap length h)) ∙ h

  -- the places with numbers that differ so are the same
  pub same_nth : (test : Call → Bool) (rank more number : ℕ) → FailsAlone test → count test (first_calls (cut.moves rank) (before_cut whole cut rank)) ≡ more → SamePlace (length (before_cut whole cut rank)) (length (front_of whole cut rank)) (slice_get (places test (calls_of whole rank)) (more + number)) (slice_get (places test (calls_of (second_window whole cut) rank)) number)
  same_nth test rank more number fails is =
      generic_nth (cut.moves rank) (before_cut whole cut rank) (after_cut whole cut rank) (calls_of whole rank) (calls_of (second_window whole cut) rank) (whole_calls rank) (second_calls rank) test more number fails is

  -- ---- Requests behind the cut ----

  pub same_start : (rank index req : ℕ) → SameStart (cut.moves rank) (before_cut whole cut rank) req (started_before whole rank (length (before_cut whole cut rank) + index) req) (started_before (second_window whole cut) rank (length (front_of whole cut rank) + index) req)
  same_start rank index req =
      generic_start (cut.moves rank) (before_cut whole cut rank) (after_cut whole cut rank) (calls_of whole rank) (calls_of (second_window whole cut) rank) (whole_calls rank) (second_calls rank) index req
