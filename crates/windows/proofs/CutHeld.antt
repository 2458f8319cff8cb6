-- Which ranks are held in the whole recording, by the two windows of a clean cut.
use Rattle.moves.specs.declared.reading.Reading.{Reading}
use Rattle.std.proofs.Common.{◌≡◌, ◌↔◌, inl, inr, ℕ, suc, ◌+◌, ◌-◌, ◌<◌, ◌≤◌, Bool, true, false, not, ◌&&◌, ◌||◌, Option, Some, List, [], ◌∷◌, ◌++◌, length, map, drop, refl, sym, ap, subst, ◌∙◌, ⊎_elim, arith, length-append, length-drop}
use Rattle.std.specs.Prelude.{nat_lt, slice_index}
use Rattle.std.specs.List.{slice_get, filter, list_any, list_all, range_with_len}
use Rattle.std.specs.Option.{option_map_or}
use Rattle.std.proofs.lemmas.Bool.{cases_Bool, cases_lt, false≢true, and_parts, le-leb, lt-leb, lt-ltb, ltb-true, leb-false, or_left, not-false, not-true}
use lib.Dec.{leb}
use Rattle.mpicall.specs.Ending.{ends_list}
use Rattle.mpicall.specs.declared.call.Call.{Call}
use Rattle.mpicall.specs.declared.call.Call.TheVariants.{Finalize}
use Rattle.mpigroup.specs.Groups.{Groups}
use Rattle.callstore.specs.Recordings.{Lists, calls_of, has_end, IsClosed}
use Rattle.callstore.proofs.PlaceLemmas.{slice_get_there}
use Rattle.pairing.specs.LeftOpen.{leaves_open, is_left_open}
use Rattle.moves.specs.declared.need.Need.{Need}
use Rattle.moves.specs.declared.need.Need.TheVariants.{At, Lacking}
use Rattle.moves.specs.Runs.{State}
use Rattle.moves.specs.Needs.{needs_of, is_met, may_pass}
use Rattle.moves.specs.Stands.{stands_of, is_at_end}
use Rattle.waitgraph.specs.Stuck.{unmet_of, is_stuck}
use Rattle.waitgraph.specs.Held.{Set, is_missing, is_blocked, waits_for, IsDeadlocked, IsHeld, is_some_left_open}
use Rattle.waitgraph.specs.Verdicts.{IsVerdictOf}
use Rattle.waitgraph.specs.declared.verdict.Verdict.{Verdict}
use Rattle.waitgraph.specs.declared.verdict.Verdict.TheVariants.{Free, Hang, Unfinished}
use Rattle.waitgraph.proofs.AmongLemmas.{Among, one_fails}
use Rattle.waitgraph.proofs.DeadlockLemmas.{waits_from, held_within}
use Rattle.waitgraph.proofs.VerdictLemmas.{without_open_the_stuck_are_held}
use Rattle.windows.specs.Cuts.{Cut, before_cut, after_cut, first_calls, first_window, front_of, second_window, need_in_whole}
use Rattle.windows.specs.Clean.{IsRightRecording}
use Rattle.windows.specs.Laws.{SecondDecides, AfterAFreeWindowTheSecondDecides, IsHeldAlike, StuckInTheFirstIsHeldInTheWhole, AHangInTheFirstIsOne}
use Rattle.windows.proofs.CutLists.{behind_first}
use Rattle.windows.proofs.CutWindows.{whole_calls, none_past, first_past, first_ranks, second_ranks, second_calls, first_window_calls, call_in_first}
use Rattle.windows.proofs.CleanLemmas.{CleanCut, clean_parts, rank_before}
use Rattle.windows.proofs.FirstNeeds.{AreBefore, needs_same}
use Rattle.windows.proofs.SecondNeeds.{lacks, AreMembers}
use Rattle.windows.proofs.StandForms.{stands_stuck}
use Rattle.windows.proofs.CutStands.{ends_same, stands_first, stands_there, before_none, front_behind, stands_behind, stand_alike, no_end_before, comes_to_cut, stuck_before}
use Rattle.windows.proofs.CutCauses.{causes_same}
use Rattle.windows.proofs.CutNeeds.{lacked_shift, unmet_shift, unmet_same}

-- ---- Lists of needs ----

any_lacked : (stands : State) (p : Need → Bool) (needs : List Need) → list_any (λ need. not (is_met stands need) && p need) needs ≡ list_any p (filter (lacks stands) needs)
any_lacked stands p [] = refl
any_lacked stands p (need ∷ rest) =
    ⊎_elim
    (λ (is : is_met stands need ≡ true). rw is (any_lacked stands p rest))
    (λ (no : is_met stands need ≡ false). rw no (ap (λ (b : Bool). p need || b) (any_lacked stands p rest)))
    (cases_Bool (is_met stands need))

any_mapped : (f : Need → Need) (p q : Need → Bool) → ((need : Need) → p (f need) ≡ q need) → (needs : List Need) → list_any p (map f needs) ≡ list_any q needs
any_mapped f p q same [] = refl
any_mapped f p q same (need ∷ rest) = rw (same need, any_mapped f p q same rest) refl

any_same : (p q : ℕ → Bool) → ((n : ℕ) → p n ≡ q n) → (numbers : List ℕ) → list_any p numbers ≡ list_any q numbers
any_same p q same [] = refl
any_same p q same (n ∷ rest) = rw (same n, any_same p q same rest) refl

any_there : (need : Need) (p : Need → Bool) (needs : List Need) → Among need needs → p need ≡ true → list_any p needs ≡ true
any_there need p [] there is = absurd there
any_there need p (first ∷ rest) (inl e) is = or_left (p first) (list_any p rest) (ap p e ∙ is)
any_there need p (first ∷ rest) (inr there) is =
    ⊎_elim
    (λ (yes : p first ≡ true). rw yes refl)
    (λ (no : p first ≡ false). rw no (any_there need p rest there is))
    (cases_Bool (p first))

-- a need for a call before the cut
record IsBeforeCut (whole : Lists) (cut : Cut) (need : Need) : Type 0 where
  rank : ℕ
  place : ℕ
  is_it : need ≡ At rank place
  before : place < length (before_cut whole cut rank)

among_before : (whole : Lists) (cut : Cut) (need : Need) (needs : List Need) → AreBefore whole cut needs → Among need needs → IsBeforeCut whole cut need
among_before whole cut need [] before there = absurd there
among_before whole cut need (Lacking rank ∷ rest) before there = absurd before
among_before whole cut need (At rank place ∷ rest) before (inl e) = record { rank = rank; place = place; is_it = sym e; before = before.0 }
among_before whole cut need (At rank place ∷ rest) before (inr there) = among_before whole cut need rest before.1 there

-- the last of a list is that of its second part
last_behind : {A : Type 0} (xs ys : List A) → 0 < length ys → slice_get (xs ++ ys) (length (xs ++ ys) - 1) ≡ slice_get ys (length ys - 1)
last_behind xs ys some =
    let index : length (xs ++ ys) - 1 ≡ length xs + (length ys - 1) = omega (arith, length-append xs ys, some) in
    ap (λ (n : ℕ). slice_get (xs ++ ys) n) index ∙ behind_first xs ys (length ys - 1)

module _ (reading : Reading) (groups : Groups) (whole : Lists) (cut : Cut) (clean : CleanCut groups whole cut) where
  -- ---- Lists that were left open ----

  last_same : (rank : ℕ) → slice_get (calls_of whole rank) (length (calls_of whole rank) - 1) ≡ slice_get (calls_of (second_window whole cut) rank) (length (calls_of (second_window whole cut) rank) - 1)
  last_same rank =
      ⊎_elim
      (λ (is_rank : rank < length whole).
      let some : 0 < length (after_cut whole cut rank) = omega (arith, length-drop (cut.place rank) (calls_of whole rank), clean.within rank is_rank) in
      ap (λ (calls : List Call). slice_get calls (length calls - 1)) (whole_calls whole cut rank)
      ∙ last_behind (before_cut whole cut rank) (after_cut whole cut rank) some
      ∙ sym (last_behind (front_of whole cut rank) (after_cut whole cut rank) some)
      ∙ ap (λ (calls : List Call). slice_get calls (length calls - 1)) (sym (second_calls whole cut rank)))
      (λ (past : length whole ≤ rank).
      ap (λ (calls : List Call). slice_get calls (length calls - 1)) (none_past whole cut rank past ∙ sym (none_past (second_window whole cut) cut rank (omega (arith, past, second_ranks whole cut)))))
      (cases_lt rank (length whole))

  open_same : (rank : ℕ) → is_left_open whole rank ≡ is_left_open (second_window whole cut) rank
  open_same rank = ap (λ (o : Option Call). option_map_or leaves_open o false) (last_same rank)

  some_open_same : is_some_left_open whole ≡ is_some_left_open (second_window whole cut)
  some_open_same =
      any_same (is_left_open whole) (is_left_open (second_window whole cut)) open_same (range_with_len 0 (length whole))
      ∙ ap (λ (n : ℕ). list_any (is_left_open (second_window whole cut)) (range_with_len 0 n)) (sym (second_ranks whole cut))

  first_not_open : (rank : ℕ) → is_left_open (first_window whole cut) rank ≡ false
  first_not_open rank =
      ⊎_elim
      (λ (is_rank : rank < length whole).
      ap (λ (calls : List Call). option_map_or leaves_open (slice_get calls (length calls - 1)) false) (first_window_calls whole cut rank is_rank)
      ∙ ap (λ (o : Option Call). option_map_or leaves_open o false) (last_behind (first_calls (cut.moves rank) (before_cut whole cut rank)) (Finalize ∷ []) (omega arith)))
      (λ (past : length whole ≤ rank).
      ap (λ (calls : List Call). option_map_or leaves_open (slice_get calls (length calls - 1)) false) (first_past whole cut rank past))
      (cases_lt rank (length whole))

  none_open : is_some_left_open (first_window whole cut) ≡ false
  none_open =
      any_same (is_left_open (first_window whole cut)) (λ rank. false) first_not_open (range_with_len 0 (length (first_window whole cut)))
      ∙ none_at_all (range_with_len 0 (length (first_window whole cut)))
    where
      none_at_all : (numbers : List ℕ) → list_any (λ (n : ℕ). false) numbers ≡ false
      none_at_all [] = refl
      none_at_all (n ∷ rest) = none_at_all rest

  -- ---- The first window is closed ----

  pub first_closed : IsClosed whole → IsClosed (first_window whole cut)
  first_closed closed rank within =
      let is_rank : rank < length whole = omega (arith, within, first_ranks whole cut) in
      record {
        before = first_calls (cut.moves rank) (before_cut whole cut rank);
        last = Finalize;
        is_all = first_window_calls whole cut rank is_rank;
        is_the_end = refl;
        has_no_other = ends_first (cut.moves rank) (before_cut whole cut rank) ∙ none_ends (before_cut whole cut rank) (no_end_before reading groups whole cut clean closed rank);
      }
    where
      ends_first : (moves : ℕ → Bool) (calls : List Call) → has_end (first_calls moves calls) ≡ has_end calls
      ends_first moves [] = refl
      ends_first moves (call ∷ rest) = rw (ends_same moves call rest, ends_first moves rest) refl

      none_ends : (calls : List Call) → ((place : ℕ) (call : Call) → slice_get calls place ≡ Some call → ends_list call ≡ false) → has_end calls ≡ false
      none_ends [] none = refl
      none_ends (call ∷ rest) none = rw (none 0 call refl) (none_ends rest (λ place c there. none (suc place) c there))

  -- ---- Behind a first window that is free ----

  module _ (members : AreMembers groups whole) (comes : (rank : ℕ) → length (before_cut whole cut rank) ≤ slice_index (stands_of reading groups whole) rank) where
    blocked_same : (set : Set) (need : Need) → is_blocked whole set (need_in_whole whole cut need) ≡ is_blocked (second_window whole cut) set need
    blocked_same set (At rank place) = refl
    blocked_same set (Lacking rank) = ap (λ (b : Bool). set rank || not b) (open_same rank)

    waits_same : (set : Set) (rank : ℕ) → waits_for reading groups whole set rank ≡ waits_for reading groups (second_window whole cut) set rank
    waits_same set rank =
        any_lacked (stands_of reading groups whole) (is_blocked whole set) (needs_of reading groups whole rank (slice_index (stands_of reading groups whole) rank))
        ∙ ap (list_any (is_blocked whole set)) (lacked_shift reading groups whole cut clean members (stands_of reading groups whole) (stands_of reading groups (second_window whole cut)) (stand_alike reading groups whole cut clean members comes) rank)
        ∙ any_mapped (need_in_whole whole cut) (is_blocked whole set) (is_blocked (second_window whole cut) set) (blocked_same set) (filter (lacks (stands_of reading groups (second_window whole cut))) (needs_of reading groups (second_window whole cut) rank (slice_index (stands_of reading groups (second_window whole cut)) rank)))
        ∙ sym (any_lacked (stands_of reading groups (second_window whole cut)) (is_blocked (second_window whole cut) set) (needs_of reading groups (second_window whole cut) rank (slice_index (stands_of reading groups (second_window whole cut)) rank)))

    held_same : (rank : ℕ) → IsHeld reading groups whole rank ↔ IsHeld reading groups (second_window whole cut) rank
    held_same rank = (
      λ held. (held.0, λ other is. sym (waits_same held.0 other) ∙ held.1 other is, held.2),
      λ held. (held.0, λ other is. waits_same held.0 other ∙ held.1 other is, held.2),
    )

    verdict_same : (verdict : Verdict) → IsVerdictOf reading groups whole verdict ↔ IsVerdictOf reading groups (second_window whole cut) verdict
    verdict_same verdict = (
      λ is. record {
        hang = (λ hangs. let held = is.hang.0 hangs in (held.0, (held_same held.0).0 held.1), λ held. is.hang.1 (held.0, (held_same held.0).1 held.1));
        unfinished = λ so. sym some_open_same ∙ is.unfinished so;
        free = λ so. sym some_open_same ∙ is.free so;
      },
      λ is. record {
        hang = (λ hangs. let held = is.hang.0 hangs in (held.0, (held_same held.0).1 held.1), λ held. is.hang.1 (held.0, (held_same held.0).0 held.1));
        unfinished = λ so. some_open_same ∙ is.unfinished so;
        free = λ so. some_open_same ∙ is.free so;
      },
    )

    missing_same : (need : Need) → is_missing whole (need_in_whole whole cut need) ≡ is_missing (second_window whole cut) need
    missing_same (At rank place) = refl
    missing_same (Lacking rank) = ap (λ (b : Bool). not b) (open_same rank)

    unmet_is : (rank : ℕ) → unmet_of reading groups whole rank ≡ map (need_in_whole whole cut) (unmet_of reading groups (second_window whole cut) rank)
    unmet_is = unmet_shift reading groups whole cut clean members (stands_of reading groups whole) (stands_of reading groups (second_window whole cut)) (stand_alike reading groups whole cut clean members comes)

    pub second_decides : SecondDecides reading groups whole cut
    second_decides = record {
      in_second = front_behind reading groups whole cut clean;
      stands = stands_behind reading groups whole cut clean members comes;
      unmet = unmet_is;
      held = held_same;
      verdict = verdict_same;
      causes = causes_same reading groups whole cut (sym (second_ranks whole cut)) missing_same blocked_same unmet_is held_same;
    }

  -- ---- Ranks that are stuck in the first window ----

  abbrev before_it : Set
  before_it rank = nat_lt (slice_index (stands_of reading groups (first_window whole cut)) rank) (length (before_cut whole cut rank))

  -- each of them waits for another of them
  deadlocked : IsClosed whole → IsDeadlocked reading groups whole before_it
  deadlocked closed rank member =
      let low : slice_index (stands_of reading groups (first_window whole cut)) rank < length (before_cut whole cut rank) = ltb-true _ _ member in
      let is_rank = rank_before whole cut rank (slice_index (stands_of reading groups (first_window whole cut)) rank) low in
      let call = slice_get_there (before_cut whole cut rank) (slice_index (stands_of reading groups (first_window whole cut)) rank) low in
      let needs = needs_same reading groups whole cut clean rank is_rank (slice_index (stands_of reading groups (first_window whole cut)) rank) call.0 call.1 in
      let passes : may_pass (slice_get (calls_of (first_window whole cut) rank) (slice_index (stands_of reading groups (first_window whole cut)) rank)) ≡ true =
      ap may_pass (call_in_first whole cut rank (slice_index (stands_of reading groups (first_window whole cut)) rank) call.0 is_rank call.1)
      ∙ ap (λ (b : Bool). not b) (ends_same (cut.moves rank) call.0 (drop (suc (slice_index (stands_of reading groups (first_window whole cut)) rank)) (before_cut whole cut rank)) ∙ no_end_before reading groups whole cut clean closed rank (slice_index (stands_of reading groups (first_window whole cut)) rank) call.0 call.1) in
      let not_all : list_all (is_met (stands_of reading groups (first_window whole cut))) (needs_of reading groups (first_window whole cut) rank (slice_index (stands_of reading groups (first_window whole cut)) rank)) ≡ false =
      second_false _ _ passes (stands_stuck reading groups (first_window whole cut) rank (omega (arith, is_rank, first_ranks whole cut))) in
      let one = one_fails (is_met (stands_of reading groups (first_window whole cut))) (needs_of reading groups (first_window whole cut) rank (slice_index (stands_of reading groups (first_window whole cut)) rank)) not_all in
      let need = among_before whole cut one.0 (needs_of reading groups (first_window whole cut) rank (slice_index (stands_of reading groups (first_window whole cut)) rank)) needs.before one.1 in
      let unmet : is_met (stands_of reading groups (first_window whole cut)) (At need.rank need.place) ≡ false = ap (is_met (stands_of reading groups (first_window whole cut))) (sym need.is_it) ∙ one.2 in
      let far : slice_index (stands_of reading groups (first_window whole cut)) need.rank < need.place = leb-false need.place (slice_index (stands_of reading groups (first_window whole cut)) need.rank) unmet in
      let low_there : slice_index (stands_of reading groups (first_window whole cut)) need.rank < length (before_cut whole cut need.rank) = omega (arith, far, need.before) in
      let there = stands_there reading groups whole cut clean need.rank low_there in
      let unmet_there : is_met (stands_of reading groups whole) (At need.rank need.place) ≡ false = lt-leb need.place (slice_index (stands_of reading groups whole) need.rank) (omega (arith, far, there)) in
      let here = stands_there reading groups whole cut clean rank low in
      let listed : Among (At need.rank need.place) (needs_of reading groups whole rank (slice_index (stands_of reading groups (first_window whole cut)) rank)) =
      subst (λ (ns : List Need). Among (At need.rank need.place) ns) (sym needs.same) (subst (λ (n : Need). Among n (needs_of reading groups (first_window whole cut) rank (slice_index (stands_of reading groups (first_window whole cut)) rank))) need.is_it one.1) in
      let listed_here : Among (At need.rank need.place) (needs_of reading groups whole rank (slice_index (stands_of reading groups whole) rank)) =
      subst (λ (place : ℕ). Among (At need.rank need.place) (needs_of reading groups whole rank place)) (sym here) listed in
      let blocked : is_blocked whole before_it (At need.rank need.place) ≡ true = or_left (before_it need.rank) false (lt-ltb _ _ low_there) in
      waits_from reading groups whole before_it rank (record { need = At need.rank need.place; is_needed = listed_here; is_unmet = unmet_there; blocked = blocked })
    where
      second_false : (a b : Bool) → a ≡ true → (a && b) ≡ false → b ≡ false
      second_false a b is none = rw is at none

  met_alike : (other p : ℕ) → p < length (before_cut whole cut other) → is_met (stands_of reading groups whole) (At other p) ≡ is_met (stands_of reading groups (first_window whole cut)) (At other p)
  met_alike other p before =
      ⊎_elim
      (λ low. ap (λ (stand : ℕ). leb p stand) (stands_there reading groups whole cut clean other low))
      (λ (high : length (before_cut whole cut other) ≤ slice_index (stands_of reading groups (first_window whole cut)) other).
      le-leb p (slice_index (stands_of reading groups whole) other) (omega (arith, before, high, (stands_first reading groups whole cut clean other).no_later))
      ∙ sym (le-leb p (slice_index (stands_of reading groups (first_window whole cut)) other) (omega (arith, before, high))))
      (cases_lt (slice_index (stands_of reading groups (first_window whole cut)) other) (length (before_cut whole cut other)))

  pub held_alike : IsClosed whole → (rank : ℕ) → rank < length whole → is_stuck reading groups (first_window whole cut) rank ≡ true → IsHeldAlike reading groups whole cut rank
  held_alike closed rank is_rank stuck =
      let low = stuck_before reading groups whole cut clean rank is_rank (not-true (is_at_end (first_window whole cut) (stands_of reading groups (first_window whole cut)) rank) stuck) in
      let here = stands_there reading groups whole cut clean rank low in
      record {
        held = (before_it, deadlocked closed, lt-ltb (slice_index (stands_of reading groups (first_window whole cut)) rank) (length (before_cut whole cut rank)) low);
        stands = here;
        unmet = unmet_same reading groups whole cut clean (stands_of reading groups whole) (stands_of reading groups (first_window whole cut)) rank (slice_index (stands_of reading groups (first_window whole cut)) rank) is_rank low here refl met_alike;
      }

-- ---- The laws ----

is_hang : Verdict → Bool
is_hang Hang = true
is_hang Free = false
is_hang Unfinished = false

free_no_hang : ◌≡◌ {A = Verdict} Free Hang → ⊥
unfolding is_hang
free_no_hang e = false≢true (ap is_hang e)

-- each rank is in the group of the communicator that its call names
right_members : (groups : Groups) (recording : Lists) → IsRightRecording groups recording → AreMembers groups recording
right_members groups recording right rank place call there =
    let h = right.are_right rank place call there in
    let seventh = and_parts _ _ h in
    let sixth = and_parts _ _ seventh.0 in
    let fifth = and_parts _ _ sixth.0 in
    let fourth = and_parts _ _ fifth.0 in
    let third = and_parts _ _ fourth.0 in
    (and_parts _ _ third.0).1

pub after_a_free_window_the_second_decides : AfterAFreeWindowTheSecondDecides
after_a_free_window_the_second_decides reading groups whole cut right clean free =
    let parts = clean_parts groups whole cut clean in
    let closed = first_closed reading groups whole cut parts right.is_closed in
    second_decides reading groups whole cut parts (right_members groups whole right)
    (λ rank.
    ⊎_elim
    (λ (is_rank : rank < length whole).
    ⊎_elim
    (λ (stuck : is_stuck reading groups (first_window whole cut) rank ≡ true).
    let held = (without_open_the_stuck_are_held reading groups (first_window whole cut) closed (none_open reading groups whole cut parts) rank (omega (arith, is_rank, first_ranks whole cut))).0 stuck in
    absurd (free_no_hang (free.hang.1 (rank, held))))
    (λ (at_end : is_stuck reading groups (first_window whole cut) rank ≡ false).
    let comes = comes_to_cut reading groups whole cut parts right.is_closed rank (not-false (is_at_end (first_window whole cut) (stands_of reading groups (first_window whole cut)) rank) at_end) in
    omega (arith, comes, (stands_first reading groups whole cut parts rank).no_later))
    (cases_Bool (is_stuck reading groups (first_window whole cut) rank)))
    (λ (past : length whole ≤ rank). omega (arith, before_none reading groups whole cut parts rank past))
    (cases_lt rank (length whole)))

pub stuck_in_the_first_is_held_in_the_whole : StuckInTheFirstIsHeldInTheWhole
stuck_in_the_first_is_held_in_the_whole reading groups whole cut right clean rank is_rank stuck =
    held_alike reading groups whole cut (clean_parts groups whole cut clean) right.is_closed rank is_rank stuck

pub a_hang_in_the_first_is_one : AHangInTheFirstIsOne
a_hang_in_the_first_is_one reading groups whole cut verdict right clean hangs is =
    let parts = clean_parts groups whole cut clean in
    let held = hangs.hang.0 refl in
    let closed = first_closed reading groups whole cut parts right.is_closed in
    let within : held.0 < length whole = omega (arith, held_within reading groups (first_window whole cut) held.0 held.1, first_ranks whole cut) in
    let stuck = (without_open_the_stuck_are_held reading groups (first_window whole cut) closed (none_open reading groups whole cut parts) held.0 (omega (arith, within, first_ranks whole cut))).1 held.1 in
    is.hang.1 (held.0, (held_alike reading groups whole cut parts right.is_closed held.0 within stuck).held)
