-- The windows of a clean cut are recordings as the whole one is, so that each can be cut in its turn.
use Rattle.moves.specs.declared.reading.Reading.TheVariants.{Strict}
use Rattle.std.proofs.Common.{◌≡◌, ℕ, zero, suc, ◌+◌, ◌-◌, ◌<◌, ◌≤◌, Bool, true, false, not, ◌&&◌, ◌||◌, Option, Some, None, if◌then◌else◌, List, [], ◌∷◌, ◌++◌, length, take, drop, refl, sym, ap, subst, ◌∙◌, ⊎_elim, arith, append_assoc}
use Rattle.std.specs.Prelude.{is_some}
use Rattle.std.specs.List.{slice_get, list_any, list_all}
use Rattle.std.specs.Option.{option_map, option_map_or}
use Rattle.std.proofs.lemmas.List.{take_at, take-append-le, drop-append-le, length-append}
use Rattle.std.proofs.lemmas.List.Folds.{list_any-append}
use Rattle.std.proofs.lemmas.Option.{none-some, same_Some, slice_get_within}
use Rattle.std.proofs.lemmas.Bool.{cases_Bool, cases_lt, false≢true, false_from_ne_true, and_parts, or_parts, or_from, not-true, not_from_false}
use Rattle.mpicall.specs.Ending.{ends_list}
use Rattle.mpicall.specs.declared.call.Mode.TheVariants.{Standard}
use Rattle.mpicall.specs.declared.call.Peer.TheVariants.{Null}
use Rattle.mpicall.specs.declared.call.Call.{Call}
use Rattle.mpicall.specs.declared.call.Call.TheVariants.{Isend, Irecv, Finalize}
use Rattle.mpigroup.specs.Groups.{Groups}
use Rattle.callstore.specs.Recordings.{Lists, calls_of, has_end, IsClosed}
use Rattle.callstore.specs.Communicators.{comm_of}
use Rattle.callstore.specs.Requests.{starts, waits_for, does_start, does_complete, started_in, is_active}
use Rattle.callstore.proofs.OptionLemmas.{and_then_parts}
use Rattle.callstore.proofs.PlaceLemmas.{slice_get-front, slice_get_there}
use Rattle.pairing.specs.Faults.{is_comm, comm_exists, is_member, peers_exist, starts_afresh, are_distinct, waits_for_active}
use Rattle.windows.specs.Cuts.{Cut, before_cut, after_cut, left_active, starts_receive, is_moved, without_peer, first_calls, first_window, started_again, front_calls, front_of, second_window}
use Rattle.windows.specs.Clean.{makes_own, is_right, IsRightRecording}
use Rattle.windows.specs.Laws.{WindowsAreRight}
use Rattle.windows.proofs.CutLists.{as_first, front_before, first_length, front_take, moved_receives, behind_first, take_behind}
use Rattle.windows.proofs.StartedLemmas.{started-cons, none_started, started_alike}
use Rattle.windows.proofs.FrontStarts.{active_if_started, anew_completes, anew_started}
use Rattle.windows.proofs.CutWindows.{whole_calls, second_calls, first_window_calls, first_past, first_ranks, second_ranks, take_before, take_in_first, call_before, call_in_first, SameStart, same_start}
use Rattle.windows.proofs.CleanLemmas.{CleanCut, clean_parts, rank_before}
use Rattle.windows.proofs.FirstNeeds.{first_alike}
use Rattle.windows.proofs.CutStands.{ends_same, front_starts, starts_no_end, first_end, no_end_before}
use Rattle.windows.proofs.CutHeld.{first_closed}

-- ---- The tests of a call one by one ----

pub record Right (groups : Groups) (rank : ℕ) (calls : List Call) (call : Call) : Type 0 where
  pub goes_on : has_end calls ≡ false
  pub exists : comm_exists groups call ≡ true
  pub member : option_map_or (is_member groups rank) (comm_of call) true ≡ true
  pub peers : peers_exist groups call ≡ true
  pub afresh : starts_afresh calls call ≡ true
  pub distinct : are_distinct (waits_for call) ≡ true
  pub active : waits_for_active calls call ≡ true
  pub makes_it : makes_own groups rank call ≡ true

pub right_parts : (groups : Groups) (rank : ℕ) (calls : List Call) (call : Call) → is_right groups rank calls call ≡ true → Right groups rank calls call
right_parts groups rank calls call h =
    let seventh = and_parts _ _ h in
    let sixth = and_parts _ _ seventh.0 in
    let fifth = and_parts _ _ sixth.0 in
    let fourth = and_parts _ _ fifth.0 in
    let third = and_parts _ _ fourth.0 in
    let second = and_parts _ _ third.0 in
    let first = and_parts _ _ second.0 in
    record { goes_on = not-true (has_end calls) first.0; exists = first.1; member = second.1; peers = third.1; afresh = fourth.1; distinct = fifth.1; active = sixth.1; makes_it = seventh.1 }

pub right_from : (groups : Groups) (rank : ℕ) (calls : List Call) (call : Call) → Right groups rank calls call → is_right groups rank calls call ≡ true
right_from groups rank calls call h =
    rw (h.goes_on, h.exists, h.member, h.peers, h.afresh, h.distinct, h.active, h.makes_it) refl

-- where the same requests are active, a call is right alike
same_active : (calls others : List Call) (call : Call) → ((req : ℕ) → is_active calls req ≡ is_active others req) → (starts_afresh calls call ≡ starts_afresh others call) × (waits_for_active calls call ≡ waits_for_active others call)
same_active calls others call same = (by_start (starts call), all_same (waits_for call))
  where
    by_start : (o : Option ℕ) → option_map_or (λ req. not (is_active calls req)) o true ≡ option_map_or (λ req. not (is_active others req)) o true
    by_start None = refl
    by_start (Some req) = ap (λ (b : Bool). not b) (same req)

    all_same : (reqs : List ℕ) → list_all (is_active calls) reqs ≡ list_all (is_active others) reqs
    all_same [] = refl
    all_same (req ∷ rest) = rw (same req, all_same rest) refl

-- a call is as right behind other calls that end no list and after which the same requests are active
stays_right : (groups : Groups) (rank : ℕ) (calls others : List Call) (call : Call) → Right groups rank calls call → has_end others ≡ false → ((req : ℕ) → is_active calls req ≡ is_active others req) → Right groups rank others call
stays_right groups rank calls others call h goes_on same =
    let alike = same_active calls others call same in
    record { goes_on = goes_on; exists = h.exists; member = h.member; peers = h.peers; afresh = sym alike.0 ∙ h.afresh; distinct = h.distinct; active = sym alike.1 ∙ h.active; makes_it = h.makes_it }

-- and so is a receive without its peer
without_right : (groups : Groups) (rank : ℕ) (calls others : List Call) (call : Call) (moved : Bool) → Right groups rank calls call → has_end others ≡ false → ((req : ℕ) → is_active calls req ≡ is_active others req) → Right groups rank others (if moved then without_peer call else call)
without_right groups rank calls others call false h goes_on same = stays_right groups rank calls others call h goes_on same
without_right groups rank calls others (Irecv req comm source tag) true h goes_on same =
    record { goes_on = goes_on; exists = h.exists; member = h.member; peers = refl; afresh = ap (λ (b : Bool). not b) (sym (same req)) ∙ h.afresh; distinct = refl; active = refl; makes_it = refl }
without_right groups rank calls others call true h goes_on same = stays_right groups rank calls others call h goes_on same

-- ---- The first window ----

ends_taken : (moves : ℕ → Bool) (place : ℕ) (calls : List Call) → has_end (take place (first_calls moves calls)) ≡ has_end (take place calls)
ends_taken moves zero calls = refl
ends_taken moves (suc place) [] = refl
ends_taken moves (suc place) (call ∷ rest) = rw (ends_same moves call rest, ends_taken moves place rest) refl

-- a list ends within its first part or its second
ends_first : (calls more : List Call) → has_end (calls ++ more) ≡ false → has_end calls ≡ false
ends_first calls more h = (or_parts (has_end calls) (has_end more) (sym (list_any-append ends_list calls more) ∙ h)).0

ends_second : (calls more : List Call) → has_end (calls ++ more) ≡ false → has_end more ≡ false
ends_second calls more h = (or_parts (has_end calls) (has_end more) (sym (list_any-append ends_list calls more) ∙ h)).1

ends_dropped : (n : ℕ) (calls : List Call) → has_end calls ≡ false → has_end (drop n calls) ≡ false
ends_dropped zero calls h = h
ends_dropped (suc n) [] h = refl
ends_dropped (suc n) (call ∷ rest) h = ends_dropped n rest (or_parts (ends_list call) (has_end rest) h).1

-- ---- Requests in front of the second window ----

any_taken : {A : Type 0} (p : A → Bool) (n : ℕ) (xs : List A) → list_any p xs ≡ false → list_any p (take n xs) ≡ false
any_taken p zero xs h = refl
any_taken p (suc n) [] h = refl
any_taken p (suc n) (x ∷ xs) h =
    let parts = or_parts (p x) (list_any p xs) h in
    rw (parts.0, any_taken p n xs parts.1) refl

-- an active request was started
active_started : (calls : List Call) (req : ℕ) → is_active calls req ≡ true → list_any (does_start req) calls ≡ true
active_started calls req active =
    ⊎_elim
    (λ (is : list_any (does_start req) calls ≡ true). is)
    (λ (no : list_any (does_start req) calls ≡ false). absurd (false≢true (sym (ap (λ (o : Option ℕ). is_some o) (none_started calls req no)) ∙ active)))
    (cases_Bool (list_any (does_start req) calls))

-- what is started in front was active before the cut
front_active : (moves : ℕ → Bool) (place : ℕ) (calls : List Call) (req : ℕ) → list_any (does_start req) (front_before moves place calls) ≡ true → is_active (take place calls) req ≡ true
front_active moves zero calls req h = absurd (false≢true h)
front_active moves (suc place) [] req h = absurd (false≢true h)
front_active moves (suc place) (call ∷ rest) req h =
    ap (λ (o : Option ℕ). is_some o) (started-cons call (take place rest) req)
    ∙ ⊎_elim
    (λ (later : list_any (does_start req) (front_before moves place rest) ≡ true).
    let active = front_active moves place rest req later in
    by_later (list_any (does_start req) (take place rest)) (does_start req call && not (list_any (does_complete req) (take place rest))) (started_in (take place rest) req) (active_started (take place rest) req active) active)
    (λ (none : list_any (does_start req) (front_before moves place rest) ≡ false).
    let here : list_any (does_start req) (started_again moves call rest) ≡ true = or_false (list_any (does_start req) (started_again moves call rest)) (list_any (does_start req) (front_before moves place rest)) (sym (list_any-append (does_start req) (started_again moves call rest) (front_before moves place rest)) ∙ h) none in
    let anew : is_some {T = ℕ} (if does_start req call && not (list_any (does_complete req) rest) then Some 0 else None) ≡ true =
    ap (λ (o : Option ℕ). is_some o) (sym (anew_started moves call rest req)) ∙ sym (active_if_started (started_again moves call rest) req (anew_completes moves call rest req)) ∙ here in
    let parts = both_parts (does_start req call) (list_any (does_complete req) rest) anew in
    let stays = any_taken (does_complete req) place rest parts.1 in
    by_here (list_any (does_start req) (take place rest)) (does_start req call) (list_any (does_complete req) (take place rest)) (started_in (take place rest) req) (active_if_started (take place rest) req stays) parts.0 stays)
    (cases_Bool (list_any (does_start req) (front_before moves place rest)))
  where
    or_false : (a b : Bool) → (a || b) ≡ true → b ≡ false → a ≡ true
    or_false true b h none = refl
    or_false false b h none = absurd (false≢true (sym none ∙ h))

    by_later : (some here : Bool) (o : Option ℕ) → some ≡ true → is_some o ≡ true → is_some (if some then option_map (λ place. suc place) o else (if here then Some 0 else None)) ≡ true
    by_later some here None is active = absurd (false≢true active)
    by_later some here (Some place) is active = rw is refl

    both_parts : (here ends : Bool) → is_some {T = ℕ} (if here && not ends then Some 0 else None) ≡ true → (here ≡ true) × (ends ≡ false)
    both_parts true true h = absurd (false≢true h)
    both_parts true false h = (refl, refl)
    both_parts false ends h = absurd (false≢true h)

    by_here : (some here ends : Bool) (o : Option ℕ) → some ≡ is_some o → here ≡ true → ends ≡ false → is_some (if some then option_map (λ place. suc place) o else (if here && not ends then Some 0 else None)) ≡ true
    by_here some here ends None same is stays = rw (same, is, stays) refl
    by_here some here ends (Some place) same is stays = rw same refl

-- a start in front stands for a call before the cut
record IsFront (moves : ℕ → Bool) (calls : List Call) (place : ℕ) (call : Call) : Type 0 where
  there : ℕ
  own : Call
  req : ℕ
  stands_there : slice_get calls there ≡ Some own
  is_left : left_active own (drop (suc there) calls) ≡ Some req
  is_it : call ≡ (if is_moved moves own (drop (suc there) calls) then own else Isend req Standard 0 Null 0 None)
  place_is : place ≡ length (front_before moves there calls)

front_parts : (moves : ℕ → Bool) (calls : List Call) (place : ℕ) (call : Call) → slice_get (front_calls moves calls) place ≡ Some call → IsFront moves calls place call
front_parts moves [] place call h = absurd (none-some call h)
front_parts moves (first ∷ rest) place call h = by_active (λ index there. front_parts moves rest index call there) (left_active first rest) refl place h
  where
    later : (more place : ℕ) → length (started_again moves first rest) ≡ more → IsFront moves rest place call → IsFront moves (first ∷ rest) (more + place) call
    later more place is front = record {
      there = suc front.there;
      own = front.own;
      req = front.req;
      stands_there = front.stands_there;
      is_left = front.is_left;
      is_it = front.is_it;
      place_is = omega (arith, is, front.place_is, length-append (started_again moves first rest) (front_before moves front.there rest));
    }

    by_active : ((index : ℕ) → slice_get (front_calls moves rest) index ≡ Some call → IsFront moves rest index call) → (o : Option ℕ) → left_active first rest ≡ o → (place : ℕ) → slice_get (option_map_or (λ req. (if is_moved moves first rest then first else Isend req Standard 0 Null 0 None) ∷ []) o [] ++ front_calls moves rest) place ≡ Some call → IsFront moves (first ∷ rest) place call
    by_active behind None active place there =
        let same : 0 + place ≡ place = omega arith in
        rw same at (later 0 place (rw active refl) (behind place there))
    by_active behind (Some req) active zero there = record {
      there = 0;
      own = first;
      req = req;
      stands_there = refl;
      is_left = active;
      is_it = sym (same_Some _ call there);
      place_is = refl;
    }
    by_active behind (Some req) active (suc place) there =
        let same : 1 + place ≡ suc place = omega arith in
        rw same at (later 1 place (rw active refl) (behind place there))

-- no call in front ends a list
none_ends : (calls : List Call) → ((place : ℕ) (call : Call) → slice_get calls place ≡ Some call → ends_list call ≡ false) → has_end calls ≡ false
none_ends [] none = refl
none_ends (call ∷ rest) none = rw (none 0 call refl) (none_ends rest (λ place c there. none (suc place) c there))

front_goes_on : (moves : ℕ → Bool) (calls : List Call) → has_end (front_calls moves calls) ≡ false
front_goes_on moves calls = none_ends (front_calls moves calls) (λ place call there. starts_no_end call (front_starts moves calls place call there))

ends_first_calls : (moves : ℕ → Bool) (calls : List Call) → has_end (first_calls moves calls) ≡ has_end calls
ends_first_calls moves [] = refl
ends_first_calls moves (call ∷ rest) = rw (ends_same moves call rest, ends_first_calls moves rest) refl

-- the world exists where some rank is in it
world_exists : (groups : Groups) (rank : ℕ) → is_member groups rank 0 ≡ true → is_comm groups 0 ≡ true
world_exists [] rank h = absurd (false≢true h)
world_exists (group ∷ more) rank h = refl

module _ (groups : Groups) (whole : Lists) (cut : Cut) (clean : CleanCut groups whole cut) (right : IsRightRecording groups whole) where
  first_right : (rank place : ℕ) (call : Call) → slice_get (calls_of (first_window whole cut) rank) place ≡ Some call → is_right groups rank (take place (calls_of (first_window whole cut) rank)) call ≡ true
  first_right rank place call there =
      ⊎_elim
      (λ (is_rank : rank < length whole). by_place is_rank)
      (λ (past : length whole ≤ rank). absurd (none-some call (sym (ap (λ (calls : List Call). slice_get calls place) (first_past whole cut rank past)) ∙ there)))
      (cases_lt rank (length whole))
    where
      by_place : rank < length whole → is_right groups rank (take place (calls_of (first_window whole cut) rank)) call ≡ true
      by_place is_rank =
          ⊎_elim
          (λ (before : place < length (before_cut whole cut rank)).
          let own = slice_get_there (before_cut whole cut rank) place before in
          let same : call ≡ as_first (cut.moves rank) own.0 (drop (suc place) (before_cut whole cut rank)) = same_Some _ _ (sym there ∙ call_in_first whole cut rank place own.0 is_rank own.1) in
          let was = right_parts groups rank (take place (calls_of whole rank)) own.0 (right.are_right rank place own.0 (call_before whole cut rank place own.0 own.1)) in
          let taken = take_before whole cut rank place (omega (arith, before)) in
          let taken_first = take_in_first whole cut rank place is_rank (omega (arith, before)) in
          rw same
          (right_from groups rank (take place (calls_of (first_window whole cut) rank)) (as_first (cut.moves rank) own.0 (drop (suc place) (before_cut whole cut rank)))
          (without_right groups rank (take place (calls_of whole rank)) (take place (calls_of (first_window whole cut) rank)) own.0 (is_moved (cut.moves rank) own.0 (drop (suc place) (before_cut whole cut rank))) was
          (ap has_end taken_first ∙ ends_taken (cut.moves rank) place (before_cut whole cut rank) ∙ ap has_end (sym taken) ∙ was.goes_on)
          (λ req.
          ap (λ (calls : List Call). is_active calls req) taken
          ∙ ap (λ (o : Option ℕ). is_some o) (sym (started_alike (take place (first_calls (cut.moves rank) (before_cut whole cut rank))) (take place (before_cut whole cut rank)) req (first_alike (cut.moves rank) place (before_cut whole cut rank))))
          ∙ ap (λ (calls : List Call). is_active calls req) (sym taken_first)))))
          (λ (past : length (before_cut whole cut rank) ≤ place).
          let within : place < length (calls_of (first_window whole cut) rank) = slice_get_within (calls_of (first_window whole cut) rank) place call there in
          let end : place ≡ length (before_cut whole cut rank) = omega (arith, past, within, ap length (first_window_calls whole cut rank is_rank), length-append (first_calls (cut.moves rank) (before_cut whole cut rank)) (Finalize ∷ []), first_length (cut.moves rank) (before_cut whole cut rank)) in
          let last : call ≡ Finalize = same_Some call Finalize (sym there ∙ ap (λ (p : ℕ). slice_get (calls_of (first_window whole cut) rank) p) end ∙ first_end Strict groups whole cut clean rank is_rank) in
          let taken : take place (calls_of (first_window whole cut) rank) ≡ first_calls (cut.moves rank) (before_cut whole cut rank) =
          ap (λ (calls : List Call). take place calls) (first_window_calls whole cut rank is_rank)
          ∙ take_at (first_calls (cut.moves rank) (before_cut whole cut rank)) (Finalize ∷ []) place (omega (arith, end, first_length (cut.moves rank) (before_cut whole cut rank))) in
          rw last
          (right_from groups rank (take place (calls_of (first_window whole cut) rank)) Finalize
          (record { goes_on = ap has_end taken ∙ ends_first_calls (cut.moves rank) (before_cut whole cut rank) ∙ none_ends (before_cut whole cut rank) (no_end_before Strict groups whole cut clean right.is_closed rank); exists = refl; member = refl; peers = refl; afresh = refl; distinct = refl; active = refl; makes_it = refl })))
          (cases_lt place (length (before_cut whole cut rank)))

  first_is_right : IsRightRecording groups (first_window whole cut)
  first_is_right = record {
    of_world = λ rank within. right.of_world rank (omega (arith, within, first_ranks whole cut));
    is_closed = first_closed Strict groups whole cut clean right.is_closed;
    are_right = first_right;
  }

  -- ---- The second window ----

  -- a request that some call in front starts before its own isn't active there
  not_before : (rank place req : ℕ) (own : Call) → slice_get (before_cut whole cut rank) place ≡ Some own → starts own ≡ Some req → is_active (front_before (cut.moves rank) place (before_cut whole cut rank)) req ≡ false
  not_before rank place req own there is =
      let within = slice_get_within (before_cut whole cut rank) place own there in
      let was = right_parts groups rank (take place (calls_of whole rank)) own (right.are_right rank place own (call_before whole cut rank place own there)) in
      let fresh : is_active (take place (calls_of whole rank)) req ≡ false = not-true (is_active (take place (calls_of whole rank)) req) (ap (λ (o : Option ℕ). option_map_or (λ r. not (is_active (take place (calls_of whole rank)) r)) o true) (sym is) ∙ was.afresh) in
      let fresh_before : is_active (take place (before_cut whole cut rank)) req ≡ false = ap (λ (calls : List Call). is_active calls req) (sym (take_before whole cut rank place (omega (arith, within)))) ∙ fresh in
      false_from_ne_true (is_active (front_before (cut.moves rank) place (before_cut whole cut rank)) req)
      (λ active.
      false≢true (sym fresh_before ∙ front_active (cut.moves rank) place (before_cut whole cut rank) req (active_started (front_before (cut.moves rank) place (before_cut whole cut rank)) req active)))

  front_right : (rank place : ℕ) (call : Call) → rank < length whole → (front : IsFront (cut.moves rank) (before_cut whole cut rank) place call) → Right groups rank (front_before (cut.moves rank) front.there (before_cut whole cut rank)) call
  front_right rank place call is_rank front =
      let started = and_then_parts _ (starts front.own) front.req front.is_left in
      let named : starts front.own ≡ Some front.req = started.1 ∙ ap (λ (r : ℕ). Some r) (left_is started.0 (list_any (does_complete started.0) (drop (suc front.there) (before_cut whole cut rank))) started.2) in
      let fresh = not_before rank front.there front.req front.own front.stands_there named in
      let was = right_parts groups rank (take front.there (calls_of whole rank)) front.own (right.are_right rank front.there front.own (call_before whole cut rank front.there front.own front.stands_there)) in
      let goes_on : has_end (front_before (cut.moves rank) front.there (before_cut whole cut rank)) ≡ false =
      ap has_end (sym (front_take (cut.moves rank) (before_cut whole cut rank) front.there))
      ∙ any_taken ends_list (length (front_before (cut.moves rank) front.there (before_cut whole cut rank))) (front_of whole cut rank) (front_goes_on (cut.moves rank) (before_cut whole cut rank)) in
      subst (λ (c : Call). Right groups rank (front_before (cut.moves rank) front.there (before_cut whole cut rank)) c) (sym front.is_it)
      (⊎_elim
      (λ (moved : is_moved (cut.moves rank) front.own (drop (suc front.there) (before_cut whole cut rank)) ≡ true).
      rw moved (receive_right front.own (take front.there (calls_of whole rank)) (front_before (cut.moves rank) front.there (before_cut whole cut rank)) (moved_receives (cut.moves rank) front.own (drop (suc front.there) (before_cut whole cut rank)) moved) was goes_on named fresh))
      (λ (stays : is_moved (cut.moves rank) front.own (drop (suc front.there) (before_cut whole cut rank)) ≡ false).
      rw stays
      (record {
        goes_on = goes_on;
        exists = world_exists groups rank (right.of_world rank is_rank);
        member = right.of_world rank is_rank;
        peers = refl;
        afresh = not_from_false (is_active (front_before (cut.moves rank) front.there (before_cut whole cut rank)) front.req) fresh;
        distinct = refl;
        active = refl;
        makes_it = refl;
      }))
      (cases_Bool (is_moved (cut.moves rank) front.own (drop (suc front.there) (before_cut whole cut rank)))))
    where
      left_is : (req : ℕ) (ends : Bool) → (if ends then None else Some req) ≡ Some front.req → req ≡ front.req
      left_is req true h = absurd (none-some front.req h)
      left_is req false h = same_Some req front.req h

      receive_right : (own : Call) (before calls : List Call) → starts_receive own ≡ true → Right groups rank before own → has_end calls ≡ false → starts own ≡ Some front.req → is_active calls front.req ≡ false → Right groups rank calls own
      receive_right (Irecv req comm source tag) before calls is was goes_on named fresh = record {
        goes_on = goes_on;
        exists = was.exists;
        member = was.member;
        peers = was.peers;
        afresh = ap (λ (r : ℕ). not (is_active calls r)) (same_Some req front.req named) ∙ not_from_false (is_active calls front.req) fresh;
        distinct = refl;
        active = refl;
        makes_it = refl;
      }
      receive_right _ before calls is was goes_on named fresh = absurd (false≢true is)

  second_right : (rank place : ℕ) (call : Call) → slice_get (calls_of (second_window whole cut) rank) place ≡ Some call → is_right groups rank (take place (calls_of (second_window whole cut) rank)) call ≡ true
  second_right rank place call there =
      ⊎_elim
      (λ (in_front : place < length (front_of whole cut rank)).
      let own : slice_get (front_of whole cut rank) place ≡ Some call = sym (slice_get-front (front_of whole cut rank) (after_cut whole cut rank) place in_front) ∙ joined in
      let front = front_parts (cut.moves rank) (before_cut whole cut rank) place call own in
      let is_rank = rank_before whole cut rank front.there (slice_get_within (before_cut whole cut rank) front.there front.own front.stands_there) in
      let taken : take place (calls_of (second_window whole cut) rank) ≡ front_before (cut.moves rank) front.there (before_cut whole cut rank) =
      ap (λ (calls : List Call). take place calls) (second_calls whole cut rank)
      ∙ take-append-le place (front_of whole cut rank) (after_cut whole cut rank) (omega (arith, in_front))
      ∙ ap (λ (n : ℕ). take n (front_of whole cut rank)) front.place_is
      ∙ front_take (cut.moves rank) (before_cut whole cut rank) front.there in
      right_from groups rank (take place (calls_of (second_window whole cut) rank)) call
      (subst (λ (calls : List Call). Right groups rank calls call) (sym taken) (front_right rank place call is_rank front)))
      (λ (past : length (front_of whole cut rank) ≤ place). by_index (place - length (front_of whole cut rank)) (omega (arith, past)))
      (cases_lt place (length (front_of whole cut rank)))
    where
      joined : slice_get (front_of whole cut rank ++ after_cut whole cut rank) place ≡ Some call
      joined = ap (λ (calls : List Call). slice_get calls place) (sym (second_calls whole cut rank)) ∙ there

      by_index : (index : ℕ) → place ≡ length (front_of whole cut rank) + index → is_right groups rank (take place (calls_of (second_window whole cut) rank)) call ≡ true
      by_index index is =
          let behind : slice_get (after_cut whole cut rank) index ≡ Some call =
          sym (ap (λ (n : ℕ). slice_get (front_of whole cut rank ++ after_cut whole cut rank) n) is ∙ behind_first (front_of whole cut rank) (after_cut whole cut rank) index) ∙ joined in
          let in_whole : slice_get (calls_of whole rank) (length (before_cut whole cut rank) + index) ≡ Some call =
          ap (λ (calls : List Call). slice_get calls (length (before_cut whole cut rank) + index)) (whole_calls whole cut rank)
          ∙ behind_first (before_cut whole cut rank) (after_cut whole cut rank) index ∙ behind in
          let was = right_parts groups rank (take (length (before_cut whole cut rank) + index) (calls_of whole rank)) call (right.are_right rank (length (before_cut whole cut rank) + index) call in_whole) in
          let taken_whole : take (length (before_cut whole cut rank) + index) (calls_of whole rank) ≡ before_cut whole cut rank ++ take index (after_cut whole cut rank) =
          ap (λ (calls : List Call). take (length (before_cut whole cut rank) + index) calls) (whole_calls whole cut rank)
          ∙ take_behind (before_cut whole cut rank) (after_cut whole cut rank) index in
          let taken : take (length (front_of whole cut rank) + index) (calls_of (second_window whole cut) rank) ≡ front_of whole cut rank ++ take index (after_cut whole cut rank) =
          ap (λ (calls : List Call). take (length (front_of whole cut rank) + index) calls) (second_calls whole cut rank)
          ∙ take_behind (front_of whole cut rank) (after_cut whole cut rank) index in
          let rest_goes_on = ends_second (before_cut whole cut rank) (take index (after_cut whole cut rank)) (ap has_end (sym taken_whole) ∙ was.goes_on) in
          let goes_on : has_end (take (length (front_of whole cut rank) + index) (calls_of (second_window whole cut) rank)) ≡ false =
          ap has_end taken ∙ list_any-append ends_list (front_of whole cut rank) (take index (after_cut whole cut rank)) ∙ or_from (has_end (front_of whole cut rank)) (has_end (take index (after_cut whole cut rank))) (front_goes_on (cut.moves rank) (before_cut whole cut rank)) rest_goes_on in
          ap (λ (n : ℕ). is_right groups rank (take n (calls_of (second_window whole cut) rank)) call) is
          ∙ right_from groups rank (take (length (front_of whole cut rank) + index) (calls_of (second_window whole cut) rank)) call
          (stays_right groups rank (take (length (before_cut whole cut rank) + index) (calls_of whole rank)) (take (length (front_of whole cut rank) + index) (calls_of (second_window whole cut) rank)) call was goes_on
          (λ req. same_some req (started_in (take (length (before_cut whole cut rank) + index) (calls_of whole rank)) req) (started_in (take (length (front_of whole cut rank) + index) (calls_of (second_window whole cut) rank)) req) (same_start whole cut rank index req)))
        where
          same_some : (req : ℕ) (o there : Option ℕ) → SameStart (cut.moves rank) (before_cut whole cut rank) req o there → is_some o ≡ is_some there
          same_some req None None same = refl
          same_some req None (Some there) same = absurd same
          same_some req (Some place) None same = absurd same
          same_some req (Some place) (Some there) same = refl

  second_closed : IsClosed (second_window whole cut)
  second_closed rank within =
      let is_rank : rank < length whole = omega (arith, within, second_ranks whole cut) in
      let was = right.is_closed rank is_rank in
      let low : cut.place rank ≤ length was.before = omega (arith, clean.within rank is_rank, ap length was.is_all, length-append was.before (was.last ∷ [])) in
      let behind : after_cut whole cut rank ≡ drop (cut.place rank) was.before ++ was.last ∷ [] =
      ap (λ (calls : List Call). drop (cut.place rank) calls) was.is_all ∙ drop-append-le (cut.place rank) was.before (was.last ∷ []) low in
      record {
        before = front_of whole cut rank ++ drop (cut.place rank) was.before;
        last = was.last;
        is_all =
            second_calls whole cut rank
            ∙ ap (λ (calls : List Call). front_of whole cut rank ++ calls) behind
            ∙ sym (append_assoc (front_of whole cut rank) (drop (cut.place rank) was.before) (was.last ∷ []));
        is_the_end = was.is_the_end;
        has_no_other =
            list_any-append ends_list (front_of whole cut rank) (drop (cut.place rank) was.before)
            ∙ or_from (has_end (front_of whole cut rank)) (has_end (drop (cut.place rank) was.before)) (front_goes_on (cut.moves rank) (before_cut whole cut rank)) (ends_dropped (cut.place rank) was.before was.has_no_other);
      }

  second_is_right : IsRightRecording groups (second_window whole cut)
  second_is_right = record {
    of_world = λ rank within. right.of_world rank (omega (arith, within, second_ranks whole cut));
    is_closed = second_closed;
    are_right = second_right;
  }

pub windows_are_right : WindowsAreRight
windows_are_right groups whole cut right clean =
    let parts = clean_parts groups whole cut clean in
    (first_is_right groups whole cut parts right, second_is_right groups whole cut parts right)
