-- The causes are those that the search finds.
use Rattle.moves.specs.declared.reading.Reading.{Reading}
use Rattle.std.proofs.Common.{inl, inr, ◌≡◌, ℕ, zero, suc, Bool, true, false, ◌||◌, Option, Some, None, find, if◌then◌else◌, List, [], ◌∷◌, ◌++◌, length, map, drop, refl, sym, ap, subst, ◌∙◌, ⊎_elim, append-nil}
use Rattle.std.specs.Prelude.{nat_le, option_map, option_and_then}
use Rattle.std.specs.List.{list_all, filter_map, range_with_len}
use Rattle.std.proofs.lemmas.Option.{none-some, same_Some}
use Rattle.std.proofs.lemmas.Bool.{cases_Bool, false≢true}
use Rattle.mpigroup.specs.Groups.{Groups}
use Rattle.callstore.specs.Recordings.{Lists, IsClosed}
use Rattle.moves.specs.Stands.{stands_of}
use Rattle.moves.specs.declared.need.Need.{Need}
use Rattle.moves.specs.declared.need.Need.TheVariants.{At, Lacking}
use Rattle.pairing.specs.LeftOpen.{is_left_open}
use Rattle.waitgraph.specs.Stuck.{rank_needed, unmet_of}
use Rattle.waitgraph.specs.Waits.{needs_in}
use Rattle.waitgraph.specs.Held.{Set, is_missing, is_blocked, IsDeadlocked, ListsHeld}
use Rattle.waitgraph.specs.Causes.{CauseView, CycleOf, MissingOf, StarvedOf, held_by, next_of, missing_of, IsCycle, AreCauses, after_steps, IsEnd, ComesTo, TellsCauses, WalksEndInTheCauses, EachRecordingHasOneListOfCauses}
use Rattle.waitgraph.specs.Graphs.{GraphView, IsGraphOf}
use Rattle.waitgraph.specs.inner.Graphs.{IsGraphBy}
use Rattle.waitgraph.specs.inner.Held.{opened_of, is_held}
use Rattle.waitgraph.specs.inner.Loose.{goes_on, hop, hop_by}
use Rattle.waitgraph.specs.inner.Waits.{waits_of}
use Rattle.waitgraph.specs.inner.Causes.{Walks, walks_of, hop_in, to_of, lacked_by, next_in, way_round, cycle_by, cycle_at, missing_at, starved_to, starved_at, end_to, end_at, causes_of}
use Rattle.waitgraph.specs.declared.next_hop.NextHop.{NextHop}
use Rattle.waitgraph.proofs.AmongLemmas.{Among}
use Rattle.waitgraph.proofs.UnmetLemmas.{unmet_from, waits_are}
use Rattle.waitgraph.proofs.CycleLemmas.{way_home_is, cycle_found, cycle_no_lower}
use Rattle.waitgraph.proofs.WalkLaws.{told_by_way}
use Rattle.waitgraph.proofs.WalkingLemmas.{walk_is, walk_count, walks_end_in_found}
use Rattle.waitgraph.proofs.DeadlockLemmas.{opened_all, blocked_is, waits_from, waits_held, held_are, are_found, found_is_deadlocked}
use Rattle.waitgraph.proofs.VerdictLemmas.{held_list, held_found, same_held}

-- what is found by tests that say the same
find_same : {A : Type 0} (f g : A → Bool) → ((x : A) → f x ≡ g x) → (xs : List A) → find f xs ≡ find g xs
find_same f g same [] = refl
find_same f g same (x ∷ xs) = rw (same x, find_same f g same xs) refl

pub given_same : {A B : Type 0} (f g : A → Option B) → ((x : A) → f x ≡ g x) → (xs : List A) → filter_map f xs ≡ filter_map g xs
given_same f g same [] = refl
given_same f g same (x ∷ xs) = rw (same x, given_same f g same xs) refl

map_same : {A B : Type 0} (f g : A → B) → ((x : A) → f x ≡ g x) → (xs : List A) → map f xs ≡ map g xs
map_same f g same [] = refl
map_same f g same (x ∷ xs) = rw (same x, map_same f g same xs) refl

found_there : {A : Type 0} (test : A → Bool) (xs : List A) (x : A) → find test xs ≡ Some x → Among x xs × (test x ≡ true)
found_there test [] x h = absurd (none-some x h)
found_there {A} test (y ∷ ys) x h =
    ⊎_elim
    (λ (is : test y ≡ true).
    let same : y ≡ x = same_Some y x (rw is at h) in
    (inl same, ap test (sym same) ∙ is))
    (λ (no : test y ≡ false). let rest = found_there test ys x (rw no at h) in (inr rest.0, rest.1))
    (cases_Bool (test y))

-- a rank that isn't held has no need by which it is
pub not_held_by : (reading : Reading) (groups : Groups) (recording : Lists) → IsDeadlocked reading groups recording (is_held reading groups recording) → (rank : ℕ) → is_held reading groups recording rank ≡ false → held_by reading groups recording (is_held reading groups recording) rank ≡ None
not_held_by reading groups recording dead rank not_held =
    by_need reading groups recording dead rank not_held (held_by reading groups recording (is_held reading groups recording) rank) refl
  where
    by_need : (reading : Reading) (groups : Groups) (recording : Lists) → IsDeadlocked reading groups recording (is_held reading groups recording) → (rank : ℕ) → is_held reading groups recording rank ≡ false → (o : Option Need) → held_by reading groups recording (is_held reading groups recording) rank ≡ o → o ≡ None
    by_need reading groups recording dead rank not_held None is = refl
    by_need reading groups recording dead rank not_held (Some need) is =
        let there = found_there (is_blocked recording (is_held reading groups recording)) (unmet_of reading groups recording rank) need is in
        let parts = unmet_from reading groups recording (stands_of reading groups recording) rank need there.0 in
        let held = waits_held reading groups recording dead rank
        (waits_from reading groups recording (is_held reading groups recording) rank (record { need = need; is_needed = parts.0; is_unmet = parts.1; blocked = there.1 })) in
        absurd (false≢true (sym not_held ∙ held))

-- the walk of the search goes on by the need by which a rank is held
onward_is : (reading : Reading) (groups : Groups) (recording : Lists) → IsDeadlocked reading groups recording (is_held reading groups recording) → (rank : ℕ) → hop_in (walks_of reading groups recording) rank ≡ option_map (hop (opened_of recording)) (held_by reading groups recording (is_held reading groups recording) rank)
onward_is reading groups recording dead rank =
    walk_is reading groups recording rank
    ∙ ⊎_elim
    (λ (held : is_held reading groups recording rank ≡ true).
    by_held (is_held reading groups recording rank) (hop_by (opened_of recording) (is_held reading groups recording) (needs_in (waits_of reading groups recording) rank)) held
    ∙ ap (λ (needs : List Need). hop_by (opened_of recording) (is_held reading groups recording) needs) (waits_are reading groups recording (stands_of reading groups recording) rank)
    ∙ ap (option_map (hop (opened_of recording)))
    (find_same (goes_on (opened_of recording) (is_held reading groups recording)) (is_blocked recording (is_held reading groups recording)) (λ need. sym (blocked_is recording (is_held reading groups recording) need)) (unmet_of reading groups recording rank)))
    (λ (not_held : is_held reading groups recording rank ≡ false).
    by_other (is_held reading groups recording rank) (hop_by (opened_of recording) (is_held reading groups recording) (needs_in (waits_of reading groups recording) rank)) not_held
    ∙ ap (option_map (hop (opened_of recording))) (sym (not_held_by reading groups recording dead rank not_held)))
    (cases_Bool (is_held reading groups recording rank))
  where
    by_held : (held : Bool) (o : Option NextHop) → held ≡ true → (if held then o else None) ≡ o
    by_held held o is = rw is refl

    by_other : (held : Bool) (o : Option NextHop) → held ≡ false → (if held then o else None) ≡ None
    by_other held o is = rw is refl

next_by : (recording : Lists) (o : Option Need) → option_and_then to_of (option_map (hop (opened_of recording)) o) ≡ option_and_then (λ need. if is_missing recording need then None else Some (rank_needed need)) o
next_by recording None = refl
next_by recording (Some (At rank place)) = refl
next_by recording (Some (Lacking rank)) =
    let opened = opened_all recording rank in
    ⊎_elim
    (λ (is : is_left_open recording rank ≡ true). rw (opened, is) refl)
    (λ (no : is_left_open recording rank ≡ false). rw (opened, no) refl)
    (cases_Bool (is_left_open recording rank))

missing_by : (recording : Lists) (waiting : ℕ) (o : Option Need) → option_map (MissingOf waiting) (option_and_then lacked_by (option_map (hop (opened_of recording)) o)) ≡ option_and_then (λ need. if is_missing recording need then Some (MissingOf waiting (rank_needed need)) else None) o
missing_by recording waiting None = refl
missing_by recording waiting (Some (At rank place)) = refl
missing_by recording waiting (Some (Lacking rank)) =
    let opened = opened_all recording rank in
    ⊎_elim
    (λ (is : is_left_open recording rank ≡ true). rw (opened, is) refl)
    (λ (no : is_left_open recording rank ≡ false). rw (opened, no) refl)
    (cases_Bool (is_left_open recording rank))

end_by : (recording : Lists) (waiting : ℕ) (o : Option Need) → option_and_then (end_to waiting) (option_map (hop (opened_of recording)) o) ≡ option_and_then (λ need. if is_missing recording need then Some (MissingOf waiting (rank_needed need)) else None) o
end_by recording waiting None = refl
end_by recording waiting (Some (At rank place)) = refl
end_by recording waiting (Some (Lacking rank)) =
    let opened = opened_all recording rank in
    ⊎_elim
    (λ (is : is_left_open recording rank ≡ true). rw (opened, is) refl)
    (λ (no : is_left_open recording rank ≡ false). rw (opened, no) refl)
    (cases_Bool (is_left_open recording rank))

-- no walk ends at a message that nobody may send
not_starved : (recording : Lists) (waiting : ℕ) (o : Option Need) → option_and_then (starved_to waiting) (option_map (hop (opened_of recording)) o) ≡ None
not_starved recording waiting None = refl
not_starved recording waiting (Some (At rank place)) = refl
not_starved recording waiting (Some (Lacking rank)) =
    ⊎_elim
    (λ (is : opened_of recording rank ≡ true). rw is refl)
    (λ (no : opened_of recording rank ≡ false). rw no refl)
    (cases_Bool (opened_of recording rank))

next_is : (reading : Reading) (groups : Groups) (recording : Lists) → IsDeadlocked reading groups recording (is_held reading groups recording) → (rank : ℕ) → next_in (walks_of reading groups recording) rank ≡ next_of reading groups recording (is_held reading groups recording) rank
next_is reading groups recording dead rank =
    ap (option_and_then to_of) (onward_is reading groups recording dead rank) ∙ next_by recording (held_by reading groups recording (is_held reading groups recording) rank)

missing_is : (reading : Reading) (groups : Groups) (recording : Lists) → IsDeadlocked reading groups recording (is_held reading groups recording) → (rank : ℕ) → missing_at (walks_of reading groups recording) rank ≡ missing_of reading groups recording (is_held reading groups recording) rank
missing_is reading groups recording dead rank =
    ap (λ (o : Option NextHop). option_map (MissingOf rank) (option_and_then lacked_by o)) (onward_is reading groups recording dead rank)
    ∙ missing_by recording rank (held_by reading groups recording (is_held reading groups recording) rank)

end_is : (reading : Reading) (groups : Groups) (recording : Lists) → IsDeadlocked reading groups recording (is_held reading groups recording) → (rank : ℕ) → end_at (walks_of reading groups recording) rank ≡ missing_of reading groups recording (is_held reading groups recording) rank
end_is reading groups recording dead rank =
    ap (option_and_then (end_to rank)) (onward_is reading groups recording dead rank)
    ∙ end_by recording rank (held_by reading groups recording (is_held reading groups recording) rank)

abbrev nowhere : ℕ → Option CauseView
nowhere rank = None

none_starved : (reading : Reading) (groups : Groups) (recording : Lists) → IsDeadlocked reading groups recording (is_held reading groups recording) → (ranks : List ℕ) → filter_map (starved_at (walks_of reading groups recording)) ranks ≡ []
none_starved reading groups recording dead ranks =
    given_same (starved_at (walks_of reading groups recording)) nowhere
    (λ rank. ap (option_and_then (starved_to rank)) (onward_is reading groups recording dead rank) ∙ not_starved recording rank (held_by reading groups recording (is_held reading groups recording) rank))
    ranks
    ∙ never ranks
  where
    never : (ranks : List ℕ) → filter_map nowhere ranks ≡ []
    never [] = refl
    never (rank ∷ ranks) = never ranks

-- a cycle by one walk is one by another that goes the same way
pub cycle_same : (f g : ℕ → Option ℕ) → ((rank : ℕ) → f rank ≡ g rank) → (low : ℕ) (rest : List ℕ) → IsCycle f low rest → IsCycle g low rest
cycle_same f g same low rest cycle = (sym (map_same f g same (low ∷ rest)) ∙ cycle.0, cycle.1)

-- the rest of the cycle that the search finds from a rank
cut_by : ℕ → List ℕ → Option (List ℕ)
cut_by low ranks = if list_all (nat_le low) ranks then Some (drop 1 ranks) else None

pub rest_by : Walks → ℕ → Option (List ℕ)
rest_by walks low = option_and_then (cut_by low) (way_round walks (length walks) low low)

pub rest_to : (walks : Walks) (low : ℕ) (rest : List ℕ) → rest_by walks low ≡ Some rest → IsCycle (next_in walks) low rest
unfolding rest_by cut_by
rest_to walks low rest is = by_way walks low rest (way_round walks (length walks) low low) refl is
  where
    by_test : (walks : Walks) (low : ℕ) (rest ranks : List ℕ) (test : Bool) → way_round walks (length walks) low low ≡ Some ranks → list_all (nat_le low) ranks ≡ test → (if test then Some (drop 1 ranks) else None) ≡ Some rest → IsCycle (next_in walks) low rest
    by_test walks low rest ranks false way all is = absurd (none-some rest is)
    by_test walks low rest ranks true way all is =
        let told = told_by_way walks (length walks) low ranks way all in
        let same : told.rest ≡ rest = ap (drop 1) (sym told.begins) ∙ same_Some (drop 1 ranks) rest is in
        subst (λ (r : List ℕ). IsCycle (next_in walks) low r) same told.is_cycle

    by_way : (walks : Walks) (low : ℕ) (rest : List ℕ) (o : Option (List ℕ)) → way_round walks (length walks) low low ≡ o → option_and_then (cut_by low) o ≡ Some rest → IsCycle (next_in walks) low rest
    by_way walks low rest None way is = absurd (none-some rest is)
    by_way walks low rest (Some ranks) way is = by_test walks low rest ranks (list_all (nat_le low) ranks) way refl is

pub rest_from : (walks : Walks) (low : ℕ) (rest : List ℕ) → IsCycle (next_in walks) low rest → rest_by walks low ≡ Some rest
unfolding rest_by cut_by
rest_from walks low rest cycle = rw (cycle_found walks low rest cycle, cycle_no_lower walks low rest cycle) refl

pub cycle_is : (walks : Walks) (low : ℕ) → cycle_at walks low ≡ option_map (λ rest. CycleOf (low ∷ rest)) (rest_by walks low)
unfolding rest_by cut_by
cycle_is walks low = by_way walks low (way_round walks (length walks) low low) refl
  where
    by_test : (low : ℕ) (rest : List ℕ) (test : Bool) → (if test then Some (CycleOf (low ∷ rest)) else None) ≡ option_map (λ rest. CycleOf (low ∷ rest)) (if test then Some (drop 1 (low ∷ rest)) else None)
    by_test low rest true = refl
    by_test low rest false = refl

    by_way : (walks : Walks) (low : ℕ) (o : Option (List ℕ)) → way_round walks (length walks) low low ≡ o → option_and_then (cycle_by low) o ≡ option_map (λ rest. CycleOf (low ∷ rest)) (option_and_then (cut_by low) o)
    by_way walks low None way = refl
    by_way walks low (Some ranks) way =
        let home = way_home_is walks (length walks) low low ranks way in
        rw home.begins (by_test low home.rest (list_all (nat_le low) (low ∷ home.rest)))

-- the causes that the search finds are those of the recording
pub causes_are : (reading : Reading) (groups : Groups) (recording : Lists) → IsDeadlocked reading groups recording (is_held reading groups recording) → AreCauses reading groups recording (causes_of reading groups recording)
causes_are reading groups recording dead =
    let walks = walks_of reading groups recording in
    let next = next_is reading groups recording dead in
    record {
      held = is_held reading groups recording;
      are_held = held_are reading groups recording dead;
      rest_of = rest_by (walks_of reading groups recording);
      are_cycles = λ low rest. (
        λ is. cycle_same (next_in (walks_of reading groups recording)) (next_of reading groups recording (is_held reading groups recording)) next low rest (rest_to (walks_of reading groups recording) low rest is),
        λ cycle. rest_from (walks_of reading groups recording) low rest
            (cycle_same (next_of reading groups recording (is_held reading groups recording)) (next_in (walks_of reading groups recording)) (λ rank. sym (next rank)) low rest cycle),
      );
      are_all =
          ap (λ (starved : List CauseView). filter_map (cycle_at (walks_of reading groups recording)) (range_with_len 0 (length (walks_of reading groups recording))) ++ filter_map (missing_at (walks_of reading groups recording)) (range_with_len 0 (length (walks_of reading groups recording))) ++ starved)
          (none_starved reading groups recording dead (range_with_len 0 (length (walks_of reading groups recording))))
          ∙ append-nil (filter_map (cycle_at (walks_of reading groups recording)) (range_with_len 0 (length (walks_of reading groups recording))) ++ filter_map (missing_at (walks_of reading groups recording)) (range_with_len 0 (length (walks_of reading groups recording))))
          ∙ ap (λ (ranks : ℕ). filter_map (cycle_at (walks_of reading groups recording)) (range_with_len 0 ranks) ++ filter_map (missing_at (walks_of reading groups recording)) (range_with_len 0 ranks)) (walk_count reading groups recording)
          ∙ ap (λ (cycles : List CauseView). cycles ++ filter_map (missing_at (walks_of reading groups recording)) (range_with_len 0 (length recording)))
          (given_same (cycle_at (walks_of reading groups recording)) (λ low. option_map (λ rest. CycleOf (low ∷ rest)) (rest_by (walks_of reading groups recording) low)) (cycle_is (walks_of reading groups recording)) (range_with_len 0 (length recording)))
          ∙ ap (λ (missing : List CauseView). filter_map (λ low. option_map (λ rest. CycleOf (low ∷ rest)) (rest_by (walks_of reading groups recording) low)) (range_with_len 0 (length recording)) ++ missing)
          (given_same (missing_at (walks_of reading groups recording)) (missing_of reading groups recording (is_held reading groups recording)) (missing_is reading groups recording dead) (range_with_len 0 (length recording)));
    }

-- the walks by two sets of the same ranks go the same way
blocked_same : (recording : Lists) (held other : Set) → ((rank : ℕ) → held rank ≡ other rank) → (need : Need) → is_blocked recording held need ≡ is_blocked recording other need
blocked_same recording held other same need = ap (λ (on : Bool). on || is_missing recording need) (same (rank_needed need))

pub held_by_same : (reading : Reading) (groups : Groups) (recording : Lists) (held other : Set) → ((rank : ℕ) → held rank ≡ other rank) → (rank : ℕ) → held_by reading groups recording held rank ≡ held_by reading groups recording other rank
held_by_same reading groups recording held other same rank =
    find_same (is_blocked recording held) (is_blocked recording other) (blocked_same recording held other same) (unmet_of reading groups recording rank)

next_same : (reading : Reading) (groups : Groups) (recording : Lists) (held other : Set) → ((rank : ℕ) → held rank ≡ other rank) → (rank : ℕ) → next_of reading groups recording held rank ≡ next_of reading groups recording other rank
next_same reading groups recording held other same rank =
    ap (option_and_then (λ need. if is_missing recording need then None else Some (rank_needed need))) (held_by_same reading groups recording held other same rank)

missing_same : (reading : Reading) (groups : Groups) (recording : Lists) (held other : Set) → ((rank : ℕ) → held rank ≡ other rank) → (rank : ℕ) → missing_of reading groups recording held rank ≡ missing_of reading groups recording other rank
missing_same reading groups recording held other same rank =
    ap (option_and_then (λ need. if is_missing recording need then Some (MissingOf rank (rank_needed need)) else None)) (held_by_same reading groups recording held other same rank)

-- options that have the same value
pub same_value : {A : Type 0} (o other : Option A) → ((x : A) → o ≡ Some x → other ≡ Some x) → ((x : A) → other ≡ Some x → o ≡ Some x) → o ≡ other
same_value None None on back = refl
same_value None (Some x) on back = back x refl
same_value (Some x) other on back = sym (on x refl)

-- a recording has one list of causes
one_list : (reading : Reading) (groups : Groups) (recording : Lists) (causes others : List CauseView) → AreCauses reading groups recording causes → AreCauses reading groups recording others → causes ≡ others
one_list reading groups recording causes others p q =
    let same = same_held reading groups recording p.held q.held p.are_held q.are_held in
    let next = next_same reading groups recording p.held q.held same in
    let rest : (low : ℕ) → p.rest_of low ≡ q.rest_of low =
    λ low. same_value (p.rest_of low) (q.rest_of low)
    (λ more is. (q.are_cycles low more).1 (cycle_same (next_of reading groups recording p.held) (next_of reading groups recording q.held) next low more ((p.are_cycles low more).0 is)))
    (λ more is. (p.are_cycles low more).1 (cycle_same (next_of reading groups recording q.held) (next_of reading groups recording p.held) (λ rank. sym (next rank)) low more ((q.are_cycles low more).0 is))) in
    p.are_all
    ∙ ap (λ (cycles : List CauseView). cycles ++ filter_map (missing_of reading groups recording p.held) (range_with_len 0 (length recording)))
    (given_same (λ low. option_map (λ rest. CycleOf (low ∷ rest)) (p.rest_of low)) (λ low. option_map (λ rest. CycleOf (low ∷ rest)) (q.rest_of low))
    (λ low. ap (option_map (λ more. CycleOf (low ∷ more))) (rest low)) (range_with_len 0 (length recording)))
    ∙ ap (λ (missing : List CauseView). filter_map (λ low. option_map (λ rest. CycleOf (low ∷ rest)) (q.rest_of low)) (range_with_len 0 (length recording)) ++ missing)
    (given_same (missing_of reading groups recording p.held) (missing_of reading groups recording q.held) (missing_same reading groups recording p.held q.held same) (range_with_len 0 (length recording)))
    ∙ sym q.are_all

pub causes_found : (reading : Reading) (groups : Groups) (recording : Lists) (causes : List CauseView) → IsClosed recording → AreCauses reading groups recording causes → causes ≡ causes_of reading groups recording
causes_found reading groups recording causes closed are =
    one_list reading groups recording causes (causes_of reading groups recording) are (causes_are reading groups recording (found_is_deadlocked reading groups recording closed))

-- a wait graph is that of the recording exactly if it is the one that the search finds
pub graph_is : (reading : Reading) (groups : Groups) (recording : Lists) (graph : GraphView) → IsDeadlocked reading groups recording (is_held reading groups recording) → IsGraphBy reading groups recording graph → IsGraphOf reading groups recording graph
graph_is reading groups recording graph dead by = record {
  stuck = by.stuck;
  held = subst (λ (ranks : List ℕ). ListsHeld reading groups recording ranks) (sym by.held) (held_list reading groups recording (held_are reading groups recording dead));
  left_open = by.left_open;
  unmet = by.unmet;
  causes = subst (λ (causes : List CauseView). AreCauses reading groups recording causes) (sym by.causes) (causes_are reading groups recording dead);
  findings = by.findings;
}

pub graph_found : (reading : Reading) (groups : Groups) (recording : Lists) (graph : GraphView) → IsClosed recording → IsGraphOf reading groups recording graph → IsGraphBy reading groups recording graph
graph_found reading groups recording graph closed is = record {
  stuck = is.stuck;
  held = held_found reading groups recording graph.held closed is.held;
  left_open = is.left_open;
  unmet = is.unmet;
  causes = causes_found reading groups recording graph.causes closed is.causes;
  findings = is.findings;
}

-- a walk that goes the same way comes to the same end
on_same : (f g : ℕ → Option ℕ) → ((rank : ℕ) → f rank ≡ g rank) → (o : Option ℕ) → option_and_then f o ≡ option_and_then g o
on_same f g same None = refl
on_same f g same (Some rank) = same rank

after_same : (f g : ℕ → Option ℕ) → ((rank : ℕ) → f rank ≡ g rank) → (steps rank : ℕ) → after_steps f steps rank ≡ after_steps g steps rank
after_same f g same zero rank = refl
after_same f g same (suc steps) rank =
    ap (option_and_then (after_steps f steps)) (same rank) ∙ on_same (after_steps f steps) (after_steps g steps) (after_same f g same steps) (g rank)

pub comes_same : (f g : ℕ → Option ℕ) (m n : ℕ → Option CauseView) → ((rank : ℕ) → f rank ≡ g rank) → ((rank : ℕ) → m rank ≡ n rank) → (rank : ℕ) (cause : CauseView) → ComesTo f m rank cause → ComesTo g n rank cause
comes_same f g m n same alike rank cause comes = record {
  steps = comes.steps;
  end = comes.end;
  comes_there = sym (after_same f g same comes.steps rank) ∙ comes.comes_there;
  is_end = end_same f g m n same alike comes.end cause comes.is_end;
}
  where
    end_same : (f g : ℕ → Option ℕ) (m n : ℕ → Option CauseView) → ((rank : ℕ) → f rank ≡ g rank) → ((rank : ℕ) → m rank ≡ n rank) → (rank : ℕ) (cause : CauseView) → IsEnd f m rank cause → IsEnd g n rank cause
    end_same f g m n same alike rank (CycleOf ranks) end = (end.0, end.1, cycle_same f g same rank end.0 end.2)
    end_same f g m n same alike rank (MissingOf waiting peer) end = sym (alike rank) ∙ end
    end_same f g m n same alike rank (StarvedOf waiting) end = sym (alike rank) ∙ end

pub walks_end_in_the_causes : WalksEndInTheCauses
walks_end_in_the_causes reading groups recording held causes closed are_held are =
    let dead = found_is_deadlocked reading groups recording closed in
    let same = same_held reading groups recording (is_held reading groups recording) held (are_found reading groups recording closed) are_held in
    let next : (rank : ℕ) → next_in (walks_of reading groups recording) rank ≡ next_of reading groups recording held rank =
    λ rank. next_is reading groups recording dead rank ∙ next_same reading groups recording (is_held reading groups recording) held same rank in
    let missing : (rank : ℕ) → end_at (walks_of reading groups recording) rank ≡ missing_of reading groups recording held rank =
    λ rank. end_is reading groups recording dead rank ∙ missing_same reading groups recording (is_held reading groups recording) held same rank in
    let found = walks_end_in_found reading groups recording closed in
    let all : causes ≡ causes_of reading groups recording = causes_found reading groups recording causes closed are in
    let comes = comes_same (next_in (walks_of reading groups recording)) (next_of reading groups recording held) (end_at (walks_of reading groups recording)) (missing_of reading groups recording held) next missing in
    subst (λ (listed : List CauseView). TellsCauses (next_of reading groups recording held) (missing_of reading groups recording held) held listed) (sym all)
    (record {
      each_walk_ends = λ rank h.
          let end = found.each_walk_ends rank (same rank ∙ h) in
          (end.0, end.1, comes rank end.0 end.2);
      each_is_an_end = λ cause listed.
          let start = found.each_is_an_end cause listed in
          (start.0, sym (same start.0) ∙ start.1, comes start.0 cause start.2);
      none_twice = found.none_twice;
    })

pub each_recording_has_one_list_of_causes : EachRecordingHasOneListOfCauses
each_recording_has_one_list_of_causes reading groups recording closed = (
  causes_of reading groups recording,
  causes_are reading groups recording (found_is_deadlocked reading groups recording closed),
  λ others are. causes_found reading groups recording others closed are,
)
