-- What is kept as ranks are looked at, wait, move on and are woken.
use Rattle.moves.specs.declared.reading.Reading.{Reading}
use Rattle.std.proofs.Common.{◌≡◌, ℕ, zero, suc, ◌+◌, ◌-◌, ◌*◌, ◌<◌, ◌≤◌, ◌≢◌, Bool, true, false, Option, Some, None, List, [], ◌∷◌, ◌++◌, length, replicate, drop, get_or, set, refl, sym, ap, subst, ◌∙◌, ⊎_elim, inl, inr, arith, get_or-set_same, get_or-set_other}
use Rattle.std.specs.Prelude.{◌⊎◌, min, if◌then◌else◌}
use Rattle.std.specs.List.{slice_get}
use Rattle.std.proofs.Math.Nat.{suc-mul, min-le_left}
use Rattle.std.proofs.lemmas.List.{length-set, length-replicate}
use Rattle.std.proofs.lemmas.Option.{none-some, same_Some, slice_get-get_or}
use Rattle.std.proofs.lemmas.Bool.{cases_eq}
use Rattle.mpicall.specs.declared.call.Call.{Call}
use Rattle.mpigroup.specs.Groups.{Groups, group_of}
use Rattle.callstore.specs.Limits.{most_calls}
use Rattle.callstore.specs.Recordings.{Lists, calls_of, appended}
use Rattle.callstore.specs.Waves.{wave_of}
use Rattle.arenaqueue.specs.Numbers.{list_at, sum_to}
use Rattle.arenaqueue.specs.inner.Numbers.{count, in_all}
use Rattle.arenaqueue.proofs.NumberLemmas.{count_in_all, found_in}
use Rattle.arenaqueue.proofs.SumLemmas.{sum_least, sum_count}
use Rattle.callstore.proofs.PlacesLemmas.{no_calls}
use Rattle.callstore.proofs.RecordingLemmas.{calls_of-appended_other}
use Rattle.moves.specs.Runs.{State, start, moved, IsReached, IsTheEnd, total}
use Rattle.moves.specs.Needs.{may_pass, can_move}
use Rattle.moves.specs.Stands.{call_count}
use Rattle.moves.specs.Analysed.{most_touches, ranks_waiting}
use Rattle.moves.specs.declared.progress.Progress.{Progress}
use Rattle.moves.specs.inner.Links.{linked_ranks, AreListed}
use Rattle.moves.specs.inner.Waiting.{HasJoined, HasArrived, complete_of, met_of, AreWaves, IsNoException, NeedsPartner, NeedsWave, Rests, WaitLists, own_list, comm_list, with_rank, with_awaited, WaitsFor, WaitsIn, HasLists, HoldsBetweenLooks, IsNobody, IsInHand, IsSettled, IsReaching, to_do, paid, cost_of, touches_of}
use Rattle.moves.proofs.RunLemmas.{get_start, reached_step, reached_ranks, total_moved, total_most}
use Rattle.moves.proofs.StandLemmas.{reached_within}
use Rattle.moves.proofs.NeedLemmas.{length_of_calls}
use Rattle.moves.proofs.AdvanceLemmas.{stuck_end, moved_later}
use Rattle.moves.proofs.AnalyserLemmas.{goes_on_by, still_reached, start_end}
use Rattle.moves.proofs.StayLemmas.{call_stays}
use Rattle.moves.proofs.LinkLemmas.{none_linked, none_there, linked_less, most_linked, linked_woken, changed, taken, linked_at, linked_nodes, linked_behind, sum_all}
use Rattle.moves.proofs.TouchLemmas.{sum_at_most_one, cost_cases, paid_ahead, paid_there, paid_moved, paid_waves, paid_waiters, paid_most}
use Rattle.moves.proofs.WaveLemmas.{fewer_excepted}
use Rattle.moves.proofs.WaitLemmas.{partner_stuck, wave_stuck, resting_stuck, open_parts, open_from}
use Rattle.moves.proofs.WakeLemmas.{most_work, Wakens, load, list_cost, all_woken, all_wakens, waiter_emptied, wave_emptied, three_cost, none_woken}
use Rattle.moves.proofs.ReachLemmas.{OnlyReaches, IsWoken, awaited_place, partner_waits_on, wave_waits_on, waves_on, rests_on, moved_other, moved_own, moved_on, arrived_there, arrived_ahead}

-- a list in which one rank alone may wait has no more than that rank
own_short : (ranks : ℕ) (ls : List (List ℕ)) (W : ℕ → ℕ → Type 0) (R : ℕ → Type 0) (rank list : ℕ) → AreListed ranks ls W R → 0 < list → ((other : ℕ) → W other list → other ≡ rank) → length (list_at ls list) ≤ 1
own_short ranks ls W R rank list h later only =
    let most = sum_at_most_one ranks rank (λ other. count other (list_at ls list))
    (λ other is_rank differs. none other differs (count other (list_at ls list)) refl)
    (omega (arith, count_in_all rank ls list, h.once rank)) in
    omega (arith, most, sum_count ranks (list_at ls list) (λ other on. h.ranks_only other (omega (arith, on, count_in_all other ls list))))
  where
    none : (other : ℕ) → other ≢ rank → (n : ℕ) → count other (list_at ls list) ≡ n → count other (list_at ls list) ≡ 0
    none other differs zero e = e
    none other differs (suc n) e = absurd (differs (only other (h.waits other list later (omega (arith, e)))))

-- a wave that was open is so while no further one of its communicator is complete
still_open : (groups : Groups) (recording : Lists) (s : State) (progress new : Progress) (rank comm : ℕ) → complete_of new comm ≡ complete_of progress comm → NeedsWave groups recording s progress rank comm → NeedsWave groups recording s new rank comm
still_open groups recording s progress new rank comm same h =
    let is_in = open_parts groups recording progress rank h.start comm h.is_joined in
    record {
      start = h.start;
      is_awaited = h.is_awaited;
      is_joined = open_from groups recording new rank h.start comm (record { wave = is_in.wave; there = is_in.there; least = omega (arith, same, is_in.least); some_member = is_in.some_member });
    }

-- what waiting means while those are still to be woken that wait for a call
abbrev WaitsOrWoken : Reading → Groups → Lists → State → Progress → List ℕ → ℕ → ℕ → ℕ → ℕ → Type 0
WaitsOrWoken reading groups recording s progress awaited rank place other list =
    WaitsIn reading groups recording s progress awaited other list
    ⊎ ((list ≡ own_list other) × (other < length recording) × (WaitsFor groups recording rank place other (get_or awaited other 0)))

waits_own : (reading : Reading) (groups : Groups) (recording : Lists) (s : State) (progress : Progress) (awaited : List ℕ) (rank place other owner : ℕ) → owner < length recording → WaitsOrWoken reading groups recording s progress awaited rank place other (own_list owner) → other ≡ owner
waits_own reading groups recording s progress awaited rank place other owner is_rank (inl (inl own)) = omega (arith, own.0)
waits_own reading groups recording s progress awaited rank place other owner is_rank (inl (inr wave)) = absurd (omega (arith, wave.1, is_rank))
waits_own reading groups recording s progress awaited rank place other owner is_rank (inr new) = omega (arith, new.0)

waits_comm : (reading : Reading) (groups : Groups) (recording : Lists) (s : State) (progress : Progress) (awaited : List ℕ) (rank place other comm : ℕ) → WaitsOrWoken reading groups recording s progress awaited rank place other (comm_list (length recording) comm) → NeedsWave groups recording s progress other comm
waits_comm reading groups recording s progress awaited rank place other comm (inl (inl own)) = absurd (omega (arith, own.0, own.1))
waits_comm reading groups recording s progress awaited rank place other comm (inl (inr wave)) =
    let same : wave.0 ≡ comm = omega (arith, wave.1) in
    subst (λ (c : ℕ). NeedsWave groups recording s progress other c) same wave.2
waits_comm reading groups recording s progress awaited rank place other comm (inr new) = absurd (omega (arith, new.0, new.1))

-- what the reaching of a place costs besides the wakes of a wave: four for each half, four for a probe, and one for a
-- change of how far its wave is
both_cost : (reading : Reading) (groups : Groups) (recording : Lists) (s : State) (progress new : Progress) (rank place : ℕ) (w : WaitLists) → IsReaching reading groups recording s progress w rank place → new.changes ≤ progress.changes + 1 → (wave_of recording rank place ≡ None → new.changes ≡ progress.changes) → load (all_woken groups recording rank place w None) + new.changes + 3 ≤ load w + progress.changes + cost_of (slice_get (calls_of recording rank) place)
both_cost reading groups recording s progress new rank place w h changes no_change =
    let three = three_cost groups recording rank place w (omega (arith, h.has_lists.lists, h.has_lists.awaited))
    (λ x wakens owner is_rank.
    own_short (length recording) x.lists _ _ owner (own_list owner) (linked_woken (length recording) w.lists x.lists _ _ h.linked wakens.wakes) (omega arith)
    (λ other waits. waits_own reading groups recording s progress w.awaited rank place other owner (omega (arith, is_rank, h.has_lists.awaited, ap (length {A = ℕ}) wakens.same_awaited)) waits)) in
    ⊎_elim
    (λ (none : (cost_of (slice_get (calls_of recording rank) place) ≡ 3) × (slice_get (calls_of recording rank) place ≡ None)).
    let none_joined : wave_of recording rank place ≡ None = rw none.1 refl in
    let same : load (all_woken groups recording rank place w None) ≡ load w = ap load (none_woken groups recording rank place w none.1) in
    omega (arith, same, none.0, no_change none_joined))
    (λ (some : (cost_of (slice_get (calls_of recording rank) place) ≡ 16) × (place < length (calls_of recording rank))). omega (arith, some.0, three, changes))
    (cost_cases (calls_of recording rank) place)

-- how far each communicator's waves are never falls
grows : (progress new : Progress) (done : Option ℕ) → ((comm : ℕ) → done ≢ Some comm → complete_of new comm ≡ complete_of progress comm) → ((comm : ℕ) → done ≡ Some comm → complete_of new comm ≡ complete_of progress comm + 1) → (comm : ℕ) → complete_of progress comm ≤ complete_of new comm
grows progress new None others one comm = omega (arith, others comm (λ e. none-some comm e))
grows progress new (Some c) others one comm =
    ⊎_elim
    (λ (same : c ≡ comm). omega (arith, one comm (ap (λ (k : ℕ). Some k) same)))
    (λ (differs : c ≢ comm). omega (arith, others comm (λ e. differs (same_Some c comm e))))
    (cases_eq c comm)

-- the wakes of a wave are paid by the calls of it
all_cost : (reading : Reading) (groups : Groups) (recording : Lists) (s : State) (progress new : Progress) (rank place : ℕ) (w : WaitLists) (done : Option ℕ) → IsReaching reading groups recording s progress w rank place → ((comm : ℕ) → done ≢ Some comm → complete_of new comm ≡ complete_of progress comm) → ((comm : ℕ) → done ≡ Some comm → complete_of new comm ≡ complete_of progress comm + 1) → ((comm : ℕ) → done ≡ Some comm → comm < length groups) → load (all_woken groups recording rank place w done) + paid recording s progress ≤ load (all_woken groups recording rank place w None) + paid recording s new
all_cost reading groups recording s progress new rank place w None h others one known = omega (arith, paid_waves recording s progress new (grows progress new None others one))
all_cost reading groups recording s progress new rank place w (Some comm) h others one known =
    let both : WaitLists = all_woken groups recording rank place w None in
    let wakens : Wakens w both = all_wakens groups recording rank place w None h.has_lists (λ c e. absurd (none-some c e)) in
    let ranks : length both.awaited ≡ length recording = ap (length {A = ℕ}) wakens.same_awaited ∙ h.has_lists.awaited in
    let within : comm_list (length both.awaited) comm < length both.lists = omega (arith, known comm refl, h.has_lists.lists, ranks, wakens.wakes.lists) in
    let now = linked_woken (length recording) w.lists both.lists _ _ h.linked wakens.wakes in
    let entries : List ℕ = list_at both.lists (comm_list (length recording) comm) in
    let same : length (list_at both.lists (comm_list (length both.awaited) comm)) ≡ length entries = ap (λ (n : ℕ). length (list_at both.lists (comm_list n comm))) ranks in
    omega (
      arith,
      list_cost both (comm_list (length both.awaited) comm) (omega arith) within,
      same,
      paid_waiters groups recording s progress new comm entries (grows progress new (Some comm) others one) (one comm refl)
          (λ other. omega (arith, count_in_all other both.lists (comm_list (length recording) comm), now.once other))
          (λ other on. now.ranks_only other (omega (arith, on, count_in_all other both.lists (comm_list (length recording) comm))))
          (λ other on. waits_comm reading groups recording s progress w.awaited rank place other comm (now.waits other (comm_list (length recording) comm) (omega arith) on)),
    )

-- the lists stay as many once the partners are woken
pub partners_room : (groups : Groups) (recording : Lists) (rank place : ℕ) (w : WaitLists) → HasLists groups recording w → (length (all_woken groups recording rank place w None).lists ≡ length w.lists) × (length (all_woken groups recording rank place w None).awaited ≡ length w.awaited)
partners_room groups recording rank place w h =
    let wakens = all_wakens groups recording rank place w None h (λ comm e. absurd (none-some comm e)) in
    (wakens.wakes.lists, ap (length {A = ℕ}) wakens.same_awaited)

-- the rank that has reached its call is in hand, once all that waited for it are to be looked at
pub reach_hand : (reading : Reading) (groups : Groups) (recording : Lists) (s : State) (progress new : Progress) (w : WaitLists) (rank place : ℕ) (done : Option ℕ) → IsReaching reading groups recording s progress w rank place → AreWaves groups recording s new IsNoException → ((comm : ℕ) → done ≢ Some comm → complete_of new comm ≡ complete_of progress comm) → ((comm : ℕ) → done ≡ Some comm → complete_of new comm ≡ complete_of progress comm + 1) → ((comm : ℕ) → done ≡ Some comm → comm < length groups) → new.changes ≤ progress.changes + 1 → (wave_of recording rank place ≡ None → new.changes ≡ progress.changes) → IsInHand reading groups recording s new (all_woken groups recording rank place w done) rank
reach_hand reading groups recording s progress new w rank place done h are others one known changes no_change =
    let all : WaitLists = all_woken groups recording rank place w done in
    let wakens : Wakens w all = all_wakens groups recording rank place w done h.has_lists known in
    let awaited : all.awaited ≡ w.awaited = wakens.same_awaited in
    let now = linked_woken (length recording) w.lists all.lists _ _ h.linked wakens.wakes in
    record {
      kept = record {
        has_lists = record {
          lists = wakens.wakes.lists ∙ h.has_lists.lists;
          nodes = omega (arith, wakens.wakes.nodes, h.has_lists.nodes, wakens.same_spare);
          awaited = ap (length {A = ℕ}) awaited ∙ h.has_lists.awaited;
          counts = omega (arith, wakens.wakes.nodes, wakens.no_less, h.has_lists.counts);
        };
        linked =
            changed (length recording) all.lists _ (WaitsIn reading groups recording s new all.awaited) _ (λ other. Rests recording s other ⊎ (other ≡ rank)) now
            (λ other list is_rank later on waits.
            ⊎_elim
            (λ (old : WaitsIn reading groups recording s progress w.awaited other list).
            ⊎_elim
            (λ (own : (list ≡ own_list other) × (other < length recording) × NeedsPartner reading groups recording s other (get_or w.awaited other 0)).
            inl (own.0, own.1, subst (λ (xs : List ℕ). NeedsPartner reading groups recording s other (get_or xs other 0)) (sym awaited) own.2))
            (λ (wave : (comm : ℕ) × (list ≡ comm_list (length recording) comm) × NeedsWave groups recording s progress other comm).
            inr (wave.0, wave.1, by_done other wave.0 list on wave.1 wave.2 done refl))
            old)
            (λ (new_call : (list ≡ own_list other) × (other < length recording) × (WaitsFor groups recording rank place other (get_or w.awaited other 0))).
            let none = waiter_emptied groups recording rank place w done other other h.has_lists known new_call.1 new_call.2 in
            absurd (omega (arith, on, none, ap (λ (l : ℕ). count other (list_at all.lists l)) new_call.0)))
            waits)
            (λ other is_rank none rests. rests);
        are_waves = are;
        is_reached = h.is_reached;
        is_paid = omega (arith, all_cost reading groups recording s progress new rank place w done h others one known, both_cost reading groups recording s progress new rank place w h changes no_change, h.is_paid);
      };
      is_rank = h.is_rank;
      in_none = omega (arith, wakens.wakes.all rank, h.in_none);
    }
  where
    by_done : (other comm list : ℕ) → 0 < count other (list_at (all_woken groups recording rank place w done).lists list) → list ≡ comm_list (length recording) comm → NeedsWave groups recording s progress other comm → (d : Option ℕ) → done ≡ d → NeedsWave groups recording s new other comm
    by_done other comm list on there needs None e = still_open groups recording s progress new other comm (others comm (λ f. none-some comm (sym e ∙ f))) needs
    by_done other comm list on there needs (Some c) e =
        ⊎_elim
        (λ (same : c ≡ comm).
        let done_in : done ≡ Some comm = e ∙ ap (λ (k : ℕ). Some k) same in
        let none = wave_emptied groups recording rank place w comm other h.has_lists (known comm done_in) in
        absurd (omega (arith, on, none, ap (λ (d : Option ℕ). count other (list_at (all_woken groups recording rank place w d).lists (comm_list (length recording) comm))) done_in, ap (λ (l : ℕ). count other (list_at (all_woken groups recording rank place w done).lists l)) there)))
        (λ (differs : c ≢ comm). still_open groups recording s progress new other comm (others comm (λ f. differs (same_Some c comm (sym e ∙ f)))) needs)
        (cases_eq c comm)

-- touches are never fewer
pub fewer_never : (progress new : Progress) (w last : WaitLists) → progress.changes ≤ new.changes → min w.work most_work ≤ min last.work most_work → touches_of progress w ≤ touches_of new last
fewer_never progress new w last changes work = omega (arith, changes, work)

pub reach_counts : (reading : Reading) (groups : Groups) (recording : Lists) (s : State) (progress new : Progress) (w : WaitLists) (rank place : ℕ) (done : Option ℕ) → IsReaching reading groups recording s progress w rank place → ((comm : ℕ) → done ≡ Some comm → comm < length groups) → progress.changes ≤ new.changes → touches_of progress w ≤ touches_of new (all_woken groups recording rank place w done)
reach_counts reading groups recording s progress new w rank place done h known changes =
    let all : WaitLists = all_woken groups recording rank place w done in
    let wakens : Wakens w all = all_wakens groups recording rank place w done h.has_lists known in
    fewer_never progress new w all changes wakens.no_less

-- there is a spare node for the rank in hand
pub hand_room : (reading : Reading) (groups : Groups) (recording : Lists) (s : State) (progress : Progress) (w : WaitLists) (rank : ℕ) → IsInHand reading groups recording s progress w rank → 0 < w.spare
hand_room reading groups recording s progress w rank h =
    omega (arith, linked_less (length recording) rank w.lists _ _ h.kept.linked h.is_rank h.in_none, h.kept.has_lists.nodes)

-- The rank in hand is linked where it waits.
pub record Links (reading : Reading) (groups : Groups) (recording : Lists) (s : State) (progress : Progress) (w last : WaitLists) (rank list : ℕ) : Type 0 where
  pub later : 0 < list
  pub within : list < length w.lists
  pub room : 0 < w.spare
  pub lists : last.lists ≡ set w.lists list (list_at w.lists list ++ rank ∷ [])
  pub spare : last.spare ≡ w.spare - 1
  pub work : last.work ≡ min (w.work + 1) most_work
  pub long : length last.awaited ≡ length w.awaited
  pub awaited : (other : ℕ) → other ≢ rank → get_or last.awaited other 0 ≡ get_or w.awaited other 0
  pub waits : WaitsIn reading groups recording s progress last.awaited rank list

pub hand_links : (reading : Reading) (groups : Groups) (recording : Lists) (s : State) (progress : Progress) (w last : WaitLists) (rank list : ℕ) → IsInHand reading groups recording s progress w rank → Links reading groups recording s progress w last rank list → HoldsBetweenLooks reading groups recording s progress last IsNobody 0
hand_links reading groups recording s progress w last rank list h links =
    let nodes = linked_nodes w.lists last.lists list rank links.within links.lists in
    let right = changed (length recording) w.lists _ (WaitsIn reading groups recording s progress last.awaited) _ (λ other. (Rests recording s other ⊎ IsNobody other) ⊎ (other ≡ rank)) h.kept.linked
    (λ other list' is_rank later on waits.
    ⊎_elim
    (λ (own : (list' ≡ own_list other) × (other < length recording) × NeedsPartner reading groups recording s other (get_or w.awaited other 0)).
    ⊎_elim
    (λ (same : other ≡ rank).
    let on' : 0 < count rank (list_at w.lists list') = subst (λ (k : ℕ). 0 < count k (list_at w.lists list')) same on in
    absurd (omega (arith, on', count_in_all rank w.lists list', h.in_none)))
    (λ (differs : other ≢ rank). inl (own.0, own.1, rw (links.awaited other differs) own.2))
    (cases_eq other rank))
    (λ (wave : (comm : ℕ) × (list' ≡ comm_list (length recording) comm) × NeedsWave groups recording s progress other comm). inr wave)
    waits)
    (λ other is_rank none rests.
    ⊎_elim
    (λ (rest : Rests recording s other). inl (inl rest))
    (λ (same : other ≡ rank). inr same)
    rests) in
    record {
      has_lists = record {
        lists = nodes.0 ∙ h.kept.has_lists.lists;
        nodes = omega (arith, nodes.1, h.kept.has_lists.nodes, links.spare, links.room);
        awaited = links.long ∙ h.kept.has_lists.awaited;
        counts = omega (arith, nodes.1, links.work, h.kept.has_lists.counts);
      };
      linked =
          linked_at (length recording) w.lists last.lists list rank (WaitsIn reading groups recording s progress last.awaited) (λ other. Rests recording s other ⊎ IsNobody other) right h.is_rank h.in_none links.within (λ later. links.waits) links.lists;
      are_waves = h.kept.are_waves;
      is_reached = h.kept.is_reached;
      is_paid =
          omega (arith, h.kept.is_paid, links.work, min-le_left (w.work + 1) most_work, ap (length {A = ℕ}) (linked_behind w.lists last.lists list rank links.later links.lists));
    }

pub links_partner : (reading : Reading) (groups : Groups) (recording : Lists) (s : State) (progress : Progress) (w last : WaitLists) (rank place : ℕ) → IsInHand reading groups recording s progress w rank → NeedsPartner reading groups recording s rank place → 0 < w.spare → last ≡ with_rank (with_awaited w rank place) (own_list rank) rank → Links reading groups recording s progress w last rank (own_list rank)
links_partner reading groups recording s progress w last rank place h needs room is =
    let awaited : last.awaited ≡ set w.awaited rank place = ap (λ (x : WaitLists). x.awaited) is in
    let here : get_or last.awaited rank 0 ≡ place = ap (λ (xs : List ℕ). get_or xs rank 0) awaited ∙ get_or-set_same w.awaited rank place 0 (omega (arith, h.is_rank, h.kept.has_lists.awaited)) in
    record {
      later = omega arith;
      within = omega (arith, h.is_rank, h.kept.has_lists.lists);
      room = room;
      lists = ap (λ (x : WaitLists). x.lists) is;
      spare = ap (λ (x : WaitLists). x.spare) is;
      work = ap (λ (x : WaitLists). x.work) is;
      long = ap (length {A = ℕ}) awaited ∙ length-set w.awaited rank place;
      awaited = λ other differs. ap (λ (xs : List ℕ). get_or xs other 0) awaited ∙ get_or-set_other w.awaited rank other place 0 differs;
      waits = inl (refl, h.is_rank, rw here needs);
    }

comm_known : (groups : Groups) (comm : ℕ) → 0 < length (group_of groups comm) → comm < length groups
comm_known [] comm h = absurd (omega (arith, h))
comm_known (group ∷ groups) zero h = omega arith
comm_known (group ∷ groups) (suc comm) h = omega (arith, comm_known groups comm h)

pub wave_known : (groups : Groups) (recording : Lists) (s : State) (progress : Progress) (rank comm : ℕ) → NeedsWave groups recording s progress rank comm → comm < length groups
wave_known groups recording s progress rank comm h = comm_known groups comm (open_parts groups recording progress rank h.start comm h.is_joined).some_member

pub links_wave : (reading : Reading) (groups : Groups) (recording : Lists) (s : State) (progress : Progress) (w last : WaitLists) (rank comm : ℕ) → IsInHand reading groups recording s progress w rank → NeedsWave groups recording s progress rank comm → 0 < w.spare → last ≡ with_rank w (comm_list (length w.awaited) comm) rank → Links reading groups recording s progress w last rank (comm_list (length w.awaited) comm)
links_wave reading groups recording s progress w last rank comm h needs room is = record {
  later = omega arith;
  within = omega (arith, wave_known groups recording s progress rank comm needs, h.kept.has_lists.lists, h.kept.has_lists.awaited);
  room = room;
  lists = ap (λ (x : WaitLists). x.lists) is;
  spare = ap (λ (x : WaitLists). x.spare) is;
  work = ap (λ (x : WaitLists). x.work) is;
  long = ap (λ (x : WaitLists). length x.awaited) is;
  awaited = λ other differs. ap (λ (x : WaitLists). get_or x.awaited other 0) is;
  waits = inr (comm, ap (λ (n : ℕ). comm_list n comm) h.kept.has_lists.awaited, needs);
}

-- what goes on where calls come to be reached: who waited waits on, or for one of these
waits_on : (reading : Reading) (groups : Groups) (recording longer : Lists) (s t : State) (progress : Progress) (awaited : List ℕ) (N : ℕ → ℕ → Type 0) (other list : ℕ) → OnlyReaches recording longer s t N → get_or t other 0 ≡ get_or s other 0 → WaitsIn reading groups recording s progress awaited other list → WaitsIn reading groups longer t progress awaited other list ⊎ ((list ≡ own_list other) × (other < length longer) × IsWoken groups longer N other (get_or awaited other 0))
waits_on reading groups recording longer s t progress awaited N other list only same (inl own) =
    let is_rank : other < length longer = omega (arith, own.1, only.goes_on.same_ranks) in
    ⊎_elim
    (λ (still : NeedsPartner reading groups longer t other (get_or awaited other 0)). inl (inl (own.0, is_rank, still)))
    (λ (new : IsWoken groups longer N other (get_or awaited other 0)). inr (own.0, is_rank, new))
    (partner_waits_on reading groups recording longer s t N other (get_or awaited other 0) only same own.2)
waits_on reading groups recording longer s t progress awaited N other list only same (inr wave) =
    inl (inr (wave.0, wave.1 ∙ ap (λ (n : ℕ). comm_list n wave.0) only.goes_on.same_ranks, wave_waits_on groups recording longer s t progress other wave.0 only.goes_on same wave.2))

-- and where it is one call, each wave is as it was but for that call
waits_on_or_woken : (reading : Reading) (groups : Groups) (recording longer : Lists) (s t : State) (progress : Progress) (awaited : List ℕ) (rank place other list : ℕ) → OnlyReaches recording longer s t (λ someone there. (someone ≡ rank) × (there ≡ place)) → get_or t other 0 ≡ get_or s other 0 → WaitsIn reading groups recording s progress awaited other list → WaitsOrWoken reading groups longer t progress awaited rank place other list
waits_on_or_woken reading groups recording longer s t progress awaited rank place other list only same waits =
    ⊎_elim
    (λ (still : WaitsIn reading groups longer t progress awaited other list). inl still)
    (λ (new : (list ≡ own_list other) × (other < length longer) × IsWoken groups longer (λ someone there. (someone ≡ rank) × (there ≡ place)) other (get_or awaited other 0)).
    inr (new.0, new.1, subst (λ (p : ℕ). WaitsFor groups longer rank p other (get_or awaited other 0)) new.2.is_new.1 (subst (λ (k : ℕ). WaitsFor groups longer k new.2.place other (get_or awaited other 0)) new.2.is_new.0 new.2.waits)))
    (waits_on reading groups recording longer s t progress awaited _ other list only same waits)

waves_but_one : (groups : Groups) (recording longer : Lists) (s t : State) (progress : Progress) (rank place : ℕ) → OnlyReaches recording longer s t (λ someone there. (someone ≡ rank) × (there ≡ place)) → AreWaves groups recording s progress IsNoException → AreWaves groups longer t progress (λ comm member. (member ≡ rank) × (wave_of longer rank place ≡ Some (comm, complete_of progress comm)))
waves_but_one groups recording longer s t progress rank place only h =
    fewer_excepted groups longer t progress _ _ (waves_on groups recording longer s t progress _ only h)
    (λ comm member is_member e.
    (e.1.0, subst (λ (p : ℕ). wave_of longer rank p ≡ Some (comm, complete_of progress comm)) e.1.1 (subst (λ (k : ℕ). wave_of longer k e.0 ≡ Some (comm, complete_of progress comm)) e.1.0 e.2)))

lists_on : (groups : Groups) (recording longer : Lists) (w : WaitLists) → HasLists groups recording w → length recording ≡ length longer → HasLists groups longer w
lists_on groups recording longer w h same_ranks = record {
  lists = h.lists ∙ ap (λ (n : ℕ). 1 + n + length groups) same_ranks;
  nodes = h.nodes ∙ same_ranks;
  awaited = h.awaited ∙ same_ranks;
  counts = h.counts;
}

-- the rank in hand moves on
pub hand_moves : (reading : Reading) (groups : Groups) (recording : Lists) (s t : State) (progress : Progress) (w : WaitLists) (rank place : ℕ) → IsInHand reading groups recording s progress w rank → can_move reading groups recording s rank ≡ true → get_or s rank 0 < most_calls → t ≡ moved s rank → place ≡ get_or t rank 0 → IsReaching reading groups recording t progress w rank place
hand_moves reading groups recording s t progress w rank place h able few is there =
    let in_s : rank < length s = omega (arith, reached_ranks (can_move reading groups recording) (length recording) s h.kept.is_reached, h.is_rank) in
    let next : get_or t rank 0 ≡ get_or s rank 0 + 1 = ap (λ (x : State). get_or x rank 0) is ∙ moved_own s rank in_s in
    let at_place : get_or s rank 0 + 1 ≡ place = sym next ∙ sym there in
    let only : OnlyReaches recording recording s t (λ other there. (other ≡ rank) × (there ≡ place)) =
    subst (λ (p : ℕ). OnlyReaches recording recording s t (λ other there. (other ≡ rank) × (there ≡ p))) at_place
    (subst (λ (x : State). OnlyReaches recording recording s x (λ other there. (other ≡ rank) × (there ≡ get_or s rank 0 + 1))) (sym is) (moved_on recording s rank in_s (moved_later s rank in_s))) in
    let same : (other : ℕ) → other ≢ rank → get_or t other 0 ≡ get_or s other 0 = λ other differs. ap (λ (x : State). get_or x other 0) is ∙ moved_other s rank other differs in
    record {
      has_lists = h.kept.has_lists;
      linked =
          changed (length recording) w.lists _ _ _ _ h.kept.linked
          (λ other list is_rank later on waits.
          let differs : other ≢ rank = λ e.
          omega (arith, subst (λ (k : ℕ). 0 < count k (list_at w.lists list)) e on, count_in_all rank w.lists list, h.in_none) in
          waits_on_or_woken reading groups recording recording s t progress w.awaited rank place other list only (same other differs) waits)
          (λ other is_rank none rests.
          ⊎_elim
          (λ (own : other ≡ rank). inr own)
          (λ (differs : other ≢ rank).
          ⊎_elim
          (λ (rest : Rests recording s other). inl (rests_on recording recording s t other (same other differs) refl rest))
          (λ (own : other ≡ rank). absurd (differs own))
          rests)
          (cases_eq other rank));
      are_waves = waves_but_one groups recording recording s t progress rank place only h.kept.are_waves;
      is_reached = reached_step (can_move reading groups recording) (length recording) s t h.kept.is_reached (record { rank = rank; is_rank = in_s; can_move = able; moves_on = is });
      is_rank = h.is_rank;
      in_none = h.in_none;
      is_there = there;
      few = omega (arith, there, next, few);
      is_paid =
          let more = paid_moved recording s progress rank h.is_rank in_s in
          let after : paid recording (moved s rank) progress ≡ paid recording t progress = ap (λ (x : State). paid recording x progress) (sym is) in
          let cost : cost_of (slice_get (calls_of recording rank) (get_or s rank 0 + 1)) ≡ cost_of (slice_get (calls_of recording rank) place) = ap (λ (p : ℕ). cost_of (slice_get (calls_of recording rank) p)) at_place in
          omega (arith, more, after, cost, h.kept.is_paid);
    }

cost_most : (there : Option Call) → cost_of there ≤ 16
cost_most None = omega arith
cost_most (Some call) = omega arith

-- the call arrives at which its rank stands
stands_at_end : (reading : Reading) (groups : Groups) (recording : Lists) (s : State) (progress : Progress) (awaited : List ℕ) (rank list : ℕ) → get_or s rank 0 ≡ length (calls_of recording rank) → WaitsIn reading groups recording s progress awaited rank list → ⊥
stands_at_end reading groups recording s progress awaited rank list at_end (inl own) = omega (arith, awaited_place recording rank (get_or s rank 0) (get_or awaited rank 0) own.2.is_awaited, at_end)
stands_at_end reading groups recording s progress awaited rank list at_end (inr wave) = omega (arith, awaited_place recording rank (get_or s rank 0) wave.2.start wave.2.is_awaited, at_end)

pub at_end_in_none : (reading : Reading) (groups : Groups) (recording : Lists) (s : State) (progress : Progress) (w : WaitLists) (rank : ℕ) → IsSettled reading groups recording s progress w → get_or s rank 0 ≡ length (calls_of recording rank) → in_all rank w.lists ≡ 0
at_end_in_none reading groups recording s progress w rank h at_end = none (in_all rank w.lists) refl
  where
    none : (n : ℕ) → in_all rank w.lists ≡ n → in_all rank w.lists ≡ 0
    none zero e = e
    none (suc n) e =
        let found = found_in rank w.lists (omega (arith, e)) in
        ⊎_elim
        (λ (first : found.0 ≡ 0). absurd (omega (arith, found.2, ap (λ (l : ℕ). count rank (list_at w.lists l)) first, ap (count rank) h.is_empty)))
        (λ (later : found.0 ≢ 0). absurd (stands_at_end reading groups recording s progress w.awaited rank found.0 at_end (h.kept.linked.waits rank found.0 (omega arith) found.2)))
        (cases_eq found.0 0)

pub arrival_reaches : (reading : Reading) (groups : Groups) (recording : Lists) (s : State) (progress : Progress) (w : WaitLists) (rank place : ℕ) (call : Call) → IsSettled reading groups recording s progress w → rank < length recording → get_or s rank 0 ≡ length (calls_of recording rank) → place ≡ get_or s rank 0 → place ≤ most_calls → IsTheEnd (can_move reading groups recording) (length recording) s → IsReaching reading groups (appended recording rank call) s progress w rank place
arrival_reaches reading groups recording s progress w rank place call h is_rank at_end there few end =
    let longer : Lists = appended recording rank call in
    let only =
    subst (λ (p : ℕ). OnlyReaches recording longer s s (λ other there. (other ≡ rank) × (there ≡ p))) (sym (there ∙ at_end)) (arrived_there recording s rank call is_rank) in
    let same_ranks : length recording ≡ length longer = only.goes_on.same_ranks in
    let in_none = at_end_in_none reading groups recording s progress w rank h at_end in
    record {
      has_lists = lists_on groups recording longer w h.kept.has_lists same_ranks;
      linked =
          subst (λ (n : ℕ). AreListed n w.lists (WaitsOrWoken reading groups longer s progress w.awaited rank place) (λ other. Rests longer s other ⊎ (other ≡ rank))) same_ranks
          (changed (length recording) w.lists _ (WaitsOrWoken reading groups longer s progress w.awaited rank place) _ (λ other. Rests longer s other ⊎ (other ≡ rank)) h.kept.linked
          (λ other list is_rank' later on waits. waits_on_or_woken reading groups recording longer s s progress w.awaited rank place other list only refl waits)
          (λ other is_rank' none rests.
          ⊎_elim
          (λ (own : other ≡ rank). inr own)
          (λ (differs : other ≢ rank).
          ⊎_elim
          (λ (rest : Rests recording s other). inl (rests_on recording longer s s other refl (ap (λ (calls : List Call). slice_get calls (get_or s other 0)) (calls_of-appended_other recording rank other call differs)) rest))
          (λ (nobody : IsNobody other). absurd nobody)
          rests)
          (cases_eq other rank)));
      are_waves = waves_but_one groups recording longer s s progress rank place only h.kept.are_waves;
      is_reached = still_reached reading groups recording rank call s is_rank end;
      is_rank = omega (arith, is_rank, same_ranks);
      in_none = in_none;
      is_there = there;
      few = few;
      is_paid =
          let cost : cost_of (slice_get (calls_of longer rank) place) ≤ 16 = cost_most (slice_get (calls_of longer rank) place) in
          omega (arith, cost, h.kept.is_paid, paid_there recording s progress rank call is_rank at_end);
    }

-- a call arrives that its rank has not come to
pub arrival_waits : (reading : Reading) (groups : Groups) (recording : Lists) (s : State) (progress : Progress) (w : WaitLists) (rank : ℕ) (call : Call) → IsSettled reading groups recording s progress w → rank < length recording → get_or s rank 0 < length (calls_of recording rank) → IsTheEnd (can_move reading groups recording) (length recording) s → IsSettled reading groups (appended recording rank call) s progress w
arrival_waits reading groups recording s progress w rank call h is_rank behind end =
    let longer : Lists = appended recording rank call in
    let only = arrived_ahead recording s rank call is_rank behind in
    let same_ranks : length recording ≡ length longer = only.goes_on.same_ranks in
    record {
      is_empty = h.is_empty;
      kept = record {
        has_lists = lists_on groups recording longer w h.kept.has_lists same_ranks;
        linked =
            subst (λ (n : ℕ). AreListed n w.lists (WaitsIn reading groups longer s progress w.awaited) (λ other. Rests longer s other ⊎ IsNobody other)) same_ranks
            (changed (length recording) w.lists _ (WaitsIn reading groups longer s progress w.awaited) _ (λ other. Rests longer s other ⊎ IsNobody other) h.kept.linked
            (λ other list is_rank' later on waits.
            ⊎_elim
            (λ (still : WaitsIn reading groups longer s progress w.awaited other list). still)
            (λ (new : (list ≡ own_list other) × (other < length longer) × IsWoken groups longer (λ someone there. ⊥) other (get_or w.awaited other 0)). absurd new.2.is_new)
            (waits_on reading groups recording longer s s progress w.awaited _ other list only refl waits))
            (λ other is_rank' none rests.
            ⊎_elim
            (λ (rest : Rests recording s other). inl (rests_on recording longer s s other refl (still_there recording rank other call s is_rank behind) rest))
            (λ (nobody : IsNobody other). absurd nobody)
            rests));
        are_waves =
            fewer_excepted groups longer s progress _ _ (waves_on groups recording longer s s progress _ only h.kept.are_waves)
            (λ comm member is_member e. e.1);
        is_reached = still_reached reading groups recording rank call s is_rank end;
        is_paid = omega (arith, h.kept.is_paid, paid_ahead recording s progress rank call is_rank);
      };
    }
  where
    still_there : (recording : Lists) (rank other : ℕ) (call : Call) (s : State) → rank < length recording → get_or s rank 0 < length (calls_of recording rank) → slice_get (calls_of (appended recording rank call) other) (get_or s other 0) ≡ slice_get (calls_of recording other) (get_or s other 0)
    still_there recording rank other call s is_rank behind =
        ⊎_elim
        (λ (own : other ≡ rank). rw own (call_stays recording (appended recording rank call) rank (get_or s rank 0) (goes_on_by recording rank call is_rank) behind))
        (λ (differs : other ≢ rank). ap (λ (calls : List Call). slice_get calls (get_or s other 0)) (calls_of-appended_other recording rank other call differs))
        (cases_eq other rank)

-- the first of the worklist is taken
pub kept_taken : (reading : Reading) (groups : Groups) (recording : Lists) (s : State) (progress : Progress) (w new : WaitLists) (rank : ℕ) → HoldsBetweenLooks reading groups recording s progress w IsNobody 0 → slice_get (list_at w.lists 0) 0 ≡ Some rank → new.lists ≡ set w.lists 0 (drop 1 (list_at w.lists 0)) → new.spare ≡ w.spare + 1 → new.work ≡ min (w.work + 1) most_work → new.awaited ≡ w.awaited → IsInHand reading groups recording s progress new rank
kept_taken reading groups recording s progress w new rank h first lists spare work awaited =
    let it = taken (length recording) w.lists new.lists rank _ _ h.linked (omega (arith, h.has_lists.lists)) first lists in
    record {
      kept = record {
        has_lists = record {
          lists = it.lists ∙ h.has_lists.lists;
          nodes = omega (arith, it.nodes, h.has_lists.nodes, spare);
          awaited = ap (length {A = ℕ}) awaited ∙ h.has_lists.awaited;
          counts = omega (arith, it.nodes, work, h.has_lists.counts);
        };
        linked =
            changed (length recording) new.lists _ _ _ _ it.linked
            (λ other list is_rank later on waits. subst (λ (xs : List ℕ). WaitsIn reading groups recording s progress xs other list) (sym awaited) waits)
            (λ other is_rank none rests.
            ⊎_elim
            (λ (old : Rests recording s other ⊎ IsNobody other).
            ⊎_elim
            (λ (rest : Rests recording s other). inl rest)
            (λ (nobody : IsNobody other). absurd nobody)
            old)
            (λ (own : other ≡ rank). inr own)
            rests);
        are_waves = h.are_waves;
        is_reached = h.is_reached;
        is_paid = omega (arith, h.is_paid, work, min-le_left (w.work + 1) most_work, it.shorter);
      };
      is_rank = it.is_rank;
      in_none = it.in_none;
    }

more_times : (a b m : ℕ) → a ≤ b → a * m ≤ b * m
more_times zero b m h = omega arith
more_times (suc a) zero m h = absurd (omega (arith, h))
more_times (suc a) (suc b) m h = omega (arith, more_times a b m (omega (arith, h)), suc-mul a m, suc-mul b m)

-- once a rank has moved on, one call less is left
pub left_falls : (reading : Reading) (groups : Groups) (recording : Lists) (s t : State) (progress : Progress) (w : WaitLists) (rank place : ℕ) → IsReaching reading groups recording t progress w rank place → rank < length s → t ≡ moved s rank → call_count recording - total t < call_count recording - total s
left_falls reading groups recording s t progress w rank place h is_rank is =
    let within = reached_within reading groups recording t h.is_reached in
    let total_t : total t ≡ suc (total s) = ap total is ∙ total_moved s rank is_rank ∙ omega arith in
    omega (arith, total_most t _ within.ranks within.stands, total_t)

-- once a rank has settled that had just come to its call, each rank may be to be looked at; no more is left to do than
-- before where it was in hand and moved on
pub left_kept : (reading : Reading) (groups : Groups) (recording : Lists) (s t : State) (progress : Progress) (w last : WaitLists) → HoldsBetweenLooks reading groups recording t progress last IsNobody 0 → call_count recording - total t ≤ call_count recording - total s → to_do recording t last ≤ to_do recording s w + length recording
left_kept reading groups recording s t progress w last h less =
    let times = more_times (call_count recording - total t) (call_count recording - total s) (length recording + 1) less in
    omega (arith, times, most_linked last.lists 0, h.has_lists.nodes)

pub left_fewer : (reading : Reading) (groups : Groups) (recording : Lists) (s t : State) (progress : Progress) (w last : WaitLists) → HoldsBetweenLooks reading groups recording t progress last IsNobody 0 → call_count recording - total t < call_count recording - total s → to_do recording t last ≤ to_do recording s w
left_fewer reading groups recording s t progress w last h less =
    let times = more_times (suc (call_count recording - total t)) (call_count recording - total s) (length recording + 1) less in
    omega (arith, times, suc-mul (call_count recording - total t) (length recording + 1), most_linked last.lists 0, h.has_lists.nodes)

-- no rank can move once none is to be looked at
pub settled_end : (reading : Reading) (groups : Groups) (recording : Lists) (s : State) (progress : Progress) (w : WaitLists) → IsSettled reading groups recording s progress w → IsTheEnd (can_move reading groups recording) (length recording) s
settled_end reading groups recording s progress w h =
    stuck_end reading groups recording s h.kept.is_reached
    (λ rank is_rank. by_all rank (omega (arith, is_rank, reached_ranks (can_move reading groups recording) (length recording) s h.kept.is_reached)) (in_all rank w.lists) refl)
  where
    by_all : (rank : ℕ) → rank < length recording → (n : ℕ) → in_all rank w.lists ≡ n → can_move reading groups recording s rank ≡ false
    by_all rank is_rank zero e =
        ⊎_elim
        (λ (rest : Rests recording s rank). resting_stuck reading groups recording s rank rest)
        (λ (nobody : IsNobody rank). absurd nobody)
        (h.kept.linked.rests rank is_rank e)
    by_all rank is_rank (suc n) e =
        let found = found_in rank w.lists (omega (arith, e)) in
        ⊎_elim
        (λ (first : found.0 ≡ 0). absurd (omega (arith, found.2, ap (λ (l : ℕ). count rank (list_at w.lists l)) first, ap (count rank) h.is_empty)))
        (λ (later : found.0 ≢ 0).
        ⊎_elim
        (λ (own : (found.0 ≡ own_list rank) × (rank < length recording) × NeedsPartner reading groups recording s rank (get_or w.awaited rank 0)). partner_stuck reading groups recording s rank (get_or w.awaited rank 0) own.2)
        (λ (wave : (comm : ℕ) × (found.0 ≡ comm_list (length recording) comm) × NeedsWave groups recording s progress rank comm). wave_stuck reading groups recording s progress rank wave.0 h.kept.are_waves wave.2)
        (h.kept.linked.waits rank found.0 (omega arith) found.2))
        (cases_eq found.0 0)

-- a rank stands at its list's end, or before it
pub stand_within : (reading : Reading) (groups : Groups) (recording : Lists) (s : State) (rank : ℕ) → IsReached (can_move reading groups recording) (length recording) s → get_or s rank 0 ≤ length (calls_of recording rank)
stand_within reading groups recording s rank reached = omega (arith, (reached_within reading groups recording s reached).stands rank, length_of_calls recording rank)

-- what arrived at its rank's stand is reached
pub arrived_reaching : (reading : Reading) (groups : Groups) (recording : Lists) (s : State) (progress : Progress) (w : WaitLists) (rank place : ℕ) → HasArrived reading groups recording s progress w rank place → get_or s rank 0 ≡ place → IsReaching reading groups recording s progress w rank place
arrived_reaching reading groups recording s progress w rank place h there =
    rw h.is (arrival_reaches reading groups h.before s progress w rank place h.call h.settled h.is_rank (there ∙ h.is_next) (sym there) h.few (settled_end reading groups h.before s progress w h.settled))

-- what arrived before its rank has come to it wakes none
pub arrived_settled : (reading : Reading) (groups : Groups) (recording : Lists) (s : State) (progress : Progress) (w : WaitLists) (rank place : ℕ) → HasArrived reading groups recording s progress w rank place → get_or s rank 0 ≢ place → IsSettled reading groups recording s progress w
arrived_settled reading groups recording s progress w rank place h not_there =
    rw h.is (arrival_waits reading groups h.before s progress w rank h.call h.settled h.is_rank
    (omega (arith, stand_within reading groups h.before s rank h.settled.kept.is_reached, h.is_next, not_there)) (settled_end reading groups h.before s progress w h.settled))

-- at the start no rank has a call
no_call_joined : (ranks comm wave member : ℕ) (s : State) → HasJoined (replicate ranks []) s comm wave member → ⊥
no_call_joined ranks comm wave member s h = none-some h.0 (rw (no_calls ranks member) at h.1)

pub new_settled : (reading : Reading) (groups : Groups) (recording : Lists) (s : State) (progress : Progress) (w : WaitLists) (ranks : ℕ) → recording ≡ replicate ranks [] → s ≡ start ranks → progress.complete.items ≡ replicate (length groups) 0 → progress.met.items ≡ replicate (length groups) 0 → w.lists ≡ replicate (1 + ranks + length groups) [] → w.spare ≡ ranks → w.work ≡ 0 → progress.changes ≡ 0 → w.awaited ≡ replicate ranks 0 → IsSettled reading groups recording s progress w
new_settled reading groups recording s progress w ranks is_empty zeros complete met lists spare work changes awaited =
    let long : length recording ≡ ranks = ap (length {A = List Call}) is_empty ∙ length-replicate ranks [] in
    let none = none_there (1 + ranks + length groups) in
    let end = start_end reading groups ranks in
    record {
      is_empty = ap (λ (ls : List (List ℕ)). list_at ls 0) lists ∙ none.1;
      kept = record {
        has_lists = record {
          lists = ap (length {A = List ℕ}) lists ∙ length-replicate (1 + ranks + length groups) [] ∙ ap (λ (n : ℕ). 1 + n + length groups) (sym long);
          nodes = omega (arith, ap linked_ranks lists, none.0, spare, long);
          awaited = ap (length {A = ℕ}) awaited ∙ length-replicate ranks 0 ∙ sym long;
          counts = omega (arith, ap linked_ranks lists, none.0, work);
        };
        linked = rw lists (none_linked (length recording) (1 + ranks + length groups) _ _ (λ rank is_rank. inl (rw (is_empty, no_calls ranks rank) refl)));
        are_waves = record {
          completes = ap (length {A = ℕ}) complete ∙ length-replicate (length groups) 0;
          meets = ap (length {A = ℕ}) met ∙ length-replicate (length groups) 0;
          done = λ comm wave g member less is. absurd (omega (arith, less, ap (λ (xs : List ℕ). get_or xs comm 0) complete, get_start (length groups) comm));
          met = λ comm g member less is. absurd (omega (arith, less, ap (λ (xs : List ℕ). get_or xs comm 0) met, get_start (length groups) comm));
          next = λ comm some.
              let first : met_of progress comm ≡ 0 = ap (λ (xs : List ℕ). get_or xs comm 0) met ∙ get_start (length groups) comm in
              (get_or (group_of groups comm) 0 0, rw first (slice_get-get_or (group_of groups comm) 0 0 some), λ joined. no_call_joined ranks comm (complete_of progress comm) (get_or (group_of groups comm) 0 0) s (rw is_empty at joined));
        };
        is_reached = rw (long, is_empty, zeros) end.is_reached;
        is_paid = omega (arith, work, changes, ap (λ (ls : List (List ℕ)). length (list_at ls 0)) lists, ap (length {A = ℕ}) none.1);
      };
    }

-- the touches are no more than 22 for each call
pub touches_within : (reading : Reading) (groups : Groups) (recording : Lists) (s : State) (progress : Progress) (w : WaitLists) → IsSettled reading groups recording s progress w → touches_of progress w ≤ most_touches recording
touches_within reading groups recording s progress w h =
    omega (arith, min-le_left (w.work + progress.changes) most_work, h.kept.is_paid, paid_most recording s progress (λ rank. stand_within reading groups recording s rank h.kept.is_reached))

-- a rank that waits counts once
one_at_most : (waits : Bool) → (if waits then 1 else 0) ≤ 1
one_at_most true = omega arith
one_at_most false = omega arith

-- each rank that waits was linked
pub waiting_linked : (reading : Reading) (groups : Groups) (recording : Lists) (s : State) (progress : Progress) (w : WaitLists) → IsSettled reading groups recording s progress w → length s ≤ most_work → ranks_waiting recording s ≤ w.work
waiting_linked reading groups recording s progress w h few =
    let all : ranks_waiting recording s ≤ sum_to (length recording) (λ rank. in_all rank w.lists) =
    sum_least (length recording) _ (λ rank. in_all rank w.lists) (λ rank is_rank. stands_in rank is_rank (in_all rank w.lists) refl) in
    omega (arith, all, sum_all (length recording) w.lists h.kept.linked.ranks_only, h.kept.has_lists.counts, h.kept.has_lists.nodes, few, reached_ranks (can_move reading groups recording) (length recording) s h.kept.is_reached)
  where
    stands_in : (rank : ℕ) → rank < length recording → (n : ℕ) → in_all rank w.lists ≡ n → (if may_pass (slice_get (calls_of recording rank) (get_or s rank 0)) then 1 else 0) ≤ in_all rank w.lists
    stands_in rank is_rank zero e =
        ⊎_elim
        (λ (rest : Rests recording s rank). rw rest (omega arith))
        (λ (nobody : IsNobody rank). absurd nobody)
        (h.kept.linked.rests rank is_rank e)
    stands_in rank is_rank (suc n) e = omega (arith, e, one_at_most (may_pass (slice_get (calls_of recording rank) (get_or s rank 0))))
