-- What the verdict says of the ranks.
use Rattle.moves.specs.declared.reading.Reading.{Reading}
use Rattle.std.proofs.Common.{inl, ◌≡◌, ◌↔◌, ℕ, zero, suc, ◌-◌, ◌<◌, ◌≤◌, ◌≢◌, Bool, true, false, not, ◌||◌, Option, Some, None, List, [], ◌∷◌, length, map, refl, sym, ap, subst, ◌∙◌, ⊎_elim, arith}
use mathlib.Core.Bool.{Bool-set}
use Rattle.std.proofs.Math.Logic.{∥∥₁_elim}
use Rattle.std.specs.Prelude.{slice_index}
use Rattle.std.specs.Option.{option_map_or}
use Rattle.std.specs.List.{slice_get, filter, list_all, list_any, range_with_len}
use Rattle.std.proofs.lemmas.Option.{none-some}
use Rattle.std.proofs.lemmas.Bool.{cases_Bool, cases_eq, cases_lt, false≢true, or_parts}
use Rattle.mpicall.specs.Ending.{ends_list}
use Rattle.mpicall.specs.declared.call.Call.{Call}
use Rattle.mpicall.specs.declared.call.Call.TheVariants.{Finalize, Open}
use Rattle.mpigroup.specs.Groups.{Groups}
use Rattle.callstore.specs.Recordings.{Lists, calls_of, IsClosed}
use Rattle.moves.specs.Stands.{stands_of}
use Rattle.moves.specs.declared.need.Need.{Need}
use Rattle.moves.specs.declared.need.Need.TheVariants.{At, Lacking}
use Rattle.waitgraph.specs.Waits.{Waits, needs_in}
use Rattle.waitgraph.specs.inner.Waits.{waits_of}
use Rattle.waitgraph.specs.Held.{Set, AreHeld, ListsHeld, is_some_left_open}
use Rattle.waitgraph.specs.inner.Least.{after_rounds}
use Rattle.waitgraph.specs.inner.Loose.{set_of, standing_of, is_on, loosens_at, loosens, are_loose, is_held_at}
use Rattle.pairing.specs.LeftOpen.{leaves_open, is_left_open}
use Rattle.waitgraph.specs.inner.Held.{left_open_in, standing_by, opened_of, standings_at, is_held, held_of}
use Rattle.waitgraph.specs.Verdicts.{IsVerdictOf, EachRecordingHasOneVerdict, verdict_by, SomeRankIsStuck, WithoutOpenTheStuckAreHeld, HangTellsOfAStuckRank}
use Rattle.waitgraph.specs.inner.Verdicts.{verdict_of}
use Rattle.waitgraph.specs.Stays.{StayPut}
use Rattle.waitgraph.specs.Stuck.{is_stuck}
use Rattle.waitgraph.specs.Graphs.{GraphView, IsGraphOf}
use Rattle.waitgraph.specs.inner.Graphs.{IsGraphBy}
use Rattle.waitgraph.specs.declared.verdict.Verdict.{Verdict}
use Rattle.waitgraph.specs.declared.verdict.Verdict.TheVariants.{Free, Hang, Unfinished}
use Rattle.waitgraph.specs.declared.standing.Standing.{Standing}
use Rattle.waitgraph.specs.declared.standing.Standing.TheVariants.{AtFinalize, AtOpen, Stuck}
use Rattle.waitgraph.proofs.AmongLemmas.{Among, in_among, range_among, kept_among, among_kept}
use Rattle.waitgraph.proofs.UnmetLemmas.{waits_are}
use Rattle.waitgraph.proofs.StuckLemmas.{ends_at, stands_before, not_past, needs_before}
use Rattle.waitgraph.proofs.WalkingLemmas.{standing_is, no_standing, opened_is, stuck_there}
use Rattle.waitgraph.proofs.DeadlockLemmas.{are_found, held_are, deadlocked_if, held_within, held_ranks_stay}

hang_by : (ranks : List ℕ) (open_lists : Bool) (rank : ℕ) → Among rank ranks → verdict_by ranks open_lists ≡ Hang
hang_by [] open_lists rank there = absurd there
hang_by (first ∷ ranks) open_lists rank there = refl

first_by : (ranks : List ℕ) (open_lists : Bool) → verdict_by ranks open_lists ≡ Hang → (rank : ℕ) × Among rank ranks
first_by [] false hang = cc
first_by [] true hang = cc
first_by (first ∷ ranks) open_lists hang = (first, inl refl)

-- some list was left open, by the marks of all
pub some_marked : (f : ℕ → Bool) (ranks : List ℕ) → list_any (λ open_list. open_list) (map f ranks) ≡ list_any f ranks
some_marked f [] = refl
some_marked f (rank ∷ ranks) = ap (λ (some : Bool). f rank || some) (some_marked f ranks)

unfinished_by : (ranks : List ℕ) (open_lists : Bool) → verdict_by ranks open_lists ≡ Unfinished → open_lists ≡ true
unfinished_by [] true is = refl
unfinished_by [] false is = cc
unfinished_by (rank ∷ ranks) open_lists is = cc

free_by : (ranks : List ℕ) (open_lists : Bool) → verdict_by ranks open_lists ≡ Free → open_lists ≡ false
free_by [] true is = cc
free_by [] false is = refl
free_by (rank ∷ ranks) open_lists is = cc

-- the verdict by the held ranks is that of the recording
pub verdict_is : (reading : Reading) (groups : Groups) (recording : Lists) (ranks : List ℕ) → ListsHeld reading groups recording ranks → IsVerdictOf reading groups recording (verdict_by ranks (is_some_left_open recording))
verdict_is reading groups recording ranks lists =
    let held = lists.0 in
    let all : List ℕ = range_with_len 0 (length recording) in
    record {
      hang = (
        λ hang.
            let first = first_by ranks (is_some_left_open recording) hang in
            let kept = kept_among first.0 lists.0 (range_with_len 0 (length recording)) (subst (λ (rs : List ℕ). Among first.0 rs) lists.2 first.1) in
            (first.0, (lists.1 first.0).0 kept.1),
        λ some.
            let within = held_within reading groups recording some.0 some.1 in
            hang_by ranks (is_some_left_open recording) some.0
            (subst (λ (rs : List ℕ). Among some.0 rs) (sym lists.2)
            (among_kept some.0 lists.0 (range_with_len 0 (length recording)) (range_among some.0 0 (length recording) (omega arith) (omega (arith, within))) ((lists.1 some.0).1 some.1))),
      );
      unfinished = λ is. unfinished_by ranks (is_some_left_open recording) is;
      free = λ is. free_by ranks (is_some_left_open recording) is;
    }

pub held_list : (reading : Reading) (groups : Groups) (recording : Lists) → AreHeld reading groups recording (is_held reading groups recording) → ListsHeld reading groups recording (held_of reading groups recording)
held_list reading groups recording are = (is_held reading groups recording, are, refl)

-- and each of the list stays
pub list_stays : (reading : Reading) (groups : Groups) (recording : Lists) (ranks : List ℕ) → ListsHeld reading groups recording ranks → StayPut reading groups recording ranks
list_stays reading groups recording ranks lists index rank there =
    let kept = kept_among rank lists.0 (range_with_len 0 (length recording)) (subst (λ (rs : List ℕ). Among rank rs) lists.2 (in_among rank ranks (index, there))) in
    held_ranks_stay reading groups recording rank ((lists.1 rank).0 kept.1)

-- a recording has one verdict
pub one_verdict : (reading : Reading) (groups : Groups) (recording : Lists) (one other : Verdict) → IsVerdictOf reading groups recording one → IsVerdictOf reading groups recording other → one ≡ other
one_verdict reading groups recording Free Free p q = refl
one_verdict reading groups recording Free Hang p q = p.hang.1 (q.hang.0 refl)
one_verdict reading groups recording Free Unfinished p q = absurd (false≢true (sym (p.free refl) ∙ q.unfinished refl))
one_verdict reading groups recording Hang Free p q = sym (q.hang.1 (p.hang.0 refl))
one_verdict reading groups recording Hang Hang p q = refl
one_verdict reading groups recording Hang Unfinished p q = sym (q.hang.1 (p.hang.0 refl))
one_verdict reading groups recording Unfinished Free p q = absurd (false≢true (sym (q.free refl) ∙ p.unfinished refl))
one_verdict reading groups recording Unfinished Hang p q = p.hang.1 (q.hang.0 refl)
one_verdict reading groups recording Unfinished Unfinished p q = refl

-- the verdict is the one that the search finds, and the held ranks are those that it finds
pub verdict_found : (reading : Reading) (groups : Groups) (recording : Lists) (verdict : Verdict) → IsClosed recording → IsVerdictOf reading groups recording verdict → verdict ≡ verdict_of reading groups recording
verdict_found reading groups recording verdict closed is =
    one_verdict reading groups recording verdict (verdict_of reading groups recording) is
    (verdict_is reading groups recording (held_of reading groups recording) (held_list reading groups recording (are_found reading groups recording closed)))

pub same_test : (a b : Bool) → (a ≡ true → b ≡ true) → (b ≡ true → a ≡ true) → a ≡ b
same_test true b on back = sym (on refl)
same_test false true on back = back refl
same_test false false on back = refl

pub same_held : (reading : Reading) (groups : Groups) (recording : Lists) (held other : Set) → AreHeld reading groups recording held → AreHeld reading groups recording other → (rank : ℕ) → held rank ≡ other rank
same_held reading groups recording held other are others rank =
    same_test (held rank) (other rank) (λ h. (others rank).1 ((are rank).0 h)) (λ h. (are rank).1 ((others rank).0 h))

filter_same : (f g : ℕ → Bool) → ((rank : ℕ) → f rank ≡ g rank) → (ranks : List ℕ) → filter f ranks ≡ filter g ranks
filter_same f g same [] = refl
filter_same f g same (rank ∷ ranks) = rw (same rank, filter_same f g same ranks) refl

pub held_found : (reading : Reading) (groups : Groups) (recording : Lists) (ranks : List ℕ) → IsClosed recording → ListsHeld reading groups recording ranks → ranks ≡ held_of reading groups recording
held_found reading groups recording ranks closed lists =
    lists.2 ∙ filter_same lists.0 (is_held reading groups recording) (same_held reading groups recording lists.0 (is_held reading groups recording) lists.1 (are_found reading groups recording closed)) (range_with_len 0 (length recording))

-- no list is left open
none_marked : (marks : List Bool) (rank : ℕ) → list_any (λ open_list. open_list) marks ≡ false → set_of marks rank ≡ false
none_marked [] zero none = refl
none_marked [] (suc rank) none = refl
none_marked (mark ∷ marks) zero none = (or_parts mark (list_any (λ open_list. open_list) marks) none).0
none_marked (mark ∷ marks) (suc rank) none = none_marked marks rank (or_parts mark (list_any (λ open_list. open_list) marks) none).1

-- a need isn't on a rank of a set that has none
on_none : (opened set : Set) (need : Need) → ((rank : ℕ) → set rank ≡ false) → is_on opened set need ≡ false
on_none opened set (At rank place) none = none rank
on_none opened set (Lacking rank) none =
    ⊎_elim
    (λ (is : opened rank ≡ true). rw (is, none rank) refl)
    (λ (no : opened rank ≡ false). rw no refl)
    (cases_Bool (opened rank))

first_fails : (test : Need → Bool) (needs : List Need) (need : Need) → slice_get needs 0 ≡ Some need → ((n : Need) → test n ≡ false) → list_all test needs ≡ false
first_fails test [] need there fails = absurd (none-some need there)
first_fails test (first ∷ needs) need there fails = rw (fails first) refl

-- what makes no rank loose
no_rank_at_open : (standing : Standing) (all : Bool) → (standing ≡ AtOpen → ⊥) → (standing ≡ Stuck → all ≡ false) → loosens_at standing all ≡ false
no_rank_at_open AtFinalize all not_open stuck = refl
no_rank_at_open AtOpen all not_open stuck = absurd (not_open refl)
no_rank_at_open Stuck all not_open stuck = stuck refl

-- no rank is loose where none is at an open and each stuck one has an unmet need
none_loose : (opened : Set) (standings : List Standing) (waits : Waits) → ((rank : ℕ) → standing_of standings rank ≡ AtOpen → ⊥) → ((rank : ℕ) → standing_of standings rank ≡ Stuck → (need : Need) × (slice_get (needs_in waits rank) 0 ≡ Some need)) → (rounds rank : ℕ) → after_rounds (loosens opened standings waits) rounds rank ≡ false
none_loose opened standings waits closed needs zero rank = refl
none_loose opened standings waits closed needs (suc rounds) rank =
    no_rank_at_open (standing_of standings rank) (list_all (is_on opened (after_rounds (loosens opened standings waits) rounds)) (needs_in waits rank)) (closed rank)
    (λ stuck.
    let first = needs rank stuck in
    first_fails (is_on opened (after_rounds (loosens opened standings waits) rounds)) (needs_in waits rank) first.0 first.1
    (λ need. on_none opened (after_rounds (loosens opened standings waits) rounds) need (λ other. none_loose opened standings waits closed needs rounds other)))

ended_stands : (call : Call) → ends_list call ≡ true → standing_by (Some call) ≡ Stuck → ⊥
ended_stands Finalize ends h = cc
ended_stands Open ends h = cc
ended_stands _ ends h = absurd (false≢true ends)

opens_there : (call : Call) → standing_by (Some call) ≡ AtOpen → leaves_open call ≡ true
opens_there Open h = refl
opens_there Finalize h = cc
opens_there _ h = cc

-- over a closed recording, what is known of where a rank stands
stuck_has_need : (reading : Reading) (groups : Groups) (recording : Lists) → IsClosed recording → (rank : ℕ) → standing_of (standings_at recording (stands_of reading groups recording)) rank ≡ Stuck → (need : Need) × (slice_get (needs_in (waits_of reading groups recording) rank) 0 ≡ Some need)
stuck_has_need reading groups recording closed rank stuck =
    ⊎_elim
    (λ (within : rank < length recording).
    let ends = ends_at (calls_of recording rank) (closed rank within) in
    let stand = slice_index (stands_of reading groups recording) rank in
    let is : standing_by (slice_get (calls_of recording rank) (slice_index (stands_of reading groups recording) rank)) ≡ Stuck = sym (standing_is recording (stands_of reading groups recording) rank within) ∙ stuck in
    ⊎_elim
    (λ (same : stand ≡ ends.end).
    absurd (ended_stands ends.last ends.ends (ap standing_by (sym ends.is_there ∙ ap (λ (k : ℕ). slice_get (calls_of recording rank) k) (sym same)) ∙ is)))
    (λ (other : stand ≢ ends.end).
    let first = needs_before reading groups recording rank within (stands_before reading groups recording rank ends (let most = not_past reading groups recording rank ends in let apart = other in omega (arith, most, apart))) in
    (first.need, ap (λ (needs : List Need). slice_get needs 0) (waits_are reading groups recording (stands_of reading groups recording) rank) ∙ first.is_first))
    (cases_eq stand ends.end))
    (λ (past : length recording ≤ rank).
    absurd (at_finalize (sym (no_standing recording (stands_of reading groups recording) rank past) ∙ stuck)))
    (cases_lt rank (length recording))
  where
    at_finalize : AtFinalize ≡ Stuck → ⊥
    at_finalize h = cc

no_open_stand : (reading : Reading) (groups : Groups) (recording : Lists) → IsClosed recording → is_some_left_open recording ≡ false → (rank : ℕ) → standing_of (standings_at recording (stands_of reading groups recording)) rank ≡ AtOpen → ⊥
no_open_stand reading groups recording closed none rank at_open =
    ⊎_elim
    (λ (within : rank < length recording).
    let ends = ends_at (calls_of recording rank) (closed rank within) in
    let stand = slice_index (stands_of reading groups recording) rank in
    let is : standing_by (slice_get (calls_of recording rank) (slice_index (stands_of reading groups recording) rank)) ≡ AtOpen = sym (standing_is recording (stands_of reading groups recording) rank within) ∙ at_open in
    ⊎_elim
    (λ (same : stand ≡ ends.end).
    let last : length (calls_of recording rank) - 1 ≡ ends.end = omega (arith, ends.is_last) in
    let opens : leaves_open ends.last ≡ true =
    opens_there ends.last (ap standing_by (sym ends.is_there ∙ ap (λ (k : ℕ). slice_get (calls_of recording rank) k) (sym same)) ∙ is) in
    let open_list : is_left_open recording rank ≡ true =
    ap (λ (o : Option Call). option_map_or leaves_open o false) (ap (λ (k : ℕ). slice_get (calls_of recording rank) k) last ∙ ends.is_there) ∙ opens in
    false≢true (sym (none_marked (left_open_in recording) rank (some_marked (is_left_open recording) (range_with_len 0 (length recording)) ∙ none)) ∙ opened_is recording rank within ∙ open_list))
    (λ (other : stand ≢ ends.end).
    let before = stands_before reading groups recording rank ends (let most = not_past reading groups recording rank ends in let apart = other in omega (arith, most, apart)) in
    stuck_not_open (sym (stuck_there before.call before.is_no_end) ∙ ap standing_by (sym before.is_present) ∙ is))
    (cases_eq stand ends.end))
    (λ (past : length recording ≤ rank).
    finalize_not_open (sym (no_standing recording (stands_of reading groups recording) rank past) ∙ at_open))
    (cases_lt rank (length recording))
  where
    stuck_not_open : Stuck ≡ AtOpen → ⊥
    stuck_not_open h = cc

    finalize_not_open : AtFinalize ≡ AtOpen → ⊥
    finalize_not_open h = cc

held_if : (standing : Standing) (loose : Bool) (present : Option Call) → loose ≡ false → standing ≡ standing_by present → is_held_at standing loose ≡ not (option_map_or ends_list present false)
held_if standing loose present no_more is = rw (no_more, is) (by_present present)
  where
    by_present : (present : Option Call) → is_held_at (standing_by present) false ≡ not (option_map_or ends_list present false)
    by_present None = refl
    by_present (Some Finalize) = refl
    by_present (Some Open) = refl
    by_present (Some _) = refl

-- so the search finds exactly the stuck ranks
stuck_are_found : (reading : Reading) (groups : Groups) (recording : Lists) → IsClosed recording → is_some_left_open recording ≡ false → (rank : ℕ) → rank < length recording → is_held reading groups recording rank ≡ is_stuck reading groups recording rank
stuck_are_found reading groups recording closed none rank within =
    held_if (standing_of (standings_at recording (stands_of reading groups recording)) rank)
    (are_loose (opened_of recording) (standings_at recording (stands_of reading groups recording)) (waits_of reading groups recording) rank)
    (slice_get (calls_of recording rank) (slice_index (stands_of reading groups recording) rank))
    (none_loose (opened_of recording) (standings_at recording (stands_of reading groups recording)) (waits_of reading groups recording)
    (no_open_stand reading groups recording closed none) (stuck_has_need reading groups recording closed)
    (length (standings_at recording (stands_of reading groups recording))) rank)
    (standing_is recording (stands_of reading groups recording) rank within)

pub without_open_the_stuck_are_held : WithoutOpenTheStuckAreHeld
without_open_the_stuck_are_held reading groups recording closed none rank within =
    let same = stuck_are_found reading groups recording closed none rank within in
    let are = are_found reading groups recording closed rank in
    (λ stuck. are.0 (same ∙ stuck), λ held. sym same ∙ are.1 held)

pub hang_tells_of_a_stuck_rank : HangTellsOfAStuckRank
hang_tells_of_a_stuck_rank reading groups recording verdict closed none is = (
  λ hang.
      let some = is.hang.0 hang in
      let within = held_within reading groups recording some.0 some.1 in
      record { rank = some.0; is_rank = within; stays = (without_open_the_stuck_are_held reading groups recording closed none some.0 within).1 some.1 },
  λ stuck.
      is.hang.1 (stuck.rank, (without_open_the_stuck_are_held reading groups recording closed none stuck.rank stuck.is_rank).0 stuck.stays),
)

pub each_recording_has_one_verdict : EachRecordingHasOneVerdict
each_recording_has_one_verdict reading groups recording closed = (
  verdict_of reading groups recording,
  verdict_is reading groups recording (held_of reading groups recording) (held_list reading groups recording (are_found reading groups recording closed)),
  λ other is. verdict_found reading groups recording other closed is,
)

-- the same of a wait graph that the search finds, where it is known that the recording is closed and not how
pub graph_verdict : (reading : Reading) (groups : Groups) (recording : Lists) (graph : GraphView) → ∥ IsClosed recording ∥₁ → IsGraphBy reading groups recording graph → IsVerdictOf reading groups recording (verdict_by graph.held graph.left_open)
graph_verdict reading groups recording graph closed by =
    subst (λ (left_open : Bool). IsVerdictOf reading groups recording (verdict_by graph.held left_open)) (sym by.left_open)
    (subst (λ (held : List ℕ). IsVerdictOf reading groups recording (verdict_by held (is_some_left_open recording))) (sym by.held)
    (verdict_is reading groups recording (held_of reading groups recording) (held_list reading groups recording (held_are reading groups recording (deadlocked_if reading groups recording closed)))))

pub graph_hangs : (reading : Reading) (groups : Groups) (recording : Lists) (graph : GraphView) → ∥ IsClosed recording ∥₁ → is_some_left_open recording ≡ false → IsGraphBy reading groups recording graph → (verdict_by graph.held graph.left_open ≡ Hang) ↔ SomeRankIsStuck reading groups recording
graph_hangs reading groups recording graph closed none by =
    let is = graph_verdict reading groups recording graph closed by in
    let same : (rank : ℕ) → rank < length recording → is_held reading groups recording rank ≡ is_stuck reading groups recording rank =
    λ rank within. ∥∥₁_elim closed (Bool-set _ _) (λ are. stuck_are_found reading groups recording are none rank within) in
    let are = held_are reading groups recording (deadlocked_if reading groups recording closed) in (
      λ hang.
          let some = is.hang.0 hang in
          let within = held_within reading groups recording some.0 some.1 in
          record { rank = some.0; is_rank = within; stays = sym (same some.0 within) ∙ (are some.0).1 some.1 },
      λ stuck.
          is.hang.1 (stuck.rank, (are stuck.rank).0 (same stuck.rank stuck.is_rank ∙ stuck.stays)),
    )

-- the verdict of a wait graph of the recording
pub verdict_of_graph : (reading : Reading) (groups : Groups) (recording : Lists) (graph : GraphView) → IsGraphOf reading groups recording graph → IsVerdictOf reading groups recording (verdict_by graph.held graph.left_open)
verdict_of_graph reading groups recording graph is =
    subst (λ (left_open : Bool). IsVerdictOf reading groups recording (verdict_by graph.held left_open)) (sym is.left_open)
    (verdict_is reading groups recording graph.held is.held)
