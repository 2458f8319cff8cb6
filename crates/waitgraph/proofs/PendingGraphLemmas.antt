-- The graph of what the search sees is that of the recording by what is known.
use Rattle.std.proofs.Common.{inl, inr, ◌≡◌, ℕ, ◌<◌, ◌≤◌, Bool, true, false, not, ◌&&◌, ◌||◌, nat_lt, Option, List, [], ◌∷◌, length, map, refl, sym, ap, subst, ◌∙◌, ⊎_elim, arith}
use Rattle.std.specs.Prelude.{unwrap_or, option_map}
use Rattle.std.specs.List.{filter, list_any, range_with_len}
use Rattle.std.proofs.lemmas.Bool.{cases_Bool, cases_lt, lt-ltb, false_from_ne_true, and_parts, ltb-true}
use Rattle.moves.specs.Runs.{State}
use Rattle.moves.specs.Stands.{stands_of}
use Rattle.waitgraph.specs.Causes.{CauseView}
use Rattle.waitgraph.specs.Held.{is_some_left_open}
use Rattle.waitgraph.specs.Stuck.{is_stuck}
use Rattle.waitgraph.specs.Waits.{Waits, needs_in}
use Rattle.waitgraph.specs.Graphs.{GraphView}
use Rattle.waitgraph.specs.PendingHeld.{AreHeldBy}
use Rattle.waitgraph.specs.PendingNeeds.{awaited_at, awaited_of, awaited_in, held_up_at, held_up_by}
use Rattle.waitgraph.specs.PendingCauses.{AreCausesBy}
use Rattle.waitgraph.specs.PendingGraphs.{findings_by, IsGraphWith}
use Rattle.waitgraph.specs.declared.awaited.Awaited.{Awaited}
use Rattle.waitgraph.specs.declared.may_move.Scene.{Scene}
use Rattle.waitgraph.specs.inner.Causes.{causes_in}
use Rattle.waitgraph.specs.inner.Loose.{set_of}
use Rattle.waitgraph.specs.inner.PendingLoose.{is_held_by}
use Rattle.waitgraph.specs.inner.Scenes.{IsScene, staying, known_in, free_in, awaited_by, walks_by, hop_from_awaited}
use Rattle.waitgraph.specs.inner.Stuck.{stuck_at}
use Rattle.waitgraph.specs.inner.Waits.{waits_at}
use Rattle.waitgraph.proofs.AmongLemmas.{Among, among_range}
use Rattle.waitgraph.proofs.PendingCauseLemmas.{walks_with, causes_are_by}
use Rattle.waitgraph.proofs.PendingLemmas.{held_found_by}
use Rattle.waitgraph.proofs.RangeLemmas.{in_table, past_table}
use Rattle.waitgraph.proofs.UnmetLemmas.{waits_are}

-- some element that is kept passes
any_filtered : {A : Type 0} (p q : A → Bool) (xs : List A) → list_any p (filter q xs) ≡ list_any (λ x. q x && p x) xs
any_filtered p q [] = refl
any_filtered p q (x ∷ xs) =
    ⊎_elim
    (λ (is : q x ≡ true). rw is (ap (λ (b : Bool). p x || b) (any_filtered p q xs)))
    (λ (no : q x ≡ false). rw no (any_filtered p q xs))
    (cases_Bool (q x))

any_same : {A : Type 0} (p q : A → Bool) (xs : List A) → ((x : A) → Among x xs → p x ≡ q x) → list_any p xs ≡ list_any q xs
any_same p q [] same = refl
any_same p q (x ∷ xs) same =
    ap (λ (b : Bool). b || list_any p xs) (same x (inl refl)) ∙ ap (λ (b : Bool). q x || b) (any_same p q xs (λ y there. same y (inr there)))

-- the ranks without a mark are the held ones
pub staying_held : (scene : Scene) (marks : List Bool) → length marks ≡ length scene.world.now.pairs.recording → ((rank : ℕ) → set_of marks rank ≡ free_in scene rank) → AreHeldBy scene.world.now.reading scene.world.now.pairs.groups scene.world.now.pairs.recording (known_in scene) (staying marks)
staying_held scene marks len are rank =
    let found = held_found_by scene.world.now.reading scene.world.now.pairs.groups scene.world.now.pairs.recording (known_in scene) rank in
    (λ h. found.0 (sym same ∙ h), λ h. same ∙ found.1 h)
  where
    same : staying marks rank ≡ is_held_by scene.world.now.reading scene.world.now.pairs.groups scene.world.now.pairs.recording (known_in scene) rank
    same =
        ap (λ (n : ℕ). nat_lt rank n && not (set_of marks rank)) len
        ∙ ap (λ (b : Bool). nat_lt rank (length scene.world.now.pairs.recording) && not b) (are rank)

not_twice : (b : Bool) → not (not b) ≡ b
not_twice true = refl
not_twice false = refl

-- a rank that doesn't stay has a mark
marked_is : (marks : List Bool) (n rank : ℕ) → length marks ≡ n → rank < n → not (staying marks rank) ≡ set_of marks rank
marked_is marks n rank len within =
    ap (λ (k : ℕ). not (nat_lt rank k && not (set_of marks rank))) len
    ∙ ap (λ (b : Bool). not (b && not (set_of marks rank))) (lt-ltb rank n within)
    ∙ not_twice (set_of marks rank)

unfinished_is : (scene : Scene) (marks : List Bool) → IsScene scene → length marks ≡ length scene.world.now.pairs.recording → list_any (set_of marks) (stuck_at scene.world.now.pairs.recording scene.stands.now) ≡ list_any (λ rank. is_stuck scene.world.now.reading scene.world.now.pairs.groups scene.world.now.pairs.recording rank && not (staying marks rank)) (range_with_len 0 (length scene.world.now.pairs.recording))
unfinished_is scene marks is len =
    ap (λ (stands : State). list_any (set_of marks) (stuck_at scene.world.now.pairs.recording stands)) is.stands
    ∙ any_filtered (set_of marks) (is_stuck scene.world.now.reading scene.world.now.pairs.groups scene.world.now.pairs.recording) (range_with_len 0 (length scene.world.now.pairs.recording))
    ∙ any_same (λ rank. is_stuck scene.world.now.reading scene.world.now.pairs.groups scene.world.now.pairs.recording rank && set_of marks rank) (λ rank. is_stuck scene.world.now.reading scene.world.now.pairs.groups scene.world.now.pairs.recording rank && not (staying marks rank)) (range_with_len 0 (length scene.world.now.pairs.recording))
    (λ rank there.
    let within = among_range rank 0 (length scene.world.now.pairs.recording) there in
    ap (λ (b : Bool). is_stuck scene.world.now.reading scene.world.now.pairs.groups scene.world.now.pairs.recording rank && b)
    (sym (marked_is marks (length scene.world.now.pairs.recording) rank len (omega (arith, within.1)))))

-- what is awaited by each rank
awaited_is : (scene : Scene) (marks : List Bool) → IsScene scene → length marks ≡ length scene.world.now.pairs.recording → (rank : ℕ) → awaited_in (map (awaited_by scene marks) (range_with_len 0 (length scene.world.now.pairs.recording))) rank ≡ awaited_of scene.world.now.reading scene.world.now.pairs.groups scene.world.now.pairs.recording (known_in scene) (staying marks) rank
unfolding awaited_of
awaited_is scene marks is len rank =
    ⊎_elim
    (λ (within : rank < length scene.world.now.pairs.recording).
    ap (λ (o : Option (List Awaited)). unwrap_or o []) (in_table (awaited_by scene marks) (length scene.world.now.pairs.recording) rank [] within)
    ∙ ap (λ (stands : State). awaited_at scene.world.now.reading scene.world.now.pairs.groups scene.world.now.pairs.recording (known_in scene) stands (staying marks) rank) is.stands)
    (λ (past : length scene.world.now.pairs.recording ≤ rank).
    ap (λ (o : Option (List Awaited)). unwrap_or o []) (past_table (awaited_by scene marks) (length scene.world.now.pairs.recording) rank past)
    ∙ sym (rw (outside past) refl))
    (cases_lt rank (length scene.world.now.pairs.recording))
  where
    outside : length scene.world.now.pairs.recording ≤ rank → staying marks rank ≡ false
    outside past =
        false_from_ne_true (staying marks rank)
        (λ stays. let less = ltb-true rank (length marks) (and_parts (nat_lt rank (length marks)) (not (set_of marks rank)) stays).0 in omega (arith, less, len, past))

walks_are : (scene : Scene) (marks : List Bool) → IsScene scene → walks_by scene marks ≡ walks_with scene.world.now.reading scene.world.now.pairs.groups scene.world.now.pairs.recording (known_in scene) (staying marks)
unfolding held_up_by
walks_are scene marks is =
    ap (λ (stands : State). map (λ rank. option_map (hop_from_awaited scene.world.now.pairs.recording) (held_up_at scene.world.now.reading scene.world.now.pairs.groups scene.world.now.pairs.recording (known_in scene) stands (staying marks) rank)) (range_with_len 0 (length scene.world.now.pairs.recording))) is.stands

-- what the search found of what it sees
pub record IsFound (scene : Scene) (marks : List Bool) (graph : GraphView) : Type 0 where
  pub len : length marks ≡ length scene.world.now.pairs.recording
  pub are_free : (rank : ℕ) → set_of marks rank ≡ free_in scene rank
  pub stuck : graph.stuck ≡ stuck_at scene.world.now.pairs.recording scene.stands.now
  pub held : graph.held ≡ filter (staying marks) (range_with_len 0 (length scene.world.now.pairs.recording))
  pub left_open : graph.left_open ≡ (is_some_left_open scene.world.now.pairs.recording || list_any (set_of marks) graph.stuck)
  pub waits : graph.waits ≡ waits_at scene.world.now.reading scene.world.now.pairs.groups scene.world.now.pairs.recording scene.stands.now
  pub at_open : graph.at_open ≡ map (awaited_by scene marks) (range_with_len 0 (length scene.world.now.pairs.recording))
  pub causes : graph.causes ≡ causes_in (walks_by scene marks)
  pub findings : graph.findings ≡ findings_by scene.world.now.pairs.groups scene.world.now.pairs.recording scene.sinks.now

pub graph_is_with : (scene : Scene) (marks : List Bool) (graph : GraphView) → IsScene scene → IsFound scene marks graph → IsGraphWith scene.world.now.reading scene.world.now.pairs.groups scene.world.now.pairs.recording (known_in scene) graph
graph_is_with scene marks graph is found =
    let are_held = staying_held scene marks found.len found.are_free in
    record {
      stuck = found.stuck ∙ ap (stuck_at scene.world.now.pairs.recording) is.stands;
      held = (staying marks, are_held, found.held);
      left_open = (
        staying marks,
        are_held,
        found.left_open
            ∙ ap (λ (ranks : List ℕ). is_some_left_open scene.world.now.pairs.recording || list_any (set_of marks) ranks) found.stuck
            ∙ ap (λ (b : Bool). is_some_left_open scene.world.now.pairs.recording || b) (unfinished_is scene marks is found.len),
      );
      unmet = λ rank.
          ap (λ (waits : Waits). needs_in waits rank)
          (found.waits ∙ ap (waits_at scene.world.now.reading scene.world.now.pairs.groups scene.world.now.pairs.recording) is.stands)
          ∙ waits_are scene.world.now.reading scene.world.now.pairs.groups scene.world.now.pairs.recording (stands_of scene.world.now.reading scene.world.now.pairs.groups scene.world.now.pairs.recording) rank;
      at_open = (
        staying marks,
        are_held,
        λ rank.
            ap (λ (awaits : List (List Awaited)). awaited_in awaits rank) found.at_open ∙ awaited_is scene marks is found.len rank,
      );
      causes = subst (λ (causes : List CauseView). AreCausesBy scene.world.now.reading scene.world.now.pairs.groups scene.world.now.pairs.recording (known_in scene) causes)
          (sym (found.causes ∙ ap causes_in (walks_are scene marks is)))
          (causes_are_by scene.world.now.reading scene.world.now.pairs.groups scene.world.now.pairs.recording (known_in scene) (staying marks) are_held);
      findings = found.findings;
    }
