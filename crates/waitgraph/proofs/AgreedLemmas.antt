-- Ranks that never get past a call which waits for a wave that disagrees: how they are moved on, and where they end up.
use Rattle.std.proofs.Common.{◌≡◌, ◌≢◌, ℕ, ◌+◌, ◌-◌, ◌<◌, ◌≤◌, Bool, true, false, not, ◌&&◌, List, [], ◌∷◌, length, map, refl, sym, ap, subst, ◌∙◌, ⊎_elim, arith}
use Rattle.std.specs.Prelude.{slice_index, ◌==◌}
use Rattle.std.specs.List.{filter, list_all}
use Rattle.std.proofs.lemmas.Bool.{cases_Bool, cases_eq, and_parts, and_from}
use Rattle.std.proofs.Math.Dec.{eqb-suc-zero}
use Rattle.moves.specs.Needs.{can_move, is_met}
use Rattle.moves.specs.Runs.{State, start, moved, IsPersistent, IsReached, NoneCanMove, IsTheEnd, total}
use Rattle.moves.specs.Stands.{call_count}
use Rattle.moves.specs.declared.need.Need.{Need}
use Rattle.moves.specs.declared.world.World.{World}
use Rattle.moves.proofs.NeedLemmas.{can_move_is_persistent}
use Rattle.moves.proofs.RunLemmas.{any_end_is_the_end, steps_by_more, reached_step, reached_ranks, total_most, total_moved}
use Rattle.moves.proofs.StandLemmas.{reached_within}
use Rattle.waitgraph.specs.Disagreements.{is_barred}
use Rattle.waitgraph.specs.inner.Stuck.{is_unmet}
use Rattle.waitgraph.specs.inner.Agreed.{rule_of, Moved, MovedOn, SweptOn}

pub persistent : (w : World) → IsPersistent (rule_of w)
persistent w s t rank later same can =
    let both = and_parts (not (is_barred w.pairs.groups w.pairs.recording rank (slice_index s rank))) (can_move w.reading w.pairs.groups w.pairs.recording s rank) can in
    and_from (not (is_barred w.pairs.groups w.pairs.recording rank (slice_index t rank))) (can_move w.reading w.pairs.groups w.pairs.recording t rank)
    (subst (λ (k : ℕ). not (is_barred w.pairs.groups w.pairs.recording rank k) ≡ true) same both.0)
    (can_move_is_persistent w.reading w.pairs.groups w.pairs.recording s t rank later same both.1)

-- what is reached so is reached
pub reached_too : (w : World) (ranks : ℕ) (s : State) → IsReached (rule_of w) ranks s → IsReached (can_move w.reading w.pairs.groups w.pairs.recording) ranks s
reached_too w ranks s reached = record {
  states = reached.states;
  is_run = steps_by_more (rule_of w) (can_move w.reading w.pairs.groups w.pairs.recording)
      (λ t rank can. (and_parts (not (is_barred w.pairs.groups w.pairs.recording rank (slice_index t rank))) (can_move w.reading w.pairs.groups w.pairs.recording t rank) can).1)
      (start ranks) reached.states reached.is_run;
  ends_there = reached.ends_there;
}

pub within : (w : World) (s : State) → IsReached (rule_of w) (length w.pairs.recording) s → total s ≤ call_count w.pairs.recording
within w s reached =
    let below = reached_within w.reading w.pairs.groups w.pairs.recording s (reached_too w (length w.pairs.recording) s reached) in
    total_most s (map length w.pairs.recording) below.ranks (λ k. below.stands k)

pub has_ranks : (w : World) (s : State) → IsReached (rule_of w) (length w.pairs.recording) s → length s ≡ length w.pairs.recording
has_ranks w s reached = reached_ranks (rule_of w) (length w.pairs.recording) s reached

pub step_reached : (w : World) (s : State) (rank : ℕ) → rank < length w.pairs.recording → rule_of w s rank ≡ true → IsReached (rule_of w) (length w.pairs.recording) s → IsReached (rule_of w) (length w.pairs.recording) (moved s rank)
step_reached w s rank is_rank can reached =
    reached_step (rule_of w) (length w.pairs.recording) s (moved s rank) reached
    (record { rank = rank; is_rank = omega (arith, is_rank, has_ranks w s reached); can_move = can; moves_on = refl })

-- no move yet, and one more
pub none_moved : (w : World) (s : State) → IsReached (rule_of w) (length w.pairs.recording) s → Moved w s s false
none_moved w s reached = record { reached = reached; same = λ no. refl; some = λ yes. cc }

no_less : (w : World) (old s : State) (more : Bool) → Moved w old s more → total old ≤ total s
no_less w old s more so_far =
    ⊎_elim
    (λ (some : more ≡ true). omega (arith, so_far.some some))
    (λ (none : more ≡ false). omega (arith, ap total (so_far.same none)))
    (cases_Bool more)

pub one_moved : (w : World) (old s : State) (rank : ℕ) (more : Bool) → rank < length w.pairs.recording → rule_of w s rank ≡ true → Moved w old s more → Moved w old (moved s rank) true
one_moved w old s rank more is_rank can so_far = record {
  reached = step_reached w s rank is_rank can so_far.reached;
  same = λ no. cc;
  some = λ yes. omega (arith, no_less w old s more so_far, total_moved s rank (omega (arith, is_rank, has_ranks w s so_far.reached)));
}

pub moved_more : (w : World) (s : State) (rank : ℕ) → rank < length w.pairs.recording → IsReached (rule_of w) (length w.pairs.recording) s → total s < total (moved s rank)
moved_more w s rank is_rank reached = omega (arith, total_moved s rank (omega (arith, is_rank, has_ranks w s reached)))

-- the moves after others
pub both_moved : (w : World) (old s t : State) (more : Bool) → Moved w old s more → Moved w s t true → Moved w old t true
both_moved w old s t more so_far last = record {
  reached = last.reached;
  same = λ no. cc;
  some = λ yes. omega (arith, no_less w old s more so_far, last.some refl);
}

-- fewer calls are left
pub less_left : (w : World) (s t : State) → IsReached (rule_of w) (length w.pairs.recording) t → total s < total t → call_count w.pairs.recording - total t < call_count w.pairs.recording - total s
less_left w s t reached more = omega (arith, within w t reached, more)

-- where none can move on, every run ends
pub end_agreed : (w : World) (s : State) → IsReached (rule_of w) (length w.pairs.recording) s → ((rank : ℕ) → rank < length w.pairs.recording → rule_of w s rank ≡ false) → IsTheEnd (rule_of w) (length w.pairs.recording) s
end_agreed w s reached none =
    any_end_is_the_end (rule_of w) (length w.pairs.recording) s (persistent w) reached
    (λ rank is_rank. none rank (omega (arith, is_rank, has_ranks w s reached)))

-- none is unmet where all are met
pub none_unmet : (stands : State) (needs : List Need) → (length (filter (is_unmet stands) needs) == 0) ≡ list_all (is_met stands) needs
none_unmet stands [] = refl
none_unmet stands (need ∷ needs) =
    ⊎_elim
    (λ (met : is_met stands need ≡ true). rw met (none_unmet stands needs))
    (λ (unmet : is_met stands need ≡ false). rw unmet (eqb-suc-zero (length (filter (is_unmet stands) needs))))
    (cases_Bool (is_met stands need))

-- a sweep over the ranks: the first rank has moved on, and so many have
pub none_swept : (w : World) (s : State) → IsReached (rule_of w) (length w.pairs.recording) s → SweptOn w 0 s s false
none_swept w s reached = record { moved = none_moved w s reached; none = λ no rank less. absurd (omega (arith, less)) }

pub one_swept : (w : World) (old s t : State) (rank : ℕ) (more : Bool) → SweptOn w rank old s more → MovedOn w rank s t true → SweptOn w (rank + 1) old t true
one_swept w old s t rank more so_far last = record { moved = both_moved w old s t more so_far.moved last.moved; none = λ no. cc }

pub passed_swept : (w : World) (old s t : State) (rank : ℕ) (more : Bool) → SweptOn w rank old s more → MovedOn w rank s t false → SweptOn w (rank + 1) old t more
passed_swept w old s t rank more so_far last =
    subst (λ (u : State). SweptOn w (rank + 1) old u more) (sym (last.moved.same refl))
    (record {
      moved = so_far.moved;
      none = λ no k less.
          ⊎_elim
          (λ (same : k ≡ rank). subst (λ (x : ℕ). rule_of w s x ≡ false) (sym same) (subst (λ (u : State). rule_of w u rank ≡ false) (last.moved.same refl) last.cannot))
          (λ (differs : k ≢ rank). so_far.none no k (omega (arith, less, differs)))
          (cases_eq k rank);
    })
