-- States from which no rank can move: the stands are the least of them.
use Rattle.moves.specs.declared.reading.Reading.{Reading}
use Rattle.std.proofs.Common.{◌≡◌, ℕ, ◌<◌, ◌≤◌, Bool, true, false, not, ◌&&◌, List, [], ◌∷◌, length, map, refl, ⊎_elim, arith}
use Rattle.std.specs.Prelude.{slice_index}
use Rattle.std.specs.List.{slice_get, filter, list_all, range_with_len}
use Rattle.std.proofs.lemmas.List.{get_or_past}
use Rattle.std.proofs.lemmas.List.FromFn.{length-map-range_with_len, get_or-map-range_with_len}
use Rattle.std.proofs.lemmas.Bool.{cases_Bool}
use Rattle.mpigroup.specs.Groups.{Groups}
use Rattle.callstore.specs.Recordings.{Lists, calls_of}
use Rattle.moves.specs.declared.need.Need.{Need}
use Rattle.moves.specs.Runs.{State, NoneCanMove, StandsNoLater}
use Rattle.moves.specs.Needs.{needs_of, is_met, may_pass, can_move}
use Rattle.moves.specs.Stands.{stands_of}
use Rattle.moves.proofs.RunLemmas.{reached_below, reached_ranks}
use Rattle.moves.proofs.NeedLemmas.{can_move_is_persistent}
use Rattle.moves.proofs.StandLemmas.{every_maximal_run_ends_at_the_stands}

-- ---- States by rank ----

abbrev pub state_of : ℕ → (ℕ → ℕ) → State
state_of ranks stand = map stand (range_with_len 0 ranks)

pub state_ranks : (ranks : ℕ) (stand : ℕ → ℕ) → length (state_of ranks stand) ≡ ranks
state_ranks ranks stand = length-map-range_with_len stand 0 ranks

pub state_at : (ranks : ℕ) (stand : ℕ → ℕ) (rank : ℕ) → rank < ranks → slice_index (state_of ranks stand) rank ≡ stand rank
state_at ranks stand rank within = get_or-map-range_with_len stand 0 ranks rank rank 0 within (omega arith)

pub state_past : (ranks : ℕ) (stand : ℕ → ℕ) (rank : ℕ) → ranks ≤ rank → slice_index (state_of ranks stand) rank ≡ 0
state_past ranks stand rank past = get_or_past (state_of ranks stand) rank 0 (omega (arith, past, state_ranks ranks stand))

-- ---- The stands ----

module _ (reading : Reading) (groups : Groups) (recording : Lists) where
  pub stands_ranks : length (stands_of reading groups recording) ≡ length recording
  stands_ranks = reached_ranks (can_move reading groups recording) (length recording) (stands_of reading groups recording) (every_maximal_run_ends_at_the_stands reading groups recording).1.is_reached

  pub stands_stuck : (rank : ℕ) → rank < length recording → can_move reading groups recording (stands_of reading groups recording) rank ≡ false
  stands_stuck rank is_rank = (every_maximal_run_ends_at_the_stands reading groups recording).1.is_stuck rank (omega (arith, is_rank, stands_ranks))

  pub stands_past : (rank : ℕ) → length recording ≤ rank → slice_index (stands_of reading groups recording) rank ≡ 0
  stands_past rank past = get_or_past (stands_of reading groups recording) rank 0 (omega (arith, past, stands_ranks))

  pub least : (s : State) → length s ≡ length recording → NoneCanMove (can_move reading groups recording) s → StandsNoLater (stands_of reading groups recording) s
  least s ranks stuck =
      reached_below (can_move reading groups recording) (length recording) (stands_of reading groups recording) s (can_move_is_persistent reading groups recording) stuck ranks (every_maximal_run_ends_at_the_stands reading groups recording).1.is_reached

  -- whether a rank that stands at the place can move
  abbrev pub can_at : State → ℕ → ℕ → Bool
  can_at stands rank place = may_pass (slice_get (calls_of recording rank) place) && list_all (is_met stands) (needs_of reading groups recording rank place)

pub both_same : (a b c d : Bool) → a ≡ c → b ≡ d → (a && b) ≡ (c && d)
both_same a b c d p q = rw (p, q) refl

-- ---- What is lacked ----

abbrev pub is_none_of : {A : Type 0} → List A → Bool
is_none_of [] = true
is_none_of (x ∷ xs) = false

pub none_mapped : {A B : Type 0} (f : A → B) (xs : List A) → is_none_of (map f xs) ≡ is_none_of xs
none_mapped f [] = refl
none_mapped f (x ∷ xs) = refl

-- all needs are met exactly if none is lacked
pub met_all : (stands : State) (needs : List Need) → list_all (is_met stands) needs ≡ is_none_of (filter (λ need. not (is_met stands need)) needs)
met_all stands [] = refl
met_all stands (need ∷ rest) =
    ⊎_elim
    (λ (is : is_met stands need ≡ true). rw is (met_all stands rest))
    (λ (no : is_met stands need ≡ false). rw no refl)
    (cases_Bool (is_met stands need))
