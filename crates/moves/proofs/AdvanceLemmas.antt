-- A rank that moves on, and states from which none can.
use Rattle.moves.specs.declared.reading.Reading.{Reading}
use Rattle.std.proofs.Common.{◌≡◌, ℕ, ◌+◌, ◌<◌, ◌≢◌, length, get_or, sym, ⊎_elim, arith, get_or-set_same, get_or-set_other}
use Rattle.std.proofs.lemmas.List.{length-set}
use Rattle.std.proofs.lemmas.Bool.{cases_eq}
use Rattle.mpigroup.specs.Groups.{Groups}
use Rattle.callstore.specs.Recordings.{Lists}
use Rattle.moves.specs.Runs.{State, moved, IsReached, NoneCanMove, IsTheEnd, StandsNoLater}
use Rattle.moves.specs.Needs.{can_move}
use Rattle.moves.proofs.RunLemmas.{any_end_is_the_end}
use Rattle.moves.proofs.NeedLemmas.{can_move_is_persistent}

pub moved_later : (s : State) (rank : ℕ) → rank < length s → StandsNoLater s (moved s rank)
moved_later s rank is_rank = record {
  ranks = sym (length-set s rank (get_or s rank 0 + 1));
  stands = λ k.
      ⊎_elim
      (λ (same : k ≡ rank). rw same (rw (get_or-set_same s rank (get_or s rank 0 + 1) 0 is_rank) (omega arith)))
      (λ (other : k ≢ rank). rw (get_or-set_other s rank k (get_or s rank 0 + 1) 0 other) (omega arith))
      (cases_eq k rank);
}

pub stuck_end : (reading : Reading) (groups : Groups) (recording : Lists) (s : State) → IsReached (can_move reading groups recording) (length recording) s → NoneCanMove (can_move reading groups recording) s → IsTheEnd (can_move reading groups recording) (length recording) s
stuck_end reading groups recording s reached stuck =
    any_end_is_the_end (can_move reading groups recording) (length recording) s (can_move_is_persistent reading groups recording) reached stuck
