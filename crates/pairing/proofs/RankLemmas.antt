-- Ranks of a recording.
use Rattle.std.proofs.Common.{◌≡◌, ℕ, ◌<◌, ◌≤◌, length, refl, ⊎_elim, arith}
use Rattle.std.proofs.lemmas.Option.{slice_get_past}
use Rattle.std.proofs.lemmas.Bool.{cases_lt}
use Rattle.callstore.specs.Recordings.{Lists, calls_of}

-- who has a call is one of them
pub calls_past : (recording : Lists) (rank place : ℕ) → place < length (calls_of recording rank) → rank < length recording
calls_past recording rank place within =
    ⊎_elim
    (λ (is_rank : rank < length recording). is_rank)
    (λ (past : length recording ≤ rank).
    let none : length (calls_of recording rank) ≡ 0 = rw (slice_get_past recording rank past) refl in
    absurd (omega arith))
    (cases_lt rank (length recording))
