-- Where each rank stands at its Finalize no list was left open, so what is reported free was called so.
use Rattle.std.proofs.Common.{◌≡◌, ℕ, zero, suc, ◌+◌, ◌<◌, Bool, true, false, not, length, refl, sym, ◌∙◌, ⊎_elim, arith}
use Rattle.std.specs.List.{list_any, range_with_len}
use Rattle.std.proofs.lemmas.Bool.{cases_Bool, false≢true, and_parts, not-true}
use Rattle.mpigroup.specs.Groups.{Groups}
use Rattle.callstore.specs.Recordings.{Lists, IsClosed}
use Rattle.moves.specs.Stands.{stands_of, is_at_end}
use Rattle.moves.specs.declared.reading.Reading.{Reading}
use Rattle.pairing.specs.LeftOpen.{is_left_open}
use Rattle.waitgraph.specs.PendingNeeds.{is_at_open}
use Rattle.waitgraph.specs.PendingVerdicts.{is_at_finalize}
use Rattle.waitgraph.proofs.PendingVerdictLemmas.{opened_at_open}
use Rattle.lawful.specs.Free.{IsNoneLeftOpen}

-- nothing passes where nothing in the range does
none_passes : (p : ℕ → Bool) (n a : ℕ) → ((i : ℕ) → i < a + n → p i ≡ false) → list_any p (range_with_len a n) ≡ false
none_passes p zero a none = refl
none_passes p (suc n) a none = rw (none a (omega arith)) (none_passes p n (a + 1) (λ i less. none i (omega (arith, less))))

module _ (reading : Reading) (groups : Groups) (recording : Lists) (closed : IsClosed recording) where
  pub none_left_open : ((rank : ℕ) → rank < length recording → is_at_finalize reading groups recording rank ≡ true) → IsNoneLeftOpen recording
  none_left_open at = none_passes (is_left_open recording) (length recording) 0 (λ rank less. closes rank (at rank (omega (arith, less))))
    where
      closes : (rank : ℕ) → is_at_finalize reading groups recording rank ≡ true → is_left_open recording rank ≡ false
      closes rank at =
          let both = and_parts (is_at_end recording (stands_of reading groups recording) rank) (not (is_at_open recording (stands_of reading groups recording) rank)) at in
          ⊎_elim
          (λ (is : is_left_open recording rank ≡ true). absurd (false≢true (sym (not-true (is_at_open recording (stands_of reading groups recording) rank) both.1) ∙ opened_at_open reading groups recording closed rank both.0 is)))
          (λ (no : is_left_open recording rank ≡ false). no)
          (cases_Bool (is_left_open recording rank))
