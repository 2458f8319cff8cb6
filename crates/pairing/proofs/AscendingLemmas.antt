-- Numbers that ascend are distinct.
use Rattle.std.proofs.Common.{◌≡◌, ℕ, ◌<◌, ◌≤◌, true, false, ltb, List, [], ◌∷◌, refl, arith}
use Rattle.std.proofs.lemmas.Bool.{ltb-true, and_parts, and_from, or_from, not_from_false, ne_eqb}
use Rattle.callstore.specs.Requests.{is_among}
use Rattle.pairing.specs.Faults.{are_distinct}
use Rattle.pairing.specs.inner.Ascending.{ascend_from}

-- what isn't above the least is not among them
not_among : (number least : ℕ) (numbers : List ℕ) → number ≤ least → ascend_from least numbers ≡ true → is_among number numbers ≡ false
not_among number least [] low ascend = refl
not_among number least (other ∷ others) low ascend =
    let parts = and_parts (ltb least other) (ascend_from other others) ascend in
    let above : least < other = ltb-true least other parts.0 in
    or_from _ _ (ne_eqb other number (λ same. omega arith))
    (not_among number other others (omega arith) parts.1)

pub ascending : (least : ℕ) (numbers : List ℕ) → ascend_from least numbers ≡ true → are_distinct (least ∷ numbers) ≡ true
ascending least [] ascend = refl
ascending least (other ∷ others) ascend =
    let parts = and_parts (ltb least other) (ascend_from other others) ascend in
    and_from _ _ (not_from_false _ (not_among least least (other ∷ others) (omega arith) ascend)) (ascending other others parts.1)
