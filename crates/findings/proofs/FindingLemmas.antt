-- Lists that are made from a range of numbers, one number at a time.
use Rattle.std.proofs.Common.{◌≡◌, ℕ, ◌+◌, ◌-◌, ◌≤◌, List, [], ◌∷◌, ◌++◌, ap, ◌∙◌, append_assoc, append-nil, arith}
use Rattle.std.specs.List.{flat_map, range_with_len}
use Rattle.std.proofs.lemmas.List.Concat.{flat_map-append}
use Rattle.mpigroup.proofs.ListLemmas.{range_more}

-- one number more
range_next : (a n j : ℕ) → a + n ≡ j → range_with_len a (n + 1) ≡ range_with_len a n ++ j ∷ []
range_next a n j e = range_more a n ∙ ap (λ (last : ℕ). range_with_len a n ++ last ∷ []) e

-- one more of the numbers from 1 on
pub from_one : (n : ℕ) → 1 ≤ n → range_with_len 1 (n + 1 - 1) ≡ range_with_len 1 (n - 1) ++ n ∷ []
from_one n least = let e : n + 1 - 1 ≡ n - 1 + 1 = omega arith in rw e (range_next 1 (n - 1) n (omega (arith, least)))

-- what is listed of one number more
pub listed_next : {A : Type 0} (listed : ℕ → List A) (a n j : ℕ) → a + n ≡ j → flat_map listed (range_with_len a (n + 1)) ≡ flat_map listed (range_with_len a n) ++ listed j
listed_next listed a n j e =
    ap (flat_map listed) (range_next a n j e) ∙ flat_map-append listed (range_with_len a n) (j ∷ []) ∙ ap (λ found. flat_map listed (range_with_len a n) ++ found) (append-nil (listed j))

pub one_more : {A : Type 0} (listed : ℕ → List A) (a n j : ℕ) (before so_far later : List A) → so_far ≡ before ++ flat_map listed (range_with_len a n) → later ≡ so_far ++ listed j → a + n ≡ j → later ≡ before ++ flat_map listed (range_with_len a (n + 1))
one_more listed a n j before so_far later h pushed e =
    rw (pushed, h, listed_next listed a n j e) (append_assoc before (flat_map listed (range_with_len a n)) (listed j))
