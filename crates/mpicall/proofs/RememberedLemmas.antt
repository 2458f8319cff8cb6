-- Lines that are the same by their ends.
use Rattle.std.proofs.Common.{◌≡◌, ℕ, ◌+◌, ◌-◌, ◌≤◌, List, length, take, drop, ◌++◌, sym, ap, ap₂, ◌∙◌, arith}
use Rattle.std.proofs.lemmas.List.{drop-drop, take-append-drop}

behind : (xs : List ℕ) (n : ℕ) → 8 ≤ n → n ≤ 16 → drop 8 xs ≡ drop (16 - n) (drop (n - 8) xs)
behind xs n least most =
    let is : 8 ≡ n - 8 + (16 - n) = omega (arith, least, most) in
    ap (λ (k : ℕ). drop k xs) is ∙ sym (drop-drop (16 - n) (n - 8) xs)

-- the first eight and the last eight of up to sixteen are all
pub same_ends : (xs ys : List ℕ) → length xs ≡ length ys → 8 ≤ length xs → length xs ≤ 16 → take 8 xs ≡ take 8 ys → drop (length xs - 8) xs ≡ drop (length ys - 8) ys → xs ≡ ys
same_ends xs ys long least most front back =
    let last : drop (length xs - 8) xs ≡ drop (length xs - 8) ys = back ∙ ap (λ (n : ℕ). drop (n - 8) ys) (sym long) in
    let rest : drop 8 xs ≡ drop 8 ys = behind xs (length xs) least most ∙ ap (drop (16 - length xs)) last ∙ sym (behind ys (length xs) least most) in
    sym (take-append-drop 8 xs) ∙ ap₂ ◌++◌ front rest ∙ take-append-drop 8 ys
