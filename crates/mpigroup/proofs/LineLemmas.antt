-- How the first line feed cuts a text into its first line and the rest.
use Rattle.std.proofs.Common.{◌≡◌, ℕ, ◌+◌, ◌<◌, ◌≤◌, zero, suc, Bool, true, false, List, [], ◌∷◌, length, get_or, take, drop, add-one, eqb, refl, arith, Some, None, ltb}
use Rattle.std.specs.List.{position, position_or_len}
use Rattle.std.proofs.lemmas.List.Quantifiers.{position-Some}
use Rattle.std.proofs.lemmas.List.Sums.{fails_before_first}
use Rattle.std.proofs.lemmas.List.{take_all, drop_all}
use Rattle.mpicall.proofs.FieldLemmas.{none_passes}
use Rattle.mpicall.specs.Lines.{lines_of}

-- by the place of the first line feed
lines_cut : (xs : List ℕ) (at : ℕ) → at < length xs → eqb (get_or xs at 0) 10 ≡ true → ((k : ℕ) → k < at → eqb (get_or xs k 0) 10 ≡ false) → lines_of xs ≡ take (suc at) xs ∷ lines_of (drop (suc at) xs)
lines_cut [] at h found before = absurd (omega arith)
lines_cut (x ∷ xs) zero h found before = rw found refl
lines_cut (x ∷ xs) (suc at) h found before =
    let first : eqb x 10 ≡ false = before 0 (omega arith) in
    rw (first, lines_cut xs at (omega arith) found (λ k less. before (suc k) (omega arith))) refl

-- a text without a line feed is one line
lines_whole : (x : ℕ) (xs : List ℕ) → ((k : ℕ) → k < length (x ∷ xs) → eqb (get_or (x ∷ xs) k 0) 10 ≡ false) → lines_of (x ∷ xs) ≡ (x ∷ xs) ∷ []
lines_whole x [] none = rw (none 0 (omega arith)) refl
lines_whole x (y ∷ ys) none =
    let first : eqb x 10 ≡ false = none 0 (omega arith) in
    rw (first, lines_whole y ys (λ k less. none (suc k) (omega arith))) refl

pub lines_at_feed : (xs : List ℕ) (at : ℕ) → position (λ byte. eqb byte 10) xs ≡ Some at → lines_of xs ≡ take (at + 1) xs ∷ lines_of (drop (at + 1) xs)
lines_at_feed xs at is =
    let found = position-Some (λ byte. eqb byte 10) xs at 0 is in
    rw add-one (lines_cut xs at found.0 found.1 found.2)

pub lines_without_feed : (xs : List ℕ) → 0 < length xs → position (λ byte. eqb byte 10) xs ≡ None → lines_of xs ≡ take (length xs) xs ∷ lines_of (drop (length xs) xs)
lines_without_feed [] some is = absurd (omega arith)
lines_without_feed (x ∷ xs) some is =
    let p : ℕ → Bool = λ byte. eqb byte 10 in
    let none : length (x ∷ xs) ≤ position_or_len p (x ∷ xs) = none_passes (ltb (position_or_len p (x ∷ xs)) (length (x ∷ xs))) (position_or_len p (x ∷ xs)) (length (x ∷ xs)) refl is in
    rw (take_all (length (x ∷ xs)) (x ∷ xs) (omega arith), drop_all (length (x ∷ xs)) (x ∷ xs) (omega arith)) (lines_whole x xs (λ k h. fails_before_first p (x ∷ xs) k 0 (omega arith)))

pub ruleset line_steps = (lines_at_feed, lines_without_feed)
