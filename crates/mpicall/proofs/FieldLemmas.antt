-- How the first space cuts a body into its first field and the rest.
use Rattle.std.proofs.Common.{◌≡◌, ◌==◌, Option, ℕ, ◌+◌, ◌-◌, ◌<◌, ◌≤◌, Bool, true, false, List, [], ◌∷◌, length, take, drop, refl, subst, arith, rules, Some, None, cond, ltb, length-drop, get_or}
use Rattle.std.specs.List.{slice_split, position, position_or_len}
use Rattle.mpicall.specs.Lines.{split_fields}
use Rattle.mpicall.specs.inner.Lines.{is_empty}
use Rattle.std.proofs.lemmas.Bool.{lt-ltb}
use Rattle.std.proofs.lemmas.List.{take_all, get_or-take}
use Rattle.std.proofs.lemmas.List.Quantifiers.{position-Some}
use Rattle.std.proofs.lemmas.List.Sums.{position_or_len_is, fails_before_first}
use Rattle.std.proofs.lemmas.Bool.Decides.{nat_tests}
use Rattle.std.proofs.lemmas.List.Elements.{All-from_get_or}
use Rattle.std.proofs.lemmas.List.Splits.{slice_split_first, slice_split_none}

pub split_at_first_space : (p : ℕ → Bool) (xs : List ℕ) (at : ℕ) → position p xs ≡ Some at → slice_split p xs ≡ take at xs ∷ slice_split p (take (length xs - (at + 1)) (drop (at + 1) xs))
split_at_first_space p xs at is =
    let found = position-Some p xs at 0 is in
    let place : position_or_len p xs ≡ at = position_or_len_is p xs at 0 (omega (arith, found.0)) found.2 (λ _. found.1) in
    let within : position_or_len p xs < length xs = rw place found.0 in
    let rest : take (length xs - (at + 1)) (drop (at + 1) xs) ≡ drop (at + 1) xs =
    take_all (length xs - (at + 1)) (drop (at + 1) xs) (omega (arith, length-drop (at + 1) xs)) in
    let cut : slice_split p xs ≡ take (position_or_len p xs) xs ∷ slice_split p (drop (position_or_len p xs + 1) xs) =
    slice_split_first p xs 0 within in
    rw rest (rw place at cut)

pub none_passes : (b : Bool) (i n : ℕ) → b ≡ ltb i n → cond b (Some i) None ≡ None → n ≤ i
none_passes true i n e is = cc
none_passes false i n e is = search (rules, nat_tests)

pub split_without_space : (p : ℕ → Bool) (xs : List ℕ) → position p xs ≡ None → slice_split p xs ≡ xs ∷ []
split_without_space p xs is =
    let none : length xs ≤ position_or_len p xs = none_passes (ltb (position_or_len p xs) (length xs)) (position_or_len p xs) (length xs) refl is in
    slice_split_none p xs (All-from_get_or (λ x. p x ≡ false) xs 0 (λ k h. fails_before_first p xs k 0 (omega arith)))

split_as : (p : ℕ → Bool) (xs : List ℕ) (o : Option ℕ) → position p xs ≡ o → is_empty (slice_split p xs) ≡ false
split_as p xs (Some at) e = rw (split_at_first_space p xs at e) refl
split_as p xs None e = rw (split_without_space p xs e) refl

-- some bytes have a field at least
pub some_field : (bytes : List ℕ) → is_empty (split_fields bytes) ≡ false
some_field bytes = split_as (λ byte. byte == 32) bytes (position (λ byte. byte == 32) bytes) refl

pub ruleset field_steps = (split_at_first_space, split_without_space)

-- a word at the front, after which a space stands, is the first field
word_place : (word bytes : List ℕ) → position (λ byte. byte == 32) word ≡ None → take (length word) bytes ≡ word → length word < length bytes → get_or bytes (length word) 0 ≡ 32 → position (λ byte. byte == 32) bytes ≡ Some (length word)
word_place word bytes none front less space =
    let all : length word ≤ position_or_len (λ byte. byte == 32) word = none_passes (ltb (position_or_len (λ byte. byte == 32) word) (length word)) (position_or_len (λ byte. byte == 32) word) (length word) refl none in
    let first : position_or_len (λ byte. byte == 32) bytes ≡ length word =
    position_or_len_is (λ byte. byte == 32) bytes (length word) 0 (omega (arith, less))
    (λ k below. subst (λ (c : ℕ). (c == 32) ≡ false) (get_or-take (length word) bytes k 0 below) (rw front (fails_before_first (λ byte. byte == 32) word k 0 (omega (arith, all, below)))))
    (λ _. rw space refl) in
    rw first (rw (lt-ltb (length word) (length bytes) less) refl)

pub word_first : (word bytes : List ℕ) → position (λ byte. byte == 32) word ≡ None → take (length word) bytes ≡ word → length word < length bytes → get_or bytes (length word) 0 ≡ 32 → split_fields bytes ≡ word ∷ split_fields (take (length bytes - (length word + 1)) (drop (length word + 1) bytes))
word_first word bytes none front less space =
    let cut = split_at_first_space (λ byte. byte == 32) bytes (length word) (word_place word bytes none front less space) in
    rw front at cut
