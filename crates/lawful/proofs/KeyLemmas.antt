-- Two communicators with one number are the same.
use Rattle.std.proofs.Common.{◌≡◌, ℕ, ◌==◌, ◌&&◌, Bool, true, false, List, get_or, refl, sym, ap, ◌∙◌, eqb-true}
use Rattle.std.proofs.lemmas.Bool.{false≢true}
use Rattle.std.proofs.lemmas.List.Quantifiers.{position-Some}
use Rattle.std.proofs.lemmas.Slice.Eq.{bytes_eq-Decides}
use Rattle.std.specs.Str.{bytes_eq}
use Rattle.closing.specs.Keys.{Key, World, Alone, Made, Duplicated, OfGroup, Apart, same_key}
use Rattle.closing.specs.Numbers.{numbered_keys}
use Rattle.lawful.specs.Closed.{OneNumberIsOneCommunicator}

pub and_parts : (a b : Bool) → (a && b) ≡ true → (a ≡ true) × (b ≡ true)
and_parts true b h = (refl, h)
and_parts false b h = absurd (false≢true h)

same_made : (way : Key → ℕ → List ℕ → Key) (a b : Key) (m n : ℕ) (g h : List ℕ) → a ≡ b → (m == n) ≡ true → bytes_eq g h ≡ true → way a m g ≡ way b n h
same_made way a b m n g h keys counts groups =
    ap (λ (key : Key). way key m g) keys ∙ ap (λ (count : ℕ). way b count g) (eqb-true m n counts)
    ∙ ap (λ (group : List ℕ). way b n group) ((bytes_eq-Decides g h).0 groups)

same_group : (way : List ℕ → ℕ → Key) (m n : ℕ) (g h : List ℕ) → bytes_eq g h ≡ true → (m == n) ≡ true → way g m ≡ way h n
same_group way m n g h groups counts =
    ap (λ (group : List ℕ). way group m) ((bytes_eq-Decides g h).0 groups) ∙ ap (λ (count : ℕ). way h count) (eqb-true m n counts)

pub same_key_is_equal : (a b : Key) → same_key a b ≡ true → a ≡ b
same_key_is_equal World World h = refl
same_key_is_equal (Alone rank) (Alone other) h = ap (λ (r : ℕ). Alone r) (eqb-true rank other h)
same_key_is_equal (Made parent count group) (Made other n others) h =
    let first = and_parts (same_key parent other && count == n) (bytes_eq group others) h in
    let keys = and_parts (same_key parent other) (count == n) first.0 in
    same_made Made parent other count n group others (same_key_is_equal parent other keys.0) keys.1 first.1
same_key_is_equal (Duplicated parent count group) (Duplicated other n others) h =
    let first = and_parts (same_key parent other && count == n) (bytes_eq group others) h in
    let keys = and_parts (same_key parent other) (count == n) first.0 in
    same_made Duplicated parent other count n group others (same_key_is_equal parent other keys.0) keys.1 first.1
same_key_is_equal (OfGroup group count) (OfGroup others n) h =
    let both = and_parts (bytes_eq group others) (count == n) h in same_group OfGroup count n group others both.0 both.1
same_key_is_equal (Apart group count) (Apart others n) h =
    let both = and_parts (bytes_eq group others) (count == n) h in same_group Apart count n group others both.0 both.1
same_key_is_equal _ _ h = absurd (false≢true h)

pub one_number_is_one_communicator : OneNumberIsOneCommunicator
one_number_is_one_communicator run key other number is_first is_other =
    let here = position-Some (λ (k : Key). same_key k key) (numbered_keys run) number World is_first in
    let there = position-Some (λ (k : Key). same_key k other) (numbered_keys run) number World is_other in
    sym (same_key_is_equal (get_or (numbered_keys run) number World) key here.1)
    ∙ same_key_is_equal (get_or (numbered_keys run) number World) other there.1
