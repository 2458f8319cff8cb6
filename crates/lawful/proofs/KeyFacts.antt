-- Communicators by their keys: counts of keys, their numbers, and the members of their groups.
use Rattle.std.proofs.Common.{◌≡◌, ℕ, zero, suc, ◌+◌, ◌≤◌, ◌<◌, ◌==◌, ◌||◌, not, Bool, true, false, if◌then◌else◌, Some, List, [], ◌∷◌, ◌++◌, length, take, filter, refl, sym, ap, subst, ◌∙◌, arith, eq-eqb, eqb-true, inl, inr}
use Rattle.std.specs.Prelude.{nat_lt}
use Rattle.std.specs.List.{list_any, position, position_or_len}
use Rattle.std.proofs.lemmas.Bool.{cases_Bool, false≢true, lt-ltb, ltb-true}
use Rattle.std.proofs.lemmas.Option.{none-some}
use Rattle.std.proofs.lemmas.Slice.Eq.{bytes_eq-Decides}
use Rattle.mpicall.specs.declared.limits.TheConstants.{GREATEST_COMM}
use Rattle.mpicall.specs.declared.call.Call.{Call}
use Rattle.callstore.specs.Communicators.{does_make}
use Rattle.pairing.specs.Faults.{is_member, is_fresh_comm}
use Rattle.journals.proofs.GroupLemmas.{in_world}
use Rattle.closing.specs.Keys.{Key, World, Alone, Made, Duplicated, OfGroup, Apart, same_key, group_of_key, has_member, is_key_among, each_once}
use Rattle.closing.specs.Entries.{Run, ranks_of}
use Rattle.closing.specs.Made.{keys_at}
use Rattle.closing.specs.Numbers.{is_named, is_of_call, numbered_keys, number_of, groups_of, preface_keys}
use Rattle.std.specs.List.{flat_map}
use Rattle.lawful.proofs.KeyLemmas.{same_key_is_equal, one_number_is_one_communicator}
use Rattle.lawful.proofs.NameLemmas.{numbered_group}

pub same_key_self : (key : Key) → same_key key key ≡ true
same_key_self World = refl
same_key_self (Alone rank) = eq-eqb rank rank refl
same_key_self (Made parent count group) = rw (same_key_self parent, eq-eqb count count refl, (bytes_eq-Decides group group).1 refl) refl
same_key_self (Duplicated parent count group) = rw (same_key_self parent, eq-eqb count count refl, (bytes_eq-Decides group group).1 refl) refl
same_key_self (OfGroup group count) = rw (eq-eqb count count refl, (bytes_eq-Decides group group).1 refl) refl
same_key_self (Apart group count) = rw (eq-eqb count count refl, (bytes_eq-Decides group group).1 refl) refl

-- ---- Counts ----

abbrev pub one_if : Bool → ℕ
one_if true = 1
one_if false = 0

abbrev pub times : {A : Type 0} → (A → Bool) → List A → ℕ
times test [] = 0
times test (x ∷ xs) = one_if (test x) + times test xs

abbrev pub is : Key → Key → Bool
is key other = same_key other key

pub times_push : {A : Type 0} (test : A → Bool) (xs : List A) (x : A) → times test (xs ++ x ∷ []) ≡ times test xs + one_if (test x)
times_push test [] x = omega arith
times_push test (y ∷ ys) x = omega (arith, times_push test ys x)

times_take : {A : Type 0} (test : A → Bool) (n : ℕ) (xs : List A) → times test (take n xs) ≤ times test xs
times_take test zero xs = omega arith
times_take test (suc n) [] = omega arith
times_take test (suc n) (x ∷ xs) = omega (arith, times_take test n xs)

times_filter : {A : Type 0} (test kept : A → Bool) (xs : List A) → times test (filter kept xs) ≤ times test xs
times_filter test kept [] = omega arith
times_filter test kept (x ∷ xs) =
    elim (cases_Bool (kept x)) [
      | inl passes_it ↦ rw passes_it (omega (arith, times_filter test kept xs))
      | inr fails_it ↦ rw fails_it (omega (arith, times_filter test kept xs))
    ]

-- a key that stands in a list passes what is true of it
pub counts_both : (test : Key → Bool) (key : Key) (keys : List Key) → test key ≡ true → 1 ≤ times (is key) keys → 1 ≤ times test keys
counts_both test key [] passes has = absurd (omega (arith, has))
counts_both test key (other ∷ keys) passes has =
    elim (cases_Bool (same_key other key)) [
      | inl here ↦ rw (same_key_is_equal other key here, passes) (omega arith)
      | inr there ↦ let rest = counts_both test key keys passes (omega (arith, rw there at has)) in omega (arith, rest)
    ]

pub filter_keeps : (kept : Key → Bool) (key : Key) (keys : List Key) → kept key ≡ true → 1 ≤ times (is key) keys → 1 ≤ times (is key) (filter kept keys)
filter_keeps kept key [] passes has = has
filter_keeps kept key (other ∷ keys) passes has =
    elim (cases_Bool (same_key other key)) [
      | inl here ↦ let same = same_key_is_equal other key here in rw (same, passes, same_key_self key) (omega arith)
      | inr there ↦ let rest = filter_keeps kept key keys passes (omega (arith, rw there at has)) in after (kept other) rest
    ]
  where
    after : (b : Bool) → 1 ≤ times (is key) (filter kept keys) → 1 ≤ times (is key) (if b then other ∷ filter kept keys else filter kept keys)
    after true rest = omega (arith, rest)
    after false rest = rest

pub filter_passes : (kept : Key → Bool) (key : Key) (keys : List Key) → 1 ≤ times (is key) (filter kept keys) → kept key ≡ true
filter_passes kept key [] has = absurd (omega (arith, has))
filter_passes kept key (other ∷ keys) has =
    elim (cases_Bool (kept other)) [
      | inl stays ↦ after stays (rw stays at has) (λ rest. filter_passes kept key keys rest)
      | inr goes ↦ filter_passes kept key keys (rw goes at has)
    ]
  where
    after : kept other ≡ true → 1 ≤ times (is key) (other ∷ filter kept keys) → (1 ≤ times (is key) (filter kept keys) → kept key ≡ true) → kept key ≡ true
    after stays stands rest =
        elim (cases_Bool (same_key other key)) [
          | inl here ↦ subst (λ (k : Key). kept k ≡ true) (same_key_is_equal other key here) stays
          | inr there ↦ rest (omega (arith, rw there at stands))
        ]

-- ---- Places ----

pub count_places : {A : Type 0} (test : A → Bool) (xs : List A) → 1 ≤ times test xs → position_or_len test xs < length xs
count_places test [] has = absurd (omega (arith, has))
count_places test (x ∷ xs) has =
    elim (cases_Bool (test x)) [
      | inl passes_it ↦ rw passes_it (omega arith)
      | inr fails_it ↦ let rest = count_places test xs (omega (arith, rw fails_it at has)) in rw fails_it (omega (arith, rest))
    ]

place_counts : {A : Type 0} (test : A → Bool) (xs : List A) → position_or_len test xs < length xs → 1 ≤ times test xs
place_counts test [] within = absurd (omega (arith, within))
place_counts test (x ∷ xs) within =
    elim (cases_Bool (test x)) [
      | inl passes_it ↦ rw passes_it (omega arith)
      | inr fails_it ↦ let rest = place_counts test xs (omega (arith, rw fails_it at within)) in rw fails_it (omega (arith, rest))
    ]

any_counts : {A : Type 0} (test : A → Bool) (xs : List A) → list_any test xs ≡ true → 1 ≤ times test xs
any_counts test [] has = absurd (false≢true has)
any_counts test (x ∷ xs) has =
    elim (cases_Bool (test x)) [
      | inl passes_it ↦ rw passes_it (omega arith)
      | inr fails_it ↦ let rest = any_counts test xs (rw fails_it at has) in rw fails_it (omega (arith, rest))
    ]

-- ---- Numbers ----

pub record Numbered (run : Run) (key : Key) : Type 0 where
  pub number : ℕ
  pub is_number : number_of run key ≡ Some number

pub numbered : (run : Run) (key : Key) → 1 ≤ times (is key) (numbered_keys run) → Numbered run key
numbered run key has =
    record { number = position_or_len (is key) (numbered_keys run); is_number = rw (lt-ltb (position_or_len (is key) (numbered_keys run)) (length (numbered_keys run)) (count_places (is key) (numbered_keys run) has)) refl }

pub counted : (run : Run) (key : Key) (number : ℕ) → number_of run key ≡ Some number → 1 ≤ times (is key) (numbered_keys run)
counted run key number h =
    elim (cases_Bool (nat_lt (position_or_len (is key) (numbered_keys run)) (length (numbered_keys run)))) [
      | inl within ↦ place_counts (is key) (numbered_keys run) (ltb-true (position_or_len (is key) (numbered_keys run)) (length (numbered_keys run)) within)
      | inr past ↦ absurd (none-some number (rw past at h))
    ]

-- the communicators of the head but the world
abbrev numbered_rest : Run → List Key
numbered_rest run = take GREATEST_COMM (each_once [] (filter (is_named run) (flat_map (keys_at run) (ranks_of run))))

pub world_number : (run : Run) → number_of run World ≡ Some 0
world_number run = first (numbered_rest run)
  where
    first : (keys : List Key) → position (is World) (World ∷ keys) ≡ Some 0
    first keys = rw (lt-ltb 0 (suc (length keys)) (omega arith)) refl

-- ---- Each once ----

once_none : (key : Key) (before keys : List Key) → is_key_among key before ≡ true → times (is key) (each_once before keys) ≡ 0
once_none key before [] among = refl
once_none key before (other ∷ keys) among =
    elim (cases_Bool (is_key_among other before)) [
      | inl stood ↦ rw stood (once_none key before keys among)
      | inr new ↦ rw (new, differs new, once_none key (other ∷ before) keys (or_right (same_key other key) (is_key_among key before) among)) refl
    ]
  where
    or_right : (a b : Bool) → b ≡ true → (a || b) ≡ true
    or_right true b h = refl
    or_right false b h = h

    differs : is_key_among other before ≡ false → same_key other key ≡ false
    differs new =
        elim (cases_Bool (same_key other key)) [
          | inl same ↦ absurd (false≢true (sym new ∙ subst (λ (k : Key). is_key_among k before ≡ true) (sym (same_key_is_equal other key same)) among))
          | inr apart ↦ apart
        ]

once_few : (key : Key) (before keys : List Key) → times (is key) (each_once before keys) ≤ 1
once_few key before [] = omega arith
once_few key before (other ∷ keys) =
    elim (cases_Bool (is_key_among other before)) [
      | inl stood ↦ rw stood (once_few key before keys)
      | inr new ↦ rw new (after (same_key other key) refl (once_few key (other ∷ before) keys))
    ]
  where
    after : (b : Bool) → same_key other key ≡ b → times (is key) (each_once (other ∷ before) keys) ≤ 1 → one_if b + times (is key) (each_once (other ∷ before) keys) ≤ 1
    after true same few = let none = once_none key (other ∷ before) keys (rw same refl) in omega (arith, none)
    after false apart few = omega (arith, few)

le_le : (a b c : ℕ) → a ≤ b → b ≤ c → a ≤ c
le_le a b c ab bc = omega (arith, ab, bc)

abbrev is_no_call : Key → Bool
is_no_call key = not (is_of_call key)

kept_once : (key : Key) (kept : Key → Bool) (n : ℕ) (keys : List Key) → times (is key) (filter kept (take n (each_once [] keys))) ≤ 1
kept_once key kept n keys =
    le_le (times (is key) (filter kept (take n (each_once [] keys)))) (times (is key) (take n (each_once [] keys))) 1
    (times_filter (is key) kept (take n (each_once [] keys)))
    (le_le (times (is key) (take n (each_once [] keys))) (times (is key) (each_once [] keys)) 1 (times_take (is key) n (each_once [] keys)) (once_few key [] keys))

-- each communicator of the preface stands there once
pub preface_once : (run : Run) (key : Key) → times (is key) (preface_keys run) ≤ 1
preface_once run key = kept_once key is_no_call GREATEST_COMM (filter (is_named run) (flat_map (keys_at run) (ranks_of run)))

pub of_preface : (run : Run) (key : Key) → 1 ≤ times (is key) (preface_keys run) → (is_of_call key ≡ false) × Numbered run key
of_preface run key has = (
  not_not (is_of_call key) (filter_passes is_no_call key (numbered_keys run) has),
  numbered run key (le_le 1 (times (is key) (preface_keys run)) (times (is key) (numbered_keys run)) has (times_filter (is key) is_no_call (numbered_keys run))),
)
  where
    not_not : (b : Bool) → not b ≡ true → b ≡ false
    not_not true h = absurd (false≢true h)
    not_not false h = refl

pub in_preface : (run : Run) (key : Key) (number : ℕ) → is_of_call key ≡ false → number_of run key ≡ Some number → 1 ≤ times (is key) (preface_keys run)
in_preface run key number no_call h =
    filter_keeps is_no_call key (numbered_keys run) (rw no_call refl) (counted run key number h)

-- ---- Members ----

pub member_is : (run : Run) (rank : ℕ) (key : Key) (number : ℕ) → number_of run key ≡ Some number → has_member (length run) rank key ≡ true → is_member (groups_of run) rank number ≡ true
member_is run rank key number h has =
    let group = group_of_key (length run) key in
    let within = count_places (λ (member : ℕ). member == rank) group (any_counts (λ (member : ℕ). member == rank) group has) in
    rw (numbered_group run key number h, lt-ltb (position_or_len (λ (member : ℕ). member == rank) group) (length group) within) refl

pub in_the_world : (run : Run) (rank : ℕ) → rank < length run → has_member (length run) rank World ≡ true
in_the_world run rank within = in_world (length run) rank within

other_number : (run : Run) (key : Key) (number : ℕ) → number_of run key ≡ Some number → same_key key World ≡ false → (number == 0) ≡ false
other_number run key number h other =
    elim (cases_Bool (number == 0)) [
      | inl zeroth ↦ absurd (false≢true (sym other ∙ world (eqb-true number 0 zeroth)))
      | inr apart ↦ apart
    ]
  where
    world : number ≡ 0 → same_key key World ≡ true
    world zeroth =
        let same : World ≡ key = sym (one_number_is_one_communicator run key World 0 (h ∙ ap (λ (n : ℕ). Some n) zeroth) (world_number run)) in
        subst (λ (k : Key). same_key k World ≡ true) same refl

-- a number that no call made so far is one that may be made
pub fresh : (run : Run) (rank : ℕ) (calls : List Call) (key : Key) (number : ℕ) → number_of run key ≡ Some number → same_key key World ≡ false → has_member (length run) rank key ≡ true → list_any (does_make number) calls ≡ false → is_fresh_comm (groups_of run) rank calls number ≡ true
fresh run rank calls key number h other has none =
    rw (other_number run key number h other, member_is run rank key number h has, none) refl
