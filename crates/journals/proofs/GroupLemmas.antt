-- What the marks of ranks say of a group.
use Rattle.std.proofs.Common.{◌≡◌, ℕ, zero, suc, ◌+◌, ◌<◌, ◌≤◌, ◌==◌, Bool, true, false, ◌&&◌, ◌||◌, not, if◌then◌else◌, List, [], ◌∷◌, length, get_or, set, sym, ap, ◌∙◌, refl, arith, inl, inr, get_or-set_same, get_or-set_other}
use Rattle.std.specs.List.{list_all, range_with_len}
use Rattle.std.proofs.lemmas.Bool.{eq-eqb, ne_eqb, cases_eq, cases_lt, true≢false, false≢true}
use Rattle.std.proofs.lemmas.List.{get_or_past}
use Rattle.std.specs.Str.{bytes_eq}
use Rattle.journals.specs.Known.{is_among, are_distinct}
use Rattle.journals.specs.inner.Naturals.{naturals, each_once, AreNatural, AreMembers}
use Rattle.journals.specs.inner.Marks.{is_in_parent, is_in_both}
use Rattle.journals.specs.declared.field.Field.{Field}
use Rattle.journals.specs.declared.field.Field.TheVariants.{Natural, Signed, Null, Any, Undefined}
use Rattle.journals.specs.declared.group.Mark.{Mark}
use Rattle.journals.specs.declared.group.Mark.TheVariants.{Outside, InParent, InBoth}
use Rattle.journals.proofs.Tests.{once_more, all_but_more, or_true, and_true}
use Rattle.journals.proofs.NoteSteps.{same_function}

-- ---- Each once ----

all_but : (can : ℕ → Bool) (x : ℕ) (xs : List ℕ) → list_all (λ y. can y && not (y == x)) xs ≡ (list_all can xs && not (is_among x xs))
all_but can x [] = refl
all_but can x (y ∷ ys) =
    ap (λ (b : Bool). (can y && not (y == x)) && b) (all_but can x ys)
    ∙ all_but_more (can y) (y == x) (list_all can ys) (is_among x ys)

-- each number passes once where all pass and none stands twice
pub each_once_is : (can : ℕ → Bool) (xs : List ℕ) → each_once can xs ≡ (are_distinct xs && list_all can xs)
each_once_is can [] = refl
each_once_is can (x ∷ xs) =
    ap (λ (b : Bool). can x && b) (each_once_is (λ y. can y && not (y == x)) xs ∙ ap (λ (b : Bool). are_distinct xs && b) (all_but can x xs))
    ∙ once_more (can x) (are_distinct xs) (list_all can xs) (not (is_among x xs))

pub once_same : (f g : ℕ → Bool) (xs : List ℕ) → ((x : ℕ) → f x ≡ g x) → each_once f xs ≡ each_once g xs
once_same f g xs same = ap (λ (h : ℕ → Bool). each_once h xs) (same_function f g same)

-- ---- Marks ----

pub mark_set : (items : List Mark) (rank other : ℕ) (mark : Mark) → rank < length items → get_or (set items rank mark) other Outside ≡ (if other == rank then mark else get_or items other Outside)
mark_set items rank other mark within =
    elim (cases_eq other rank) [
      | inl same ↦ rw (eq-eqb other rank same, same) (get_or-set_same items rank mark Outside within)
      | inr apart ↦ rw (ne_eqb other rank apart) (get_or-set_other items rank other mark Outside apart)
    ]

both_if : (b : Bool) (mark : Mark) → is_in_both (if b then InBoth else mark) ≡ (b || is_in_both mark)
both_if true mark = refl
both_if false mark = refl

parent_if : (b : Bool) (mark : Mark) → is_in_parent (if b then InBoth else mark) ≡ (is_in_parent mark && not b)
parent_if true Outside = refl
parent_if true InParent = refl
parent_if true InBoth = refl
parent_if false Outside = refl
parent_if false InParent = refl
parent_if false InBoth = refl

-- a member that is marked in both can't be one again
pub once_step : (items : List Mark) (rank : ℕ) (ranks : List ℕ) → rank < length items → is_in_parent (get_or items rank Outside) ≡ true → each_once (λ it. is_in_parent (get_or (set items rank InBoth) it Outside)) ranks ≡ each_once (λ it. is_in_parent (get_or items it Outside)) (rank ∷ ranks)
once_step items rank ranks within passes =
    once_same _ (λ it. is_in_parent (get_or items it Outside) && not (it == rank)) ranks (λ it. ap is_in_parent (mark_set items rank it InBoth within) ∙ parent_if (it == rank) (get_or items it Outside))
    ∙ sym (ap (λ (b : Bool). b && each_once (λ it. is_in_parent (get_or items it Outside) && not (it == rank)) ranks) passes)

eq_comm : (a b : ℕ) → (a == b) ≡ (b == a)
eq_comm a b =
    elim (cases_eq a b) [
      | inl same ↦ eq-eqb a b same ∙ sym (eq-eqb b a (sym same))
      | inr apart ↦ ne_eqb a b apart ∙ sym (ne_eqb b a (λ same. apart (sym same)))
    ]

both_more : (a b m : Bool) → ((a || b) || m) ≡ (b || (a || m))
both_more true true true = refl
both_more true true false = refl
both_more true false true = refl
both_more true false false = refl
both_more false true true = refl
both_more false true false = refl
both_more false false true = refl
both_more false false false = refl

pub both_step : (items : List Mark) (rank other : ℕ) (ranks : List ℕ) → rank < length items → (is_in_both (get_or (set items rank InBoth) other Outside) || is_among other ranks) ≡ (is_in_both (get_or items other Outside) || is_among other (rank ∷ ranks))
both_step items rank other ranks within =
    ap (λ (b : Bool). b || is_among other ranks) (ap is_in_both (mark_set items rank other InBoth within) ∙ both_if (other == rank) (get_or items other Outside))
    ∙ both_more (other == rank) (is_in_both (get_or items other Outside)) (is_among other ranks)
    ∙ ap (λ (b : Bool). is_in_both (get_or items other Outside) || (b || is_among other ranks)) (eq_comm other rank)

-- marking the members that are still to come, after one was
pub members_step : (items : List Mark) (rank other : ℕ) (ranks : List ℕ) → other < length items → (if is_among other ranks then InParent else get_or (set items rank InParent) other Outside) ≡ (if is_among other (rank ∷ ranks) then InParent else get_or items other Outside)
members_step items rank other ranks within =
    elim (cases_eq rank other) [
      | inl same ↦ rw (eq-eqb rank other same) (
          let here : get_or (set items rank InParent) other Outside ≡ InParent = rw (sym same) (get_or-set_same items rank InParent Outside (rw same within)) in
          rw here (both_ways_in (is_among other ranks)))
      | inr apart ↦ rw (ne_eqb rank other apart, get_or-set_other items rank other InParent Outside (λ same. apart (sym same))) refl
    ]
  where
    both_ways_in : (b : Bool) → (if b then InParent else InParent) ≡ InParent
    both_ways_in true = refl
    both_ways_in false = refl

-- ---- Groups ----

-- every rank of a run is in its world
pub in_world : (ranks rank : ℕ) → rank < ranks → is_among rank (range_with_len 0 ranks) ≡ true
in_world ranks rank below = in_range 0 ranks rank (omega arith) (omega arith)
  where
    in_range : (first count number : ℕ) → first ≤ number → number < first + count → is_among number (range_with_len first count) ≡ true
    in_range first zero number low high = absurd (omega arith)
    in_range first (suc count) number low high =
        elim (cases_eq first number) [
          | inl same ↦ rw (eq-eqb first number same) refl
          | inr apart ↦ rw (in_range (first + 1) count number (omega arith) (omega arith)) (or_true (first == number))
        ]

-- two tests of the members of a group that agree below the number of ranks
pub members_agree : (ranks : ℕ) (fields : List Field) (f g : ℕ → Bool) → AreMembers ranks fields → ((rank : ℕ) → rank < ranks → f rank ≡ g rank) → list_all f (naturals fields) ≡ list_all g (naturals fields)
members_agree ranks [] f g members agree = refl
members_agree ranks (Natural rank ∷ fields) f g members agree =
    ap (λ (b : Bool). b && list_all f (naturals fields)) (agree rank members.0)
    ∙ ap (λ (b : Bool). g rank && b) (members_agree ranks fields f g members.1 agree)
members_agree ranks (Signed number ∷ fields) f g members agree = absurd members.0
members_agree ranks (Null ∷ fields) f g members agree = absurd members.0
members_agree ranks (Any ∷ fields) f g members agree = absurd members.0
members_agree ranks (Undefined ∷ fields) f g members agree = absurd members.0

-- ---- The answer ----

mark_if : (b : Bool) → is_in_parent (if b then InParent else Outside) ≡ b
mark_if true = refl
mark_if false = refl

none_both : (b : Bool) → is_in_both (if b then InParent else Outside) ≡ false
none_both true = refl
none_both false = refl

in_middle : (d a m : Bool) → (d && a) ≡ false → false ≡ ((d && m) && a)
in_middle true true m is = absurd (true≢false is)
in_middle true false true is = refl
in_middle true false false is = refl
in_middle false a m is = refl

all_three : (d a m r : Bool) → (d && a) ≡ true → r ≡ m → r ≡ ((d && m) && a)
all_three true true m r is same = same ∙ sym (and_true m)
all_three true false m r is same = absurd (false≢true is)
all_three false a m r is same = absurd (false≢true is)

module _ (items : List Mark) (fields : List Field) (group : List ℕ) (members : AreMembers (length items) fields) (marked : (rank : ℕ) → rank < length items → get_or items rank Outside ≡ (if is_among rank group then InParent else Outside)) where
  -- once the parent's group is marked, the members of another pass once where it is one within
  once_within : each_once (λ rank. is_in_parent (get_or items rank Outside)) (naturals fields) ≡ (are_distinct (naturals fields) && list_all (λ rank. is_among rank group) (naturals fields))
  once_within =
      each_once_is (λ rank. is_in_parent (get_or items rank Outside)) (naturals fields)
      ∙ ap (λ (b : Bool). are_distinct (naturals fields) && b) (members_agree (length items) fields (λ rank. is_in_parent (get_or items rank Outside)) (λ rank. is_among rank group) members (λ rank below. ap is_in_parent (marked rank below) ∙ mark_if (is_among rank group)))

  not_both : (rank : ℕ) → is_in_both (get_or items rank Outside) ≡ false
  not_both rank =
      elim (cases_lt rank (length items)) [
        | inl below ↦ ap is_in_both (marked rank below) ∙ none_both (is_among rank group)
        | inr past ↦ ap is_in_both (get_or_past items rank Outside past)
      ]

  pub group_wrong : (rank : ℕ) → each_once (λ it. is_in_parent (get_or items it Outside)) (naturals fields) ≡ false → false ≡ ((are_distinct (naturals fields) && is_among rank (naturals fields)) && list_all (λ it. is_among it group) (naturals fields))
  group_wrong rank fails = in_middle (are_distinct (naturals fields)) _ (is_among rank (naturals fields)) (sym once_within ∙ fails)

  pub group_right : (rank : ℕ) (after : Mark) → each_once (λ it. is_in_parent (get_or items it Outside)) (naturals fields) ≡ true → is_in_both after ≡ (is_in_both (get_or items rank Outside) || is_among rank (naturals fields)) → is_in_both after ≡ ((are_distinct (naturals fields) && is_among rank (naturals fields)) && list_all (λ it. is_among it group) (naturals fields))
  group_right rank after passes same =
      all_three (are_distinct (naturals fields)) _ (is_among rank (naturals fields)) (is_in_both after) (sym once_within ∙ passes) (same ∙ ap (λ (b : Bool). b || is_among rank (naturals fields)) (not_both rank))

-- ---- Two groups ----

pub no_fields : (fields : List Field) → length fields < 1 → fields ≡ []
no_fields [] below = refl
no_fields (field ∷ fields) below = absurd (omega arith)

-- where the first group is at its end, they are the same if the other is
pub ends_same : (group other : List Field) → group ≡ [] → AreNatural other → (length other == 0) ≡ bytes_eq (naturals group) (naturals other)
ends_same group [] ended natural = rw ended refl
ends_same group (Natural one ∷ other) ended natural = rw (ended, ne_eqb (suc (length other)) 0 (λ is. omega arith)) refl
ends_same group (Signed one ∷ other) ended natural = absurd natural.0
ends_same group (Null ∷ other) ended natural = absurd natural.0
ends_same group (Any ∷ other) ended natural = absurd natural.0
ends_same group (Undefined ∷ other) ended natural = absurd natural.0
