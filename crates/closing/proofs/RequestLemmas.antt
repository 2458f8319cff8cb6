-- The active requests of a list, as some of them are completed.
use Rattle.std.proofs.Common.{◌≡◌, ◌∙◌, ◌||◌, ◌==◌, ℕ, true, false, not, cond, refl, sym, ap, subst, List, [], ◌∷◌, ◌++◌, append_assoc, Option, Some, None, option_map, inl, inr, eqb}
use Rattle.std.specs.Prelude.{nat_eq}
use Rattle.std.specs.List.{list_any}
use Rattle.closing.specs.inner.Started.{active_at}
use Rattle.std.proofs.lemmas.Bool.{cases_eq, cases_Bool, cond-true, cond-false, eq-eqb, eqb-true, ne_eqb, and_right, or_parts, or_left, or_right, both_ways}
use Rattle.std.proofs.lemmas.List.{append-nil}
use Rattle.closing.specs.Steps.{Id, Own, Whole, ReceiveHalf, Sink, Written, same_id, number_in, without, without_all, put_number, numbers_of, has_number}
use Rattle.closing.specs.inner.Free.{Requests}
use Rattle.closing.specs.inner.Lists.{IsApart, AreApart, AreHeld, IsStarted, KeepsLines, Owns, TakesOne, found_number}
use Rattle.closing.specs.declared.list.List.{List as ListCode}
use Rattle.closing.specs.declared.list.Active.{Active}
use Rattle.closing.proofs.FreedLemmas.{has_without}

-- ---- One number ----

pub has_number_in : (active : Requests) (id : Id) (number : ℕ) → number_in active id ≡ Some number → has_number active number ≡ true
has_number_in [] id number e = cc
has_number_in ((other, found) ∷ others) id number e = elim (cases_Bool (same_id other id)) [
  | inl same ↦
      let here : Some found ≡ Some number = sym (cond-true (same_id other id) (Some found) (number_in others id) same) ∙ e in
      let is : found ≡ number = cc in
      or_left (eqb found number) (has_number others number) (eq-eqb found number is)
  | inr apart ↦
      or_right (eqb found number) (has_number others number)
      (has_number_in others id number (sym (cond-false (same_id other id) (Some found) (number_in others id) apart) ∙ e))
]

keep_first : (one : Id × ℕ) (others : Requests) (number : ℕ) → (one.1 ≡ number → ⊥) → without number (one ∷ others) ≡ one ∷ without number others
keep_first one others number apart =
    cond-true (not (eqb one.1 number)) (one ∷ without number others) (without number others) (ap not (ne_eqb one.1 number apart))

drop_first : (one : Id × ℕ) (others : Requests) (number : ℕ) → one.1 ≡ number → without number (one ∷ others) ≡ without number others
drop_first one others number same =
    cond-false (not (eqb one.1 number)) (one ∷ without number others) (without number others) (ap not (eq-eqb one.1 number same))

without_none : (active : Requests) (number : ℕ) → has_number active number ≡ false → without number active ≡ active
without_none [] number none = refl
without_none (one ∷ others) number none =
    let parts = or_parts (eqb one.1 number) (has_number others number) none in
    keep_first one others number (λ e. both_ways (eqb one.1 number) parts.0 (eq-eqb one.1 number e))
    ∙ ap (λ rest. one ∷ rest) (without_none others number parts.1)

pub none_without : (active : Requests) (id : Id) (number : ℕ) → number_in active id ≡ None → number_in (without number active) id ≡ None
none_without [] id number none = refl
none_without ((other, found) ∷ others) id number none = elim (cases_Bool (same_id other id)) [
  | inl same ↦
      let here : Some found ≡ None = sym (cond-true (same_id other id) (Some found) (number_in others id) same) ∙ none in
      cc
  | inr apart ↦
      let rest : number_in (without number others) id ≡ None = none_without others id number (sym (cond-false (same_id other id) (Some found) (number_in others id) apart) ∙ none) in
      elim (cases_eq found number) [
        | inl e ↦ ap (λ left. number_in left id) (drop_first (other, found) others number e) ∙ rest
        | inr differs ↦
            ap (λ left. number_in left id) (keep_first (other, found) others number differs)
            ∙ cond-false (same_id other id) (Some found) (number_in (without number others) id) apart ∙ rest
      ]
]

fresh_without : (active : Requests) (gone number : ℕ) → has_number active number ≡ false → has_number (without gone active) number ≡ false
fresh_without active gone number fresh = has_without active gone number ∙ and_right (not (eqb gone number)) (has_number active number) fresh

apart_fresh : (one : Id × ℕ) (others : Requests) → IsApart one others → has_number others one.1 ≡ false
apart_fresh (Own id, number) others apart = apart.1
apart_fresh (Whole line, number) others apart = apart
apart_fresh (ReceiveHalf line, number) others apart = apart
apart_fresh (Sink own wanted is_known, number) others apart = apart

one_apart : (one : Id × ℕ) (others : Requests) (number : ℕ) → IsApart one others → IsApart one (without number others)
one_apart (Own id, found) others number apart = (none_without others (Own id) number apart.0, fresh_without others number found apart.1)
one_apart (Whole line, found) others number apart = fresh_without others number found apart
one_apart (ReceiveHalf line, found) others number apart = fresh_without others number found apart
one_apart (Sink own wanted is_known, found) others number apart = fresh_without others number found apart

pub without_apart : (active : Requests) (number : ℕ) → AreApart active → AreApart (without number active)
without_apart [] number apart = tt
without_apart (one ∷ others) number apart = elim (cases_eq one.1 number) [
  | inl e ↦ subst AreApart (sym (drop_first one others number e)) (without_apart others number apart.1)
  | inr differs ↦ subst AreApart (sym (keep_first one others number differs)) (one_apart one others number apart.0, without_apart others number apart.1)
]

-- the number of a request is gone: others keep theirs
same_own : (other : Id) (id : ℕ) → same_id other (Own id) ≡ true → other ≡ Own id
same_own (Own other) id same = ap Own (eqb-true other id same)
same_own (Whole line) id same = cc
same_own (ReceiveHalf line) id same = cc
same_own (Sink own wanted is_known) id same = cc

-- the first isn't the request with the number: its own number is another
other_number : (one : Id × ℕ) (others : Requests) (id : Id) (number : ℕ) → IsApart one others → number_in others id ≡ Some number → one.1 ≡ number → ⊥
other_number one others id number apart found e =
    both_ways (has_number others number) (ap (has_number others) (sym e) ∙ apart_fresh one others apart) (has_number_in others id number found)

pub gone_after : (active : Requests) (id number : ℕ) → AreApart active → number_in active (Own id) ≡ Some number → number_in (without number active) (Own id) ≡ None
gone_after [] id number apart found = refl
gone_after ((other, own) ∷ others) id number apart found = elim (cases_Bool (same_id other (Own id))) [
  | inl same ↦
      let here : Some own ≡ Some number = sym (cond-true (same_id other (Own id)) (Some own) (number_in others (Own id)) same) ∙ found in
      let is : own ≡ number = cc in
      let first : IsApart (Own id, own) others = subst (λ it. IsApart (it, own) others) (same_own other id same) apart.0 in
      ap (λ left. number_in left (Own id)) (drop_first (other, own) others number is)
      ∙ none_without others (Own id) number first.0
  | inr differs ↦
      let rest : number_in others (Own id) ≡ Some number = sym (cond-false (same_id other (Own id)) (Some own) (number_in others (Own id)) differs) ∙ found in
      ap (λ left. number_in left (Own id)) (keep_first (other, own) others number (other_number (other, own) others (Own id) number apart.0 rest))
      ∙ cond-false (same_id other (Own id)) (Some own) (number_in (without number others) (Own id)) differs
      ∙ gone_after others id number apart.1 rest
]

pub other_after : (active : Requests) (id number q : ℕ) → AreApart active → number_in active (Own id) ≡ Some number → (id ≡ q → ⊥) → number_in (without number active) (Own q) ≡ number_in active (Own q)
other_after [] id number q apart found unequal = refl
other_after ((other, own) ∷ others) id number q apart found unequal = elim (cases_Bool (same_id other (Own id))) [
  | inl same ↦
      let here : Some own ≡ Some number = sym (cond-true (same_id other (Own id)) (Some own) (number_in others (Own id)) same) ∙ found in
      let is : own ≡ number = cc in
      let differs : same_id other (Own q) ≡ false = ap (λ it. same_id it (Own q)) (same_own other id same) ∙ ne_eqb id q unequal in
      ap (λ left. number_in left (Own q)) (drop_first (other, own) others number is ∙ without_none others number (ap (has_number others) (sym is) ∙ apart_fresh (other, own) others apart.0))
      ∙ sym (cond-false (same_id other (Own q)) (Some own) (number_in others (Own q)) differs)
  | inr differs ↦
      let rest : number_in others (Own id) ≡ Some number = sym (cond-false (same_id other (Own id)) (Some own) (number_in others (Own id)) differs) ∙ found in
      ap (λ left. number_in left (Own q)) (keep_first (other, own) others number (other_number (other, own) others (Own id) number apart.0 rest))
      ∙ ap (λ it. cond (same_id other (Own q)) (Some own) it) (other_after others id number q apart.1 rest unequal)
]

-- ---- Several numbers ----

pub put_is : (found : Option ℕ) (active : Requests) (others : Requests → List ℕ) → put_number found active others ≡ found_number found ++ others (without_all (found_number found) active)
put_is None active others = refl
put_is (Some number) active others = refl

pub without_append : (xs ys : List ℕ) (active : Requests) → without_all (xs ++ ys) active ≡ without_all ys (without_all xs active)
without_append [] ys active = refl
without_append (x ∷ xs) ys active = without_append xs ys (without x active)

pub all_apart : (numbers : List ℕ) (active : Requests) → AreApart active → AreApart (without_all numbers active)
all_apart [] active apart = apart
all_apart (number ∷ numbers) active apart = all_apart numbers (without number active) (without_apart active number apart)

held_put : (found : Option ℕ) (active : Requests) (id : Id) (ids : List Id) → number_in active id ≡ found → ((left : Requests) → AreHeld left (numbers_of left ids))
    → AreHeld active (put_number found active (λ left. numbers_of left ids))
held_put None active id ids e others = others active
held_put (Some number) active id ids e others = (has_number_in active id number e, others (without number active))

pub held_numbers : (active : Requests) (ids : List Id) → AreHeld active (numbers_of active ids)
held_numbers active [] = tt
held_numbers active (id ∷ ids) = held_put (number_in active id) active id ids refl (λ left. held_numbers left ids)

-- some numbers and then those of the others
pub found_first : (before : List ℕ) (active : Requests) (id : Id) (ids : List Id) → before ++ numbers_of (without_all before active) (id ∷ ids) ≡ (before ++ found_number (number_in (without_all before active) id)) ++ numbers_of (without_all (before ++ found_number (number_in (without_all before active) id)) active) ids
found_first before active id ids =
    let found : List ℕ = found_number (number_in (without_all before active) id) in
    ap (λ it. before ++ it) (put_is (number_in (without_all before active) id) (without_all before active) (λ left. numbers_of left ids))
    ∙ sym (append_assoc before (found_number (number_in (without_all before active) id)) (numbers_of (without_all (found_number (number_in (without_all before active) id)) (without_all before active)) ids))
    ∙ ap (λ left. (before ++ found_number (number_in (without_all before active) id)) ++ numbers_of left ids) (sym (without_append before (found_number (number_in (without_all before active) id)) active))

-- ---- The map of active requests ----

pub took_one : (left : Requests) (id : ℕ) (active : Active) (old new : ListCode) → AreApart left → Owns left old → active_at old.active id ≡ Some active
    → ((q : ℕ) → active_at new.active q ≡ cond (nat_eq id q) None (active_at old.active q)) → new.numbers.items ≡ old.numbers.items ++ active.number ∷ [] → TakesOne left id old new
took_one left id active old new apart owns had gone listed =
    let found : number_in left (Own id) ≡ Some active.number = sym (owns id) ∙ ap (option_map (λ (one : Active). one.number)) had in
    let left_now : without_all (found_number (number_in left (Own id))) left ≡ without active.number left = ap (λ it. without_all (found_number it) left) found in
    record {
      numbers = listed ∙ ap (λ it. old.numbers.items ++ found_number it) (sym found);
      own = λ q. elim (cases_eq id q) [
        | inl e ↦
            ap (option_map (λ (one : Active). one.number)) (gone q ∙ cond-true (eqb id q) None (active_at old.active q) (eq-eqb id q e))
            ∙ sym (ap (λ it. number_in it (Own q)) left_now ∙ ap (λ it. number_in (without active.number left) (Own it)) (sym e) ∙ gone_after left id active.number apart found)
        | inr differs ↦
            ap (option_map (λ (one : Active). one.number)) (gone q ∙ cond-false (eqb id q) None (active_at old.active q) (ne_eqb id q differs))
            ∙ owns q
            ∙ sym (ap (λ it. number_in it (Own q)) left_now ∙ other_after left id active.number q apart found differs)
      ];
    }

pub took_none : (left : Requests) (id : ℕ) (old new : ListCode) → Owns left old → active_at old.active id ≡ None
    → ((q : ℕ) → active_at new.active q ≡ cond (nat_eq id q) None (active_at old.active q)) → new.numbers.items ≡ old.numbers.items → TakesOne left id old new
took_none left id old new owns had gone listed =
    let found : number_in left (Own id) ≡ None = sym (owns id) ∙ ap (option_map (λ (one : Active). one.number)) had in
    record {
      numbers = listed ∙ sym (append-nil old.numbers.items) ∙ ap (λ it. old.numbers.items ++ found_number it) (sym found);
      own = λ q. ap (option_map (λ (one : Active). one.number)) (gone q) ∙ elim (cases_eq id q) [
        | inl e ↦
            ap (option_map (λ (one : Active). one.number)) (cond-true (eqb id q) None (active_at old.active q) (eq-eqb id q e) ∙ sym had ∙ ap (active_at old.active) e)
            ∙ owns q ∙ ap (λ it. number_in (without_all (found_number it) left) (Own q)) (sym found)
        | inr differs ↦
            ap (option_map (λ (one : Active). one.number)) (cond-false (eqb id q) None (active_at old.active q) (ne_eqb id q differs))
            ∙ owns q ∙ ap (λ it. number_in (without_all (found_number it) left) (Own q)) (sym found)
      ];
    }

-- no request has been started that wasn't
pub gone_started : (id : ℕ) (old new : ListCode) → ((q : ℕ) → active_at new.active q ≡ cond (nat_eq id q) None (active_at old.active q))
    → (records : List Written) (q : ℕ) → IsStarted records q (active_at old.active q) → IsStarted records q (active_at new.active q)
gone_started id old new gone records q started = elim (cases_eq id q) [
  | inl e ↦ subst (IsStarted records q) (sym (gone q ∙ cond-true (eqb id q) None (active_at old.active q) (eq-eqb id q e))) tt
  | inr differs ↦ subst (IsStarted records q) (sym (gone q ∙ cond-false (eqb id q) None (active_at old.active q) (ne_eqb id q differs))) started
]

pub took_line : (id : ℕ) (old new : ListCode) → new.records ≡ old.records → new.count ≡ old.count → new.free ≡ old.free → new.given ≡ old.given → new.freed ≡ old.freed
    → ((q : ℕ) → active_at new.active q ≡ cond (nat_eq id q) None (active_at old.active q)) → KeepsLines old new
took_line id old new records count free given freed gone = record {
  records = records;
  count = count;
  free = free;
  given = given;
  freed = freed;
  started = gone_started id old new gone;
}

-- what the map of active requests has of others as one is gone
pub own_without : (left : Requests) (id : ℕ) (active : Active) (old new : ListCode) → AreApart left → Owns left old → active_at old.active id ≡ Some active
    → ((q : ℕ) → active_at new.active q ≡ cond (nat_eq id q) None (active_at old.active q)) → Owns (without active.number left) new
own_without left id active old new apart owns had gone = λ q.
    let found : number_in left (Own id) ≡ Some active.number = sym (owns id) ∙ ap (option_map (λ (one : Active). one.number)) had in
    elim (cases_eq id q) [
      | inl e ↦
          ap (option_map (λ (one : Active). one.number)) (gone q ∙ cond-true (eqb id q) None (active_at old.active q) (eq-eqb id q e))
          ∙ sym (ap (λ it. number_in (without active.number left) (Own it)) (sym e) ∙ gone_after left id active.number apart found)
      | inr differs ↦
          ap (option_map (λ (one : Active). one.number)) (gone q ∙ cond-false (eqb id q) None (active_at old.active q) (ne_eqb id q differs))
          ∙ owns q
          ∙ sym (other_after left id active.number q apart found differs)
    ]

-- ---- Numbers that are found ----

kept_after : (active : Requests) (id number gone : ℕ) → number_in active (Own id) ≡ Some number → (number ≡ gone → ⊥) → number_in (without gone active) (Own id) ≡ Some number
kept_after [] id number gone found differs = found
kept_after ((other, own) ∷ others) id number gone found differs = elim (cases_Bool (same_id other (Own id))) [
  | inl same ↦
      let here : Some own ≡ Some number = sym (cond-true (same_id other (Own id)) (Some own) (number_in others (Own id)) same) ∙ found in
      let is : own ≡ number = cc in
      ap (λ left. number_in left (Own id)) (keep_first (other, own) others gone (λ e. differs (sym is ∙ e)))
      ∙ cond-true (same_id other (Own id)) (Some own) (number_in (without gone others) (Own id)) same ∙ here
  | inr apart ↦
      let rest : number_in (without gone others) (Own id) ≡ Some number =
      kept_after others id number gone (sym (cond-false (same_id other (Own id)) (Some own) (number_in others (Own id)) apart) ∙ found) differs in
      elim (cases_eq own gone) [
        | inl e ↦ ap (λ left. number_in left (Own id)) (drop_first (other, own) others gone e) ∙ rest
        | inr unequal ↦
            ap (λ left. number_in left (Own id)) (keep_first (other, own) others gone unequal)
            ∙ cond-false (same_id other (Own id)) (Some own) (number_in (without gone others) (Own id)) apart ∙ rest
      ]
]

pub left_none : (found : List ℕ) (active : Requests) (id : ℕ) → number_in active (Own id) ≡ None → number_in (without_all found active) (Own id) ≡ None
left_none [] active id none = none
left_none (number ∷ found) active id none = left_none found (without number active) id (none_without active (Own id) number none)

pub left_gone : (found : List ℕ) (active : Requests) (id number : ℕ) → AreApart active → number_in active (Own id) ≡ Some number → list_any (λ other. other == number) found ≡ true → number_in (without_all found active) (Own id) ≡ None
left_gone [] active id number apart has among = cc
left_gone (other ∷ found) active id number apart has among = elim (cases_eq other number) [
  | inl e ↦ left_none found (without other active) id (ap (λ it. number_in (without it active) (Own id)) e ∙ gone_after active id number apart has)
  | inr differs ↦
      left_gone found (without other active) id number (without_apart active other apart) (kept_after active id number other has (λ e. differs (sym e)))
      (sym (ap (λ first. first || list_any (λ other. other == number) found) (ne_eqb other number differs)) ∙ among)
]

pub left_there : (found : List ℕ) (active : Requests) (id number : ℕ) → number_in active (Own id) ≡ Some number → list_any (λ other. other == number) found ≡ false → number_in (without_all found active) (Own id) ≡ Some number
left_there [] active id number has among = has
left_there (other ∷ found) active id number has among =
    let parts = or_parts (eqb other number) (list_any (λ other. other == number) found) among in
    left_there found (without other active) id number
    (kept_after active id number other has (λ e. both_ways (eqb other number) parts.0 (eq-eqb other number (sym e)))) parts.1
