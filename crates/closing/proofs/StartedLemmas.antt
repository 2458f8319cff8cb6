-- The active requests of a rank, as one is put into the table or the map, or taken out of them.
use Rattle.std.proofs.Common.{◌≡◌, ◌∙◌, ◌<◌, ◌%◌, ◌==◌, ℕ, zero, suc, Bool, true, false, refl, sym, ap, arith, List, [], ◌∷◌, length, replicate, set, Option, Some, None, inl, inr, if◌then◌else◌}
use Rattle.std.specs.Prelude.{slice_get, nat_eq}
use Rattle.std.specs.HashMap.{HashMap, get, hash_map_len}
use Rattle.std.specs.Map.{lookup}
use Rattle.std.proofs.lemmas.Bool.{cases_eq, cond-true, cond-false, eq-eqb, eqb-true, ne_eqb}
use Rattle.mpicall.specs.Word.{or_else}
use Rattle.closing.specs.inner.Started.{may_hold, own_in}
use Rattle.closing.specs.declared.list.Active.{Active}
use Rattle.closing.specs.declared.started.Held.{Held}
use Rattle.closing.specs.declared.started.TheConstants.{PLACES}
use Rattle.closing.proofs.NumberLists.{get_set_other, get_set_same}

-- ---- One place ----

own : (held : Held) (id : ℕ) → held.id ≡ id → own_in id (Some (Some held)) ≡ Some held.active
own held id e = cond-true (held.id == id) (Some held.active) None (eq-eqb held.id id e)

not_own : (held : Held) (id : ℕ) → (held.id ≡ id → ⊥) → own_in id (Some (Some held)) ≡ None
not_own held id apart = cond-false (held.id == id) (Some held.active) None (ne_eqb held.id id apart)

-- what one may hold has no request of another number
none_other : (id other : ℕ) (place : Option (Option Held)) → may_hold id place ≡ true → (id ≡ other → ⊥) → own_in other place ≡ None
none_other id other None may apart = refl
none_other id other (Some None) may apart = refl
none_other id other (Some (Some held)) may apart = not_own held other (λ e. apart (sym (eqb-true held.id id may) ∙ e))

-- what it may not hold has no request of its number
none_own : (id : ℕ) (place : Option (Option Held)) → may_hold id place ≡ false → own_in id place ≡ None
none_own id None may = refl
none_own id (Some None) may = refl
none_own id (Some (Some held)) may = cond-false (held.id == id) (Some held.active) None may

-- the place of its request is its own
holds : (id : ℕ) (active : Active) (place : Option (Option Held)) → own_in id place ≡ Some active → may_hold id place ≡ true
holds id active None e = absurd (cc (e))
holds id active (Some None) e = refl
holds id active (Some (Some held)) e = by_same (held.id == id) e
  where
    by_same : (b : Bool) → (if b then Some held.active else None) ≡ Some active → b ≡ true
    by_same true e = refl
    by_same false e = absurd (cc (e))

-- ---- The table ----

pub put_near : (near : List (Option Held)) (far : Option Active) (place id other : ℕ) (active : Active) → place ≡ id % PLACES → place < length near → may_hold id (slice_get near place) ≡ true
    → or_else (own_in other (slice_get (set near place (Some (record { id = id; active = active }))) (other % PLACES))) far
    ≡ (if id == other then Some active else or_else (own_in other (slice_get near (other % PLACES))) far)
put_near near far place id other active is within may =
    let held : Held = record { id = id; active = active } in
    let new : List (Option Held) = set near place (Some held) in
    let before : Option Active = or_else (own_in other (slice_get near (other % PLACES))) far in
    let here : slice_get new place ≡ Some (Some held) = get_set_same near place (Some held) within in
    elim (cases_eq id other) [
      | inl e ↦
          ap (λ n. or_else (own_in other (slice_get new n)) far) (sym (is ∙ ap (λ n. n % PLACES) e))
          ∙ ap (λ it. or_else (own_in other it) far) here
          ∙ ap (λ it. or_else it far) (own held other e)
          ∙ sym (cond-true (id == other) (Some active) before (eq-eqb id other e))
      | inr apart ↦ elim (cases_eq place (other % PLACES)) [
        | inl same ↦
            ap (λ n. or_else (own_in other (slice_get new n)) far) (sym same)
            ∙ ap (λ it. or_else (own_in other it) far) here
            ∙ ap (λ it. or_else it far) (not_own held other apart)
            ∙ sym (ap (λ it. or_else it far) (ap (λ n. own_in other (slice_get near n)) (sym same) ∙ none_other id other (slice_get near place) may apart))
            ∙ sym (cond-false (id == other) (Some active) before (ne_eqb id other apart))
        | inr elsewhere ↦
            ap (λ it. or_else (own_in other it) far) (get_set_other near place (other % PLACES) (Some held) elsewhere)
            ∙ sym (cond-false (id == other) (Some active) before (ne_eqb id other apart))
      ]
    ]

pub put_far : (near : List (Option Held)) (far : Option Active) (id other : ℕ) (active : Active) → may_hold id (slice_get near (id % PLACES)) ≡ false
    → or_else (own_in other (slice_get near (other % PLACES))) (if id == other then Some active else far)
    ≡ (if id == other then Some active else or_else (own_in other (slice_get near (other % PLACES))) far)
put_far near far id other active may =
    let its : Option Active = own_in other (slice_get near (other % PLACES)) in
    elim (cases_eq id other) [
      | inl e ↦
          ap (or_else its) (cond-true (id == other) (Some active) far (eq-eqb id other e))
          ∙ ap (λ it. or_else it (Some active)) (ap (λ n. own_in n (slice_get near (n % PLACES))) (sym e) ∙ none_own id (slice_get near (id % PLACES)) may)
          ∙ sym (cond-true (id == other) (Some active) (or_else its far) (eq-eqb id other e))
      | inr apart ↦
          ap (or_else its) (cond-false (id == other) (Some active) far (ne_eqb id other apart))
          ∙ sym (cond-false (id == other) (Some active) (or_else its far) (ne_eqb id other apart))
    ]

-- it is taken out of the table
pub near_gone : (near : List (Option Held)) (place id other : ℕ) (active : Active) → place ≡ id % PLACES → place < length near → own_in id (slice_get near (id % PLACES)) ≡ Some active
    → own_in other (slice_get (set near place None) (other % PLACES)) ≡ (if id == other then None else own_in other (slice_get near (other % PLACES)))
near_gone near place id other active is within had =
    let new : List (Option Held) = set near place None in
    let before : Option Active = own_in other (slice_get near (other % PLACES)) in
    let here : own_in other (slice_get new place) ≡ None = ap (own_in other) (get_set_same near place None within) in
    elim (cases_eq id other) [
      | inl e ↦
          ap (λ n. own_in other (slice_get new n)) (sym (is ∙ ap (λ n. n % PLACES) e))
          ∙ here ∙ sym (cond-true (id == other) None before (eq-eqb id other e))
      | inr apart ↦ elim (cases_eq place (other % PLACES)) [
        | inl same ↦
            ap (λ n. own_in other (slice_get new n)) (sym same)
            ∙ here
            ∙ sym (ap (λ n. own_in other (slice_get near n)) (sym (sym is ∙ same)) ∙ none_other id other (slice_get near (id % PLACES)) (holds id active (slice_get near (id % PLACES)) had) apart)
            ∙ sym (cond-false (id == other) None before (ne_eqb id other apart))
        | inr elsewhere ↦
            ap (own_in other) (get_set_other near place (other % PLACES) None elsewhere)
            ∙ sym (cond-false (id == other) None before (ne_eqb id other apart))
      ]
    ]

-- it wasn't there
pub near_none : (near : List (Option Held)) (id other : ℕ) → own_in id (slice_get near (id % PLACES)) ≡ None
    → own_in other (slice_get near (other % PLACES)) ≡ (if id == other then None else own_in other (slice_get near (other % PLACES)))
near_none near id other none =
    let before : Option Active = own_in other (slice_get near (other % PLACES)) in
    elim (cases_eq id other) [
      | inl e ↦ ap (λ n. own_in n (slice_get near (n % PLACES))) (sym e) ∙ none ∙ sym (cond-true (id == other) None before (eq-eqb id other e))
      | inr apart ↦ sym (cond-false (id == other) None before (ne_eqb id other apart))
    ]

-- a table of free places has no request
pub none_held : (n id place : ℕ) → own_in id (slice_get (replicate n None) place) ≡ None
none_held zero id place = refl
none_held (suc n) id zero = refl
none_held (suc n) id (suc place) = none_held n id place

-- ---- Both ----

pub both_gone : (b : Bool) (near far : Option Active) → or_else (if b then None else near) (if b then None else far) ≡ (if b then None else or_else near far)
both_gone true near far = refl
both_gone false near far = refl

-- ---- The map ----

looked_up : (entries : List (ℕ × Active)) → length entries ≡ 0 → (number : ℕ) → None ≡ lookup (nat_eq number) entries
looked_up [] empty number = refl
looked_up (entry ∷ entries) empty number = absurd (omega (arith, empty))

-- one without entries has none
pub none_of_none : {S : Type 0} (far : HashMap ℕ Active S) → hash_map_len far ≡ 0 → (number : ℕ) → None ≡ get nat_eq far number
none_of_none far empty number = looked_up far.entries empty number

pub gone_of_none : {S : Type 0} (far : HashMap ℕ Active S) → hash_map_len far ≡ 0 → (id other : ℕ) → get nat_eq far other ≡ (if id == other then None else get nat_eq far other)
gone_of_none far empty id other = by_same (id == other)
  where
    by_same : (b : Bool) → get nat_eq far other ≡ (if b then None else get nat_eq far other)
    by_same true = sym (none_of_none far empty other)
    by_same false = refl
