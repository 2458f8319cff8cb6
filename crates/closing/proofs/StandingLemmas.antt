-- What some requests are in the trace, one after the other.
use Rattle.std.proofs.Common.{◌≡◌, ◌∙◌, refl, sym, ap, arith, ℕ, ◌==◌, Bool, true, false, if◌then◌else◌, List, [], ◌∷◌, ◌++◌, Option, Some, None}
use Rattle.std.specs.Prelude.{nat_eq, unwrap_or, length}
use Rattle.std.specs.HashMap.{HashMap, get, hash_map_len}
use Rattle.std.specs.Map.{lookup}
use Rattle.std.proofs.lemmas.Bool.Decides.{Decides-eqb}
use Rattle.mpicall.specs.Word.{or_else}
use Rattle.journals.specs.declared.field.Field.{Field}
use Rattle.journals.specs.declared.field.Field.TheVariants.{Natural, Signed, Null, Any, Undefined}
use Rattle.closing.specs.inner.Outcomes.{is_left_out, outcome_at}
use Rattle.closing.specs.inner.Standings.{id_in, ids_in}
use Rattle.closing.specs.declared.standing.Standing.{Standing}

put_unless : (skips : Bool) (id : ℕ) (ids : List ℕ) → (if skips then ids else id ∷ ids) ≡ (if skips then [] else id ∷ []) ++ ids
put_unless true id ids = refl
put_unless false id ids = refl

-- what the first is, and then what the others are
pub ids_step : (it : Standing) (field : Field) (fields : List Field) → ids_in it (field ∷ fields) ≡ ids_in it (field ∷ []) ++ ids_in it fields
ids_step it (Natural request) fields = put_unless (is_left_out (outcome_at it.outcomes request)) (id_in it request) (ids_in it fields)
ids_step it (Signed number) fields = refl
ids_step it Null fields = refl
ids_step it Any fields = refl
ids_step it Undefined fields = refl

-- ---- Messages ----

-- of several messages that a request takes the first stays
pub first_stays : (old new : ℕ → Option ℕ) (request message first : ℕ) → first ≡ unwrap_or (old request) message
    → ((other : ℕ) → new other ≡ (if request == other then Some first else old other))
    → (other : ℕ) → new other ≡ or_else (old other) (if request == other then Some message else None)
first_stays old new request message first is put other = put other ∙ by_same (request == other) refl
  where
    by_found : (found : Option ℕ) → old other ≡ found → first ≡ unwrap_or (old other) message → Some first ≡ or_else (old other) (Some message)
    by_found None e f = ap Some (f ∙ ap (λ o. unwrap_or o message) e) ∙ sym (ap (λ o. or_else o (Some message)) e)
    by_found (Some one) e f = ap Some (f ∙ ap (λ o. unwrap_or o message) e) ∙ sym (ap (λ o. or_else o (Some message)) e)

    by_other : (found : Option ℕ) → found ≡ or_else found None
    by_other None = refl
    by_other (Some one) = refl

    by_same : (b : Bool) → (request == other) ≡ b → (if b then Some first else old other) ≡ or_else (old other) (if b then Some message else None)
    by_same true e =
        let same : request ≡ other = (Decides-eqb request other).0 e in
        by_found (old other) refl (is ∙ ap (λ n. unwrap_or (old n) message) same)
    by_same false e = by_other (old other)

-- a map without entries has none
looked_up : (entries : List (ℕ × ℕ)) → length entries ≡ 0 → (number : ℕ) → None ≡ lookup (nat_eq number) entries
looked_up [] empty number = refl
looked_up (entry ∷ entries) empty number = absurd (omega (arith, empty))

pub none_of_none : {S : Type 0} (it : HashMap ℕ ℕ S) → hash_map_len it ≡ 0 → (number : ℕ) → None ≡ get nat_eq it number
none_of_none it empty number = looked_up it.entries empty number
