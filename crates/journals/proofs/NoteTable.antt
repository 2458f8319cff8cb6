-- Notes, as places for more of them are made.
use Rattle.std.proofs.Common.{◌≡◌, ◌∙◌, ap, sym, refl, arith, ◌==◌, if◌then◌else◌, ℕ, zero, suc, true, Option, None, Some, List, [], ◌∷◌, ◌++◌, length, inl, inr}
use Rattle.std.proofs.lemmas.Bool.{cases_Bool, eqb-true, eq-eqb, false≢true}
use Rattle.std.specs.Prelude.{nat_eq, slice_get}
use Rattle.std.specs.HashMap.{HashMap, get, hash_map_len}
use Rattle.std.specs.Map.{lookup}
use Rattle.journals.specs.inner.Notes.{near_or_far, may_call, by_call, called_note}
use Rattle.journals.specs.declared.field.Field.{Field}
use Rattle.journals.specs.declared.form.Form.{Form}
use Rattle.journals.specs.declared.form.Form.TheVariants.{NewRequest, NewMessage}
use Rattle.journals.specs.declared.word.CallWord.{CallWord}
use Rattle.journals.specs.declared.note.Note.{Note}

-- a map without entries has none
looked_up : (entries : List (ℕ × Note)) → length entries ≡ 0 → (number : ℕ) → None ≡ lookup (nat_eq number) entries
looked_up [] empty number = refl
looked_up (entry ∷ entries) empty number = absurd (omega (arith, empty))

pub none_of_none : {S : Type 0} (far : HashMap ℕ Note S) → hash_map_len far ≡ 0 → (number : ℕ) → None ≡ get nat_eq far number
none_of_none far empty number = looked_up far.entries empty number

-- a place without a note says what no place does
pub place_more : (xs : List (Option Note)) (far : Option Note) (n : ℕ) → near_or_far (slice_get (xs ++ None ∷ []) n) far ≡ near_or_far (slice_get xs n) far
place_more [] far zero = refl
place_more [] far (suc n) = refl
place_more (x ∷ xs) far zero = refl
place_more (x ∷ xs) far (suc n) = place_more xs far n

-- a note that is put at the end is that of the next place
at_end : (xs : List (Option Note)) (note : Note) (far : Option Note) (n : ℕ) → n ≡ length xs → near_or_far (slice_get (xs ++ Some note ∷ []) n) far ≡ Some note
at_end [] note far zero is = refl
at_end [] note far (suc n) is = absurd (omega (arith, is))
at_end (x ∷ xs) note far zero is = absurd (omega (arith, is))
at_end (x ∷ xs) note far (suc n) is = at_end xs note far n (omega (arith, is))

elsewhere : (xs : List (Option Note)) (note : Note) (far : Option Note) (n : ℕ) → (n ≡ length xs → ⊥) → near_or_far (slice_get (xs ++ Some note ∷ []) n) far ≡ near_or_far (slice_get xs n) far
elsewhere [] note far zero apart = absurd (apart refl)
elsewhere [] note far (suc n) apart = refl
elsewhere (x ∷ xs) note far zero apart = refl
elsewhere (x ∷ xs) note far (suc n) apart = elsewhere xs note far n (λ is. apart (ap suc is))

pub put_at_end : (xs : List (Option Note)) (note : Note) (far : Option Note) (number n : ℕ) → number ≡ length xs → near_or_far (slice_get (xs ++ Some note ∷ []) n) far ≡ (if number == n then Some note else near_or_far (slice_get xs n) far)
put_at_end xs note far number n is =
    elim (cases_Bool (number == n)) [
      | inl same ↦ rw same (at_end xs note far n (sym (eqb-true number n same) ∙ is))
      | inr apart ↦ rw apart (elsewhere xs note far n (λ at. false≢true (sym apart ∙ eq-eqb number n (is ∙ sym at))))
    ]

-- a line that may name it again is no first one
pub named : (word : CallWord) (fields : List Field) (line number : ℕ) (form : Form) (note : Note) → may_call line form (Some note) ≡ true → by_call word fields line number form (Some note) ≡ Some (called_note word fields line note)
named word fields line number NewRequest note may = cc
named word fields line number NewMessage note may = cc
named word fields line number form note may = refl
