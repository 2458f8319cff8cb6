-- Where records start requests that are freed, as records are added.
use Rattle.std.proofs.Common.{◌≡◌, ◌∙◌, refl, sym, ap, subst, arith, ℕ, zero, suc, ◌-◌, ◌≤◌, ◌==◌, ◌||◌, Bool, true, false, List, [], ◌∷◌, ◌++◌, length, take, Some, inl, inr}
use Rattle.std.specs.Prelude.{slice_get, if◌then◌else◌}
use Rattle.std.proofs.lemmas.Bool.{cases_eq, eq-eqb, ne_eqb}
use Rattle.std.proofs.lemmas.List.{append-nil}
use Rattle.std.proofs.lemmas.Option.{slice_get_past}
use Rattle.mpicall.specs.declared.call.Call.{Call}
use Rattle.closing.specs.Freed.{starts_one_of}
use Rattle.closing.specs.Steps.{Id, Written, plain}
use Rattle.closing.specs.inner.Lists.{HasPlaces, has_place}
use Rattle.closing.specs.declared.freed.Freed.{Freed}

-- none of these records starts one
abbrev pub StartNone : (Id → Bool) → List Written → Type 0
StartNone frees [] = Unit {0}
StartNone frees (one ∷ others) = (starts_one_of frees (Some one) ≡ false) × StartNone frees others

pub plain_starts : (frees : Id → Bool) (line : ℕ) (calls : List Call) → StartNone frees (plain line calls)
plain_starts frees line [] = tt
plain_starts frees line (call ∷ calls) = (refl, plain_starts frees line calls)

take_none : (frees : Id → Bool) (n : ℕ) (more : List Written) → StartNone frees more → StartNone frees (take n more)
take_none frees zero more none = tt
take_none frees (suc n) [] none = tt
take_none frees (suc n) (one ∷ more) none = (none.0, take_none frees n more none.1)

none_there : (frees : Id → Bool) (more : List Written) (place : ℕ) → StartNone frees more → starts_one_of frees (slice_get more place) ≡ false
none_there frees [] place none = refl
none_there frees (one ∷ more) zero none = none.0
none_there frees (one ∷ more) (suc place) none = none_there frees more place none.1

more_none : (frees : Id → Bool) (records more : List Written) (place : ℕ) → StartNone frees more
    → starts_one_of frees (slice_get (records ++ more) place) ≡ starts_one_of frees (slice_get records place)
more_none frees [] more place none = none_there frees more place none
more_none frees (one ∷ records) more zero none = refl
more_none frees (one ∷ records) more (suc place) none = more_none frees records more place none

module _ (frees : Id → Bool) (records more : List Written) (old new : Freed) (none : StartNone frees more) (same : new ≡ old) (has : HasPlaces frees records old) where
  pub places_more : HasPlaces frees (records ++ more) new
  places_more = λ place. ap (λ (it : Freed). has_place it place) same ∙ has place ∙ sym (more_none frees records more place none)

take_both : (n : ℕ) (xs ys : List Written) → length xs ≤ n → take n (xs ++ ys) ≡ xs ++ take (n - length xs) ys
take_both n [] ys le =
    let e : n ≡ n - 0 = omega arith in
    ap (λ k. take k ys) e
take_both zero (x ∷ xs) ys le = absurd (omega arith)
take_both (suc n) (x ∷ xs) ys le =
    let e : n - length xs ≡ suc n - suc (length xs) = omega arith in
    ap (λ others. x ∷ others) (take_both n xs ys (omega arith) ∙ ap (λ k. xs ++ take k ys) e)

-- so it is with as many of them as have room
pub places_cut : (frees : Id → Bool) (n : ℕ) (records more : List Written) (old new : Freed) → length records ≤ n → StartNone frees more → new ≡ old → HasPlaces frees records old
    → HasPlaces frees (take n (records ++ more)) new
places_cut frees n records more old new le none same has =
    subst (λ (xs : List Written). HasPlaces frees xs new) (sym (take_both n records more le))
    (places_more frees records (take (n - length records) more) old new (take_none frees (n - length records) more none) same has)

-- there is no room for more
pub places_full : (frees : Id → Bool) (n : ℕ) (records more : List Written) (old new : Freed) → n ≡ length records → new ≡ old → HasPlaces frees records old
    → HasPlaces frees (take n (records ++ more)) new
places_full frees n records more old new full same has =
    let none : n - length records ≡ 0 = omega (arith, full) in
    let here : take n (records ++ more) ≡ records =
    take_both n records more (omega (arith, full)) ∙ ap (λ k. records ++ take k more) none ∙ append-nil records in
    subst (λ (xs : List Written). HasPlaces frees xs new) (sym here) (λ place. ap (λ (it : Freed). has_place it place) same ∙ has place)

-- ---- One record more that may start one ----

at_last : (records : List Written) (one : Written) → slice_get (records ++ one ∷ []) (length records) ≡ Some one
at_last [] one = refl
at_last (first ∷ records) one = at_last records one

elsewhere : (records : List Written) (one : Written) (place : ℕ) → (length records ≡ place → ⊥) → slice_get (records ++ one ∷ []) place ≡ slice_get records place
elsewhere [] one zero other = absurd (other refl)
elsewhere [] one (suc place) other = refl
elsewhere (first ∷ records) one zero other = refl
elsewhere (first ∷ records) one (suc place) other = elsewhere records one place (λ e. other (ap suc e))

or_none : (b : Bool) → (b || false) ≡ b
or_none true = refl
or_none false = refl

pub places_started : (frees : Id → Bool) (records : List Written) (one : Written) (at : ℕ) (starts : Bool) (old new : Freed)
    → at ≡ length records → starts ≡ starts_one_of frees (Some one)
    → ((other : ℕ) → has_place new other ≡ (if at == other then (starts || has_place old other) else has_place old other))
    → HasPlaces frees records old → HasPlaces frees (records ++ one ∷ []) new
places_started frees records one at starts old new last is put has = λ place. elim (cases_eq at place) [
  | inl e ↦
      let nothing : has_place old place ≡ false =
      has place ∙ ap (starts_one_of frees) (slice_get_past records place (omega (arith, e, last))) in
      let found : slice_get (records ++ one ∷ []) place ≡ Some one =
      ap (slice_get (records ++ one ∷ [])) (sym e ∙ last) ∙ at_last records one in
      put place ∙ ap (λ (b : Bool). if b then (starts || has_place old place) else has_place old place) (eq-eqb at place e)
      ∙ ap (λ (b : Bool). starts || b) nothing ∙ or_none starts ∙ is ∙ ap (starts_one_of frees) (sym found)
  | inr differs ↦
      put place ∙ ap (λ (b : Bool). if b then (starts || has_place old place) else has_place old place) (ne_eqb at place differs)
      ∙ has place ∙ ap (starts_one_of frees) (sym (elsewhere records one place (λ e. differs (last ∙ e))))
]
