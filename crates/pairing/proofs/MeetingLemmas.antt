-- A half that comes meets the first pending other half of its envelope, or is pending itself.
use Rattle.std.proofs.Common.{◌≡◌, ◌≢◌, ℕ, zero, suc, ◌<◌, ◌≤◌, ◌⊎◌, inl, inr, true, false, Option, Some, None, List, [], ◌∷◌, ◌++◌, length, drop, refl, sym, ap, subst, ◌∙◌, ⊎_elim, arith, length-append}
use Rattle.std.specs.List.{slice_get}
use Rattle.std.proofs.lemmas.List.{drop_all, drop-append-le}
use Rattle.std.proofs.lemmas.Bool.{cases_Bool, cases_eq, cases_lt, both_ways}
use Rattle.std.proofs.lemmas.Option.{none-some, same_Some, slice_get_within}
use Rattle.mpigroup.specs.Groups.{Groups}
use Rattle.mpigroup.proofs.ListLemmas.{get_end, none_there}
use Rattle.callstore.specs.declared.envelope.Envelope.{Envelope}
use Rattle.callstore.specs.declared.envelope.Half.{Half}
use Rattle.callstore.specs.declared.envelope.Half.TheVariants.{Send as SendHalf, Recv as RecvHalf}
use Rattle.callstore.specs.Envelopes.{other_half, same_envelope, rank_of_half}
use Rattle.pairing.specs.inner.Matched.{Filing, is_half, filed_on}
use Rattle.pairing.proofs.PartnerLemmas.{same_envelope_true, same_envelope_refl, other_other}
use Rattle.callstore.proofs.PlaceLemmas.{slice_get-front}

-- a half is the one or the other
pub half_cases : (half other : Half) → (other ≡ half) ⊎ (other ≡ other_half half)
half_cases SendHalf SendHalf = inl refl
half_cases SendHalf RecvHalf = inr refl
half_cases RecvHalf SendHalf = inr refl
half_cases RecvHalf RecvHalf = inl refl

pub halves_differ : (half : Half) → half ≡ other_half half → ⊥
halves_differ SendHalf e = cc
halves_differ RecvHalf e = cc

is_half_same : (half : Half) → is_half half half ≡ true
is_half_same SendHalf = refl
is_half_same RecvHalf = refl

is_half_other : (half : Half) → is_half half (other_half half) ≡ false
is_half_other SendHalf = refl
is_half_other RecvHalf = refl

pub envelope_cases : (e f : Envelope) → (f ≡ e) ⊎ (f ≡ e → ⊥)
envelope_cases e f =
    ⊎_elim
    (λ (same : same_envelope f e ≡ true). inl (same_envelope_true f e same))
    (λ (differ : same_envelope f e ≡ false). inr (λ is. both_ways (same_envelope f e) differ (ap (λ x. same_envelope x e) is ∙ same_envelope_refl e)))
    (cases_Bool (same_envelope f e))

-- what is filed once a half is
pub filed_own : (half : Half) (e : Envelope) (place : ℕ) (filing : Filing) → filed_on half (Some e) place filing half e ≡ filing half e ++ place ∷ []
filed_own half e place filing = rw (is_half_same half, same_envelope_refl e) refl

pub filed_other_half : (half : Half) (o : Option Envelope) (f : Envelope) (place : ℕ) (filing : Filing) → filed_on half o place filing (other_half half) f ≡ filing (other_half half) f
filed_other_half half o f place filing = rw (is_half_other half) refl

pub filed_other : (half h : Half) (e f : Envelope) (place : ℕ) (filing : Filing) → (f ≡ e → ⊥) → filed_on half (Some e) place filing h f ≡ filing h f
filed_other half h e f place filing differs =
    let test : same_envelope f e ≡ false =
    ⊎_elim
    (λ (same : same_envelope f e ≡ true). absurd (differs (same_envelope_true f e same)))
    (λ (differ : same_envelope f e ≡ false). differ)
    (cases_Bool (same_envelope f e)) in
    ⊎_elim
    (λ (is : is_half half h ≡ true). rw (is, test) refl)
    (λ (isnt : is_half half h ≡ false). rw isnt refl)
    (cases_Bool (is_half half h))

-- the last element of a list, and what is before it
pub get_last : {A : Type 0} (xs : List A) (x y : A) (i : ℕ) → length xs ≤ i → slice_get (xs ++ x ∷ []) i ≡ Some y → (i ≡ length xs) × (x ≡ y)
get_last [] x y zero past h = (refl, same_Some x y h)
get_last [] x y (suc i) past h = absurd (none-some y h)
get_last (z ∷ zs) x y zero past h = absurd (omega arith)
get_last (z ∷ zs) x y (suc i) past h =
    let rest = get_last zs x y i (omega (arith, past)) h in (ap (λ m. suc m) rest.0, rest.1)

pub drop_next : {A : Type 0} (n : ℕ) (xs : List A) → drop 1 (drop n xs) ≡ drop (suc n) xs
drop_next zero xs = refl
drop_next (suc n) [] = refl
drop_next (suc n) (x ∷ xs) = drop_next n xs

pub drop_first : {A : Type 0} (n : ℕ) (xs : List A) → slice_get (drop n xs) 0 ≡ slice_get xs n
drop_first zero xs = refl
drop_first (suc n) [] = refl
drop_first (suc n) (x ∷ xs) = drop_first n xs

pub get_not_end : {A : Type 0} (xs : List A) (x : A) (i : ℕ) → i ≢ length xs → slice_get (xs ++ x ∷ []) i ≡ slice_get xs i
get_not_end [] x zero differs = absurd (differs refl)
get_not_end [] x (suc i) differs = refl
get_not_end (y ∷ ys) x zero differs = refl
get_not_end (y ∷ ys) x (suc i) differs = get_not_end ys x i (λ same. differs (ap (λ m. suc m) same))

-- the same place of the same half of the same rank
abbrev pub IsPlace : Half → ℕ → ℕ → Half → ℕ → ℕ → Type 0
IsPlace half rank place h r p = (h ≡ half) × (r ≡ rank) × (p ≡ place)

place_cases : (half : Half) (rank place : ℕ) (h : Half) (r p : ℕ) → (IsPlace half rank place h r p) ⊎ (IsPlace half rank place h r p → ⊥)
place_cases half rank place h r p =
    ⊎_elim
    (λ (is_h : h ≡ half).
    ⊎_elim
    (λ (is_r : r ≡ rank).
    ⊎_elim
    (λ (is_p : p ≡ place). inl (is_h, is_r, is_p))
    (λ (differs : p ≢ place). inr (λ is. differs is.2))
    (cases_eq p place))
    (λ (differs : r ≢ rank). inr (λ is. differs is.1))
    (cases_eq r rank))
    (λ (is_h : h ≡ other_half half). inr (λ is. halves_differ half (sym is.0 ∙ is_h)))
    (half_cases half h)

module _ (groups : Groups) (filing : Filing) (half : Half) (e : Envelope) (rank place : ℕ) (own : rank_of_half groups half e ≡ Some rank) (last : (f : Envelope) (number before : ℕ) → rank_of_half groups half f ≡ Some rank → slice_get (filing half f) number ≡ Some before → before < place) where
  -- what is filed stays
  stays : (h : Half) (f : Envelope) (number p : ℕ) → slice_get (filing h f) number ≡ Some p → slice_get (filed_on half (Some e) place filing h f) number ≡ Some p
  stays h f number p found =
      ⊎_elim
      (λ (is_e : f ≡ e).
      ⊎_elim
      (λ (is_half' : h ≡ half).
      subst (λ (x : Half). slice_get (filing x f) number ≡ Some p → slice_get (filed_on half (Some e) place filing x f) number ≡ Some p) (sym is_half')
      (subst (λ (x : Envelope). slice_get (filing half x) number ≡ Some p → slice_get (filed_on half (Some e) place filing half x) number ≡ Some p) (sym is_e)
      (λ there. ap (λ (ps : List ℕ). slice_get ps number) (filed_own half e place filing) ∙ slice_get-front (filing half e) (place ∷ []) number (slice_get_within (filing half e) number p there) ∙ there)) found)
      (λ (is_other : h ≡ other_half half).
      subst (λ (x : Half). slice_get (filing x f) number ≡ Some p → slice_get (filed_on half (Some e) place filing x f) number ≡ Some p) (sym is_other)
      (λ there. ap (λ (ps : List ℕ). slice_get ps number) (filed_other_half half (Some e) f place filing) ∙ there) found)
      (half_cases half h))
      (λ (differs : f ≡ e → ⊥). ap (λ (ps : List ℕ). slice_get ps number) (filed_other half h e f place filing differs) ∙ found)
      (envelope_cases e f)

  -- what is in the lists was there, or is the new half
  abbrev Stood : Half → Envelope → ℕ → ℕ → Type 0
  Stood h f number p = (slice_get (filing h f) number ≡ Some p) ⊎ ((h ≡ half) × (f ≡ e) × (number ≡ length (filing half e)) × (p ≡ place))

  stood : (h : Half) (f : Envelope) (number p : ℕ) → slice_get (filed_on half (Some e) place filing h f) number ≡ Some p → Stood h f number p
  stood h f number p found =
      ⊎_elim
      (λ (is_e : f ≡ e).
      ⊎_elim
      (λ (is_half' : h ≡ half).
      subst (λ (x : Half). slice_get (filed_on half (Some e) place filing x f) number ≡ Some p → Stood x f number p) (sym is_half')
      (subst (λ (x : Envelope). slice_get (filed_on half (Some e) place filing half x) number ≡ Some p → Stood half x number p) (sym is_e)
      (λ there. in_own (sym (ap (λ (ps : List ℕ). slice_get ps number) (filed_own half e place filing)) ∙ there))) found)
      (λ (is_other : h ≡ other_half half).
      subst (λ (x : Half). slice_get (filed_on half (Some e) place filing x f) number ≡ Some p → Stood x f number p) (sym is_other)
      (λ there. inl (sym (ap (λ (ps : List ℕ). slice_get ps number) (filed_other_half half (Some e) f place filing)) ∙ there)) found)
      (half_cases half h))
      (λ (differs : f ≡ e → ⊥). inl (sym (ap (λ (ps : List ℕ). slice_get ps number) (filed_other half h e f place filing differs)) ∙ found))
      (envelope_cases e f)
    where
      in_own : slice_get (filing half e ++ place ∷ []) number ≡ Some p → Stood half e number p
      in_own there =
          ⊎_elim
          (λ (within : number < length (filing half e)). inl (sym (slice_get-front (filing half e) (place ∷ []) number within) ∙ there))
          (λ (past : length (filing half e) ≤ number).
          let end = get_last (filing half e) place p number past there in
          inr (refl, refl, end.0, sym end.1))
          (cases_lt number (length (filing half e)))

  not_yet : (f : Envelope) (number r p : ℕ) → rank_of_half groups half f ≡ Some r → slice_get (filing half f) number ≡ Some p → r ≡ rank → p ≡ place → ⊥
  not_yet f number r p theirs found is_rank is_place =
      let before : p < place = last f number p (theirs ∙ ap (λ (m : ℕ). Some m) is_rank) found in
      absurd (omega (arith, before, is_place))

  -- and so each half is there once
  pub once_more : ((h : Half) (f : Envelope) (number other p : ℕ) → slice_get (filing h f) number ≡ Some p → slice_get (filing h f) other ≡ Some p → number ≡ other) → (h : Half) (f : Envelope) (number other p : ℕ) → slice_get (filed_on half (Some e) place filing h f) number ≡ Some p → slice_get (filed_on half (Some e) place filing h f) other ≡ Some p → number ≡ other
  once_more once h f number other p found found' =
      ⊎_elim
      (λ (old : slice_get (filing h f) number ≡ Some p).
      ⊎_elim
      (λ (old' : slice_get (filing h f) other ≡ Some p). once h f number other p old old')
      (λ (new' : (h ≡ half) × (f ≡ e) × (other ≡ length (filing half e)) × (p ≡ place)). absurd (clash new'.0 new'.1 new'.3 number old))
      (stood h f other p found'))
      (λ (new : (h ≡ half) × (f ≡ e) × (number ≡ length (filing half e)) × (p ≡ place)).
      ⊎_elim
      (λ (old' : slice_get (filing h f) other ≡ Some p). absurd (clash new.0 new.1 new.3 other old'))
      (λ (new' : (h ≡ half) × (f ≡ e) × (other ≡ length (filing half e)) × (p ≡ place)). new.2 ∙ sym new'.2)
      (stood h f other p found'))
      (stood h f number p found)
    where
      clash : h ≡ half → f ≡ e → p ≡ place → (n : ℕ) → slice_get (filing h f) n ≡ Some p → ⊥
      clash is_h is_f is_p n there =
          not_yet e n rank p own
          (subst (λ (x : Envelope). slice_get (filing half x) n ≡ Some p) is_f (subst (λ (x : Half). slice_get (filing x f) n ≡ Some p) is_h there))
          refl is_p

  -- each half is under the envelope of its call
  pub placed_more : (C : Half → ℕ → ℕ → Option Envelope) → C half rank place ≡ Some e → ((h : Half) (f : Envelope) (number r p : ℕ) → rank_of_half groups h f ≡ Some r → slice_get (filing h f) number ≡ Some p → C h r p ≡ Some f) → (h : Half) (f : Envelope) (number r p : ℕ) → rank_of_half groups h f ≡ Some r → slice_get (filed_on half (Some e) place filing h f) number ≡ Some p → C h r p ≡ Some f
  placed_more C here placed h f number r p theirs found =
      ⊎_elim
      (λ (old : slice_get (filing h f) number ≡ Some p). placed h f number r p theirs old)
      (λ (new : (h ≡ half) × (f ≡ e) × (number ≡ length (filing half e)) × (p ≡ place)).
      let same : rank_of_half groups h f ≡ Some rank = ap (λ (x : Half). rank_of_half groups x f) new.0 ∙ ap (λ (x : Envelope). rank_of_half groups half x) new.1 ∙ own in
      let is_rank : r ≡ rank = same_Some r rank (sym theirs ∙ same) in
      ap (λ (x : Half). C x r p) new.0 ∙ ap (λ (x : ℕ). C half x p) is_rank ∙ ap (λ (x : ℕ). C half rank x) new.3 ∙ here ∙ ap (λ (x : Envelope). Some x) (sym new.1))
      (stood h f number p found)

  pub ranked_more : ((h : Half) (f : Envelope) → rank_of_half groups h f ≡ None → filing h f ≡ []) → (h : Half) (f : Envelope) → rank_of_half groups h f ≡ None → filed_on half (Some e) place filing h f ≡ []
  ranked_more ranked h f none =
      ⊎_elim
      (λ (is_f : f ≡ e).
      ⊎_elim
      (λ (is_h : h ≡ half).
      absurd (none-some rank (sym none ∙ ap (λ (x : Half). rank_of_half groups x f) is_h ∙ ap (λ (x : Envelope). rank_of_half groups half x) is_f ∙ own)))
      (λ (is_h : h ≡ other_half half).
      ap (λ (x : Half). filed_on half (Some e) place filing x f) is_h ∙ filed_other_half half (Some e) f place filing ∙ ap (λ (x : Half). filing x f) (sym is_h) ∙ ranked h f none)
      (half_cases half h))
      (λ (differs : f ≡ e → ⊥). filed_other half h e f place filing differs ∙ ranked h f none)
      (envelope_cases e f)

  module _ (kept kept' : Half → ℕ → ℕ → Option ℕ) (pending pending' : Half → Envelope → List ℕ)
      (pending_is : (h : Half) (f : Envelope) → pending h f ≡ drop (length (filing (other_half h) f)) (filing h f))
      (kept_is : (h : Half) (f : Envelope) (number r p : ℕ) → rank_of_half groups h f ≡ Some r → slice_get (filing h f) number ≡ Some p → kept h r p ≡ slice_get (filing (other_half h) f) number)
      (filed : (h : Half) (r p there : ℕ) → kept h r p ≡ Some there → (f : Envelope) × (number : ℕ) × (rank_of_half groups h f ≡ Some r) × (slice_get (filing h f) number ≡ Some p)) where
    -- the half meets the one at `there`
    module _ (other there : ℕ) (their_rank : rank_of_half groups (other_half half) e ≡ Some other)
        (front : slice_get (filing (other_half half) e) (length (filing half e)) ≡ Some there)
        (once : (h : Half) (f : Envelope) (number number' p : ℕ) → slice_get (filing h f) number ≡ Some p → slice_get (filing h f) number' ≡ Some p → number ≡ number')
        (alone : (h : Half) (f g : Envelope) (number number' r p : ℕ) → rank_of_half groups h f ≡ Some r → rank_of_half groups h g ≡ Some r → slice_get (filing h f) number ≡ Some p → slice_get (filing h g) number' ≡ Some p → g ≡ f)
        (kept_own : kept' half rank place ≡ Some there)
        (kept_their : kept' (other_half half) other there ≡ Some place)
        (kept_rest : (h : Half) (r p : ℕ) → (IsPlace half rank place h r p → ⊥) → (IsPlace (other_half half) other there h r p → ⊥) → kept' h r p ≡ kept h r p)
        (pending_other : pending' (other_half half) e ≡ drop 1 (pending (other_half half) e))
        (pending_rest : (h : Half) (f : Envelope) → ((h ≡ other_half half) × (f ≡ e) → ⊥) → pending' h f ≡ pending h f) where
      kept_of_own : (f : Envelope) (number r p : ℕ) → rank_of_half groups half f ≡ Some r → slice_get (filed_on half (Some e) place filing half f) number ≡ Some p → kept' half r p ≡ slice_get (filed_on half (Some e) place filing (other_half half) f) number
      kept_of_own f number r p theirs found =
          ⊎_elim
          (λ (old : slice_get (filing half f) number ≡ Some p).
          kept_rest half r p (λ is. not_yet f number r p theirs old is.1 is.2) (λ is. halves_differ half is.0)
          ∙ kept_is half f number r p theirs old
          ∙ sym (ap (λ (ps : List ℕ). slice_get ps number) (filed_other_half half (Some e) f place filing)))
          (λ (new : (half ≡ half) × (f ≡ e) × (number ≡ length (filing half e)) × (p ≡ place)).
          let is_rank : r ≡ rank = same_Some r rank (sym theirs ∙ ap (λ (x : Envelope). rank_of_half groups half x) new.1 ∙ own) in
          ap (λ (x : ℕ). kept' half x p) is_rank
          ∙ ap (λ (x : ℕ). kept' half rank x) new.3
          ∙ kept_own
          ∙ sym (ap (λ (ps : List ℕ). slice_get ps number) (filed_other_half half (Some e) f place filing)
          ∙ ap (λ (x : Envelope). slice_get (filing (other_half half) x) number) new.1
          ∙ ap (λ (n : ℕ). slice_get (filing (other_half half) e) n) new.2
          ∙ front))
          (stood half f number p found)

      kept_of_other : (f : Envelope) (number r p : ℕ) → rank_of_half groups (other_half half) f ≡ Some r → slice_get (filing (other_half half) f) number ≡ Some p → kept' (other_half half) r p ≡ slice_get (filed_on half (Some e) place filing half f) number
      kept_of_other f number r p theirs found =
          ⊎_elim
          (λ (is_f : f ≡ e).
          let found_e : slice_get (filing (other_half half) e) number ≡ Some p = subst (λ (x : Envelope). slice_get (filing (other_half half) x) number ≡ Some p) is_f found in
          let theirs_e : rank_of_half groups (other_half half) e ≡ Some r = subst (λ (x : Envelope). rank_of_half groups (other_half half) x ≡ Some r) is_f theirs in
          let is_rank : r ≡ other = same_Some r other (sym theirs_e ∙ their_rank) in
          ap (λ (x : ℕ). kept' (other_half half) x p) is_rank
          ∙ ⊎_elim
          (λ (is_end : number ≡ length (filing half e)).
          let is_there : p ≡ there = same_Some p there (sym found_e ∙ ap (λ (n : ℕ). slice_get (filing (other_half half) e) n) is_end ∙ front) in
          ap (λ (x : ℕ). kept' (other_half half) other x) is_there
          ∙ kept_their
          ∙ sym (ap (λ (ps : List ℕ). slice_get ps number) (filed_own half e place filing)
          ∙ ap (λ (n : ℕ). slice_get (filing half e ++ place ∷ []) n) is_end
          ∙ get_end (filing half e) place))
          (λ (not_end : number ≢ length (filing half e)).
          kept_rest (other_half half) other p
          (λ is. halves_differ half (sym is.0))
          (λ is. not_end (once (other_half half) e number (length (filing half e)) there (found_e ∙ ap (λ (m : ℕ). Some m) is.2) front))
          ∙ kept_is (other_half half) e number other p their_rank found_e
          ∙ ap (λ (x : Half). slice_get (filing x e) number) (other_other half)
          ∙ sym (ap (λ (ps : List ℕ). slice_get ps number) (filed_own half e place filing)
          ∙ get_not_end (filing half e) place number not_end))
          (cases_eq number (length (filing half e)))
          ∙ ap (λ (x : Envelope). slice_get (filed_on half (Some e) place filing half x) number) (sym is_f))
          (λ (differs : f ≡ e → ⊥).
          kept_rest (other_half half) r p
          (λ is. halves_differ half (sym is.0))
          (λ is.
          differs
          (alone (other_half half) e f (length (filing half e)) number other there their_rank
          (theirs ∙ ap (λ (m : ℕ). Some m) is.1) front (found ∙ ap (λ (m : ℕ). Some m) is.2)))
          ∙ kept_is (other_half half) f number r p theirs found
          ∙ ap (λ (x : Half). slice_get (filing x f) number) (other_other half)
          ∙ sym (ap (λ (ps : List ℕ). slice_get ps number) (filed_other half half e f place filing differs)))
          (envelope_cases e f)

      pub met_kept : (h : Half) (f : Envelope) (number r p : ℕ) → rank_of_half groups h f ≡ Some r → slice_get (filed_on half (Some e) place filing h f) number ≡ Some p → kept' h r p ≡ slice_get (filed_on half (Some e) place filing (other_half h) f) number
      met_kept h f number r p theirs found =
          ⊎_elim
          (λ (is_h : h ≡ half).
          subst (λ (x : Half). rank_of_half groups x f ≡ Some r → slice_get (filed_on half (Some e) place filing x f) number ≡ Some p → kept' x r p ≡ slice_get (filed_on half (Some e) place filing (other_half x) f) number) (sym is_h)
          (kept_of_own f number r p) theirs found)
          (λ (is_h : h ≡ other_half half).
          subst (λ (x : Half). rank_of_half groups x f ≡ Some r → slice_get (filed_on half (Some e) place filing x f) number ≡ Some p → kept' x r p ≡ slice_get (filed_on half (Some e) place filing (other_half x) f) number) (sym is_h)
          (λ theirs' found'.
          kept_of_other f number r p theirs' (sym (ap (λ (ps : List ℕ). slice_get ps number) (filed_other_half half (Some e) f place filing)) ∙ found')
          ∙ ap (λ (x : Half). slice_get (filed_on half (Some e) place filing x f) number) (sym (other_other half)))
          theirs found)
          (half_cases half h)

      pub met_filed : (h : Half) (r p x : ℕ) → kept' h r p ≡ Some x → (f : Envelope) × (number : ℕ) × (rank_of_half groups h f ≡ Some r) × (slice_get (filed_on half (Some e) place filing h f) number ≡ Some p)
      met_filed h r p x is =
          ⊎_elim
          (λ (new : IsPlace half rank place h r p). (
            e,
            length (filing half e),
            ap (λ (y : Half). rank_of_half groups y e) new.0 ∙ own ∙ ap (λ (m : ℕ). Some m) (sym new.1),
            ap (λ (y : Half). slice_get (filed_on half (Some e) place filing y e) (length (filing half e))) new.0
                ∙ ap (λ (ps : List ℕ). slice_get ps (length (filing half e))) (filed_own half e place filing)
                ∙ get_end (filing half e) place ∙ ap (λ (m : ℕ). Some m) (sym new.2),
          ))
          (λ (not_new : IsPlace half rank place h r p → ⊥).
          ⊎_elim
          (λ (met : IsPlace (other_half half) other there h r p). (
            e,
            length (filing half e),
            ap (λ (y : Half). rank_of_half groups y e) met.0 ∙ their_rank ∙ ap (λ (m : ℕ). Some m) (sym met.1),
            ap (λ (y : Half). slice_get (filed_on half (Some e) place filing y e) (length (filing half e))) met.0
                ∙ ap (λ (ps : List ℕ). slice_get ps (length (filing half e))) (filed_other_half half (Some e) e place filing)
                ∙ front ∙ ap (λ (m : ℕ). Some m) (sym met.2),
          ))
          (λ (not_met : IsPlace (other_half half) other there h r p → ⊥).
          let old = filed h r p x (sym (kept_rest h r p not_new not_met) ∙ is) in
          (old.0, old.1, old.2, stays h old.0 old.1 p old.3))
          (place_cases (other_half half) other there h r p))
          (place_cases half rank place h r p)

      pub met_pending : (h : Half) (f : Envelope) → pending' h f ≡ drop (length (filed_on half (Some e) place filing (other_half h) f)) (filed_on half (Some e) place filing h f)
      met_pending h f =
          ⊎_elim
          (λ (is_h : h ≡ half).
          subst (λ (x : Half). pending' x f ≡ drop (length (filed_on half (Some e) place filing (other_half x) f)) (filed_on half (Some e) place filing x f)) (sym is_h)
          (⊎_elim
          (λ (is_f : f ≡ e).
          subst (λ (x : Envelope). pending' half x ≡ drop (length (filed_on half (Some e) place filing (other_half half) x)) (filed_on half (Some e) place filing half x)) (sym is_f)
          (let more : length (filing half e) < length (filing (other_half half) e) = slice_get_within (filing (other_half half) e) (length (filing half e)) there front in
          pending_rest half e (λ is. halves_differ half is.0)
          ∙ pending_is half e
          ∙ drop_all (length (filing (other_half half) e)) (filing half e) (omega (arith, more))
          ∙ sym (ap (λ (ps : List ℕ). drop (length ps) (filed_on half (Some e) place filing half e)) (filed_other_half half (Some e) e place filing)
          ∙ ap (λ (ps : List ℕ). drop (length (filing (other_half half) e)) ps) (filed_own half e place filing)
          ∙ drop_all (length (filing (other_half half) e)) (filing half e ++ place ∷ []) (omega (arith, more, length-append (filing half e) (place ∷ []))))))
          (λ (differs : f ≡ e → ⊥).
          pending_rest half f (λ is. differs is.1) ∙ pending_is half f
          ∙ sym (ap (λ (ps : List ℕ). drop (length ps) (filed_on half (Some e) place filing half f)) (filed_other_half half (Some e) f place filing)
          ∙ ap (λ (ps : List ℕ). drop (length (filing (other_half half) f)) ps) (filed_other half half e f place filing differs)))
          (envelope_cases e f)))
          (λ (is_h : h ≡ other_half half).
          subst (λ (x : Half). pending' x f ≡ drop (length (filed_on half (Some e) place filing (other_half x) f)) (filed_on half (Some e) place filing x f)) (sym is_h)
          (⊎_elim
          (λ (is_f : f ≡ e).
          subst (λ (x : Envelope). pending' (other_half half) x ≡ drop (length (filed_on half (Some e) place filing (other_half (other_half half)) x)) (filed_on half (Some e) place filing (other_half half) x)) (sym is_f)
          (pending_other
          ∙ ap (drop 1) (pending_is (other_half half) e)
          ∙ drop_next (length (filing (other_half (other_half half)) e)) (filing (other_half half) e)
          ∙ ap (λ (x : Half). drop (suc (length (filing x e))) (filing (other_half half) e)) (other_other half)
          ∙ ap (λ (n : ℕ). drop n (filing (other_half half) e)) (one_more (filing half e))
          ∙ sym (ap (λ (x : Half). drop (length (filed_on half (Some e) place filing x e)) (filed_on half (Some e) place filing (other_half half) e)) (other_other half)
          ∙ ap (λ (ps : List ℕ). drop (length ps) (filed_on half (Some e) place filing (other_half half) e)) (filed_own half e place filing)
          ∙ ap (λ (ps : List ℕ). drop (length (filing half e ++ place ∷ [])) ps) (filed_other_half half (Some e) e place filing))))
          (λ (differs : f ≡ e → ⊥).
          pending_rest (other_half half) f (λ is. differs is.1) ∙ pending_is (other_half half) f
          ∙ ap (λ (x : Half). drop (length (filing x f)) (filing (other_half half) f)) (other_other half)
          ∙ sym (ap (λ (x : Half). drop (length (filed_on half (Some e) place filing x f)) (filed_on half (Some e) place filing (other_half half) f)) (other_other half)
          ∙ ap (λ (ps : List ℕ). drop (length ps) (filed_on half (Some e) place filing (other_half half) f)) (filed_other half half e f place filing differs)
          ∙ ap (λ (ps : List ℕ). drop (length (filing half f)) ps) (filed_other_half half (Some e) f place filing)))
          (envelope_cases e f)))
          (half_cases half h)
        where
          one_more : (xs : List ℕ) → suc (length xs) ≡ length (xs ++ place ∷ [])
          one_more xs = omega (arith, length-append xs (place ∷ []))

    -- the half is pending itself
    module _ (none : slice_get (filing (other_half half) e) (length (filing half e)) ≡ None)
        (pending_own : pending' half e ≡ pending half e ++ place ∷ [])
        (pending_rest : (h : Half) (f : Envelope) → ((h ≡ half) × (f ≡ e) → ⊥) → pending' h f ≡ pending h f) where
      few : length (filing (other_half half) e) ≤ length (filing half e)
      few = none_there (filing (other_half half) e) (length (filing half e)) none

      not_kept : kept half rank place ≡ None
      not_kept = by_option (kept half rank place) refl
        where
          by_option : (o : Option ℕ) → kept half rank place ≡ o → o ≡ None
          by_option None is = refl
          by_option (Some x) is =
              let old = filed half rank place x is in
              absurd (not_yet old.0 old.1 rank place old.2 old.3 refl refl)

      pub waits_kept : (h : Half) (f : Envelope) (number r p : ℕ) → rank_of_half groups h f ≡ Some r → slice_get (filed_on half (Some e) place filing h f) number ≡ Some p → kept h r p ≡ slice_get (filed_on half (Some e) place filing (other_half h) f) number
      waits_kept h f number r p theirs found =
          ⊎_elim
          (λ (old : slice_get (filing h f) number ≡ Some p).
          kept_is h f number r p theirs old
          ∙ ⊎_elim
          (λ (is_h : h ≡ half).
          sym (ap (λ (x : Half). slice_get (filed_on half (Some e) place filing (other_half x) f) number) is_h
          ∙ ap (λ (ps : List ℕ). slice_get ps number) (filed_other_half half (Some e) f place filing)
          ∙ ap (λ (x : Half). slice_get (filing (other_half x) f) number) (sym is_h)))
          (λ (is_h : h ≡ other_half half).
          let back : other_half h ≡ half = ap other_half is_h ∙ other_other half in
          ap (λ (x : Half). slice_get (filing x f) number) back
          ∙ ⊎_elim
          (λ (is_f : f ≡ e).
          let found_e : slice_get (filing (other_half half) e) number ≡ Some p =
          subst (λ (x : Envelope). slice_get (filing (other_half half) x) number ≡ Some p) is_f (subst (λ (x : Half). slice_get (filing x f) number ≡ Some p) is_h old) in
          let within = slice_get_within (filing (other_half half) e) number p found_e in
          ap (λ (x : Envelope). slice_get (filing half x) number) is_f
          ∙ sym (ap (λ (x : Envelope). slice_get (filed_on half (Some e) place filing half x) number) is_f
          ∙ ap (λ (ps : List ℕ). slice_get ps number) (filed_own half e place filing)
          ∙ slice_get-front (filing half e) (place ∷ []) number (omega (arith, within, few))))
          (λ (differs : f ≡ e → ⊥). sym (ap (λ (ps : List ℕ). slice_get ps number) (filed_other half half e f place filing differs)))
          (envelope_cases e f)
          ∙ ap (λ (x : Half). slice_get (filed_on half (Some e) place filing x f) number) (sym back))
          (half_cases half h))
          (λ (new : (h ≡ half) × (f ≡ e) × (number ≡ length (filing half e)) × (p ≡ place)).
          let same : rank_of_half groups h f ≡ Some rank = ap (λ (x : Half). rank_of_half groups x f) new.0 ∙ ap (λ (x : Envelope). rank_of_half groups half x) new.1 ∙ own in
          let is_rank : r ≡ rank = same_Some r rank (sym theirs ∙ same) in
          ap (λ (x : Half). kept x r p) new.0
          ∙ ap (λ (x : ℕ). kept half x p) is_rank
          ∙ ap (λ (x : ℕ). kept half rank x) new.3
          ∙ not_kept
          ∙ sym (ap (λ (x : Half). slice_get (filed_on half (Some e) place filing (other_half x) f) number) new.0
          ∙ ap (λ (ps : List ℕ). slice_get ps number) (filed_other_half half (Some e) f place filing)
          ∙ ap (λ (x : Envelope). slice_get (filing (other_half half) x) number) new.1
          ∙ ap (λ (n : ℕ). slice_get (filing (other_half half) e) n) new.2
          ∙ none))
          (stood h f number p found)

      pub waits_filed : (h : Half) (r p x : ℕ) → kept h r p ≡ Some x → (f : Envelope) × (number : ℕ) × (rank_of_half groups h f ≡ Some r) × (slice_get (filed_on half (Some e) place filing h f) number ≡ Some p)
      waits_filed h r p x is = let old = filed h r p x is in (old.0, old.1, old.2, stays h old.0 old.1 p old.3)

      pub waits_pending : (h : Half) (f : Envelope) → pending' h f ≡ drop (length (filed_on half (Some e) place filing (other_half h) f)) (filed_on half (Some e) place filing h f)
      waits_pending h f =
          ⊎_elim
          (λ (is_h : h ≡ half).
          subst (λ (x : Half). pending' x f ≡ drop (length (filed_on half (Some e) place filing (other_half x) f)) (filed_on half (Some e) place filing x f)) (sym is_h)
          (⊎_elim
          (λ (is_f : f ≡ e).
          subst (λ (x : Envelope). pending' half x ≡ drop (length (filed_on half (Some e) place filing (other_half half) x)) (filed_on half (Some e) place filing half x)) (sym is_f)
          (pending_own
          ∙ ap (λ (ps : List ℕ). ps ++ place ∷ []) (pending_is half e)
          ∙ sym (ap (λ (ps : List ℕ). drop (length ps) (filed_on half (Some e) place filing half e)) (filed_other_half half (Some e) e place filing)
          ∙ ap (λ (ps : List ℕ). drop (length (filing (other_half half) e)) ps) (filed_own half e place filing)
          ∙ drop-append-le (length (filing (other_half half) e)) (filing half e) (place ∷ []) few)))
          (λ (differs : f ≡ e → ⊥).
          pending_rest half f (λ is. differs is.1) ∙ pending_is half f
          ∙ sym (ap (λ (ps : List ℕ). drop (length ps) (filed_on half (Some e) place filing half f)) (filed_other_half half (Some e) f place filing)
          ∙ ap (λ (ps : List ℕ). drop (length (filing (other_half half) f)) ps) (filed_other half half e f place filing differs)))
          (envelope_cases e f)))
          (λ (is_h : h ≡ other_half half).
          subst (λ (x : Half). pending' x f ≡ drop (length (filed_on half (Some e) place filing (other_half x) f)) (filed_on half (Some e) place filing x f)) (sym is_h)
          (pending_rest (other_half half) f (λ is. halves_differ half (sym is.0))
          ∙ pending_is (other_half half) f
          ∙ ap (λ (x : Half). drop (length (filing x f)) (filing (other_half half) f)) (other_other half)
          ∙ ⊎_elim
          (λ (is_f : f ≡ e).
          ap (λ (x : Envelope). drop (length (filing half x)) (filing (other_half half) x)) is_f
          ∙ drop_all (length (filing half e)) (filing (other_half half) e) few
          ∙ sym (ap (λ (x : Envelope). drop (length (filed_on half (Some e) place filing half x)) (filing (other_half half) x)) is_f
          ∙ ap (λ (ps : List ℕ). drop (length ps) (filing (other_half half) e)) (filed_own half e place filing)
          ∙ drop_all (length (filing half e ++ place ∷ [])) (filing (other_half half) e) (omega (arith, few, length-append (filing half e) (place ∷ [])))))
          (λ (differs : f ≡ e → ⊥).
          sym (ap (λ (ps : List ℕ). drop (length ps) (filing (other_half half) f)) (filed_other half half e f place filing differs)))
          (envelope_cases e f)
          ∙ sym (ap (λ (x : Half). drop (length (filed_on half (Some e) place filing x f)) (filed_on half (Some e) place filing (other_half half) f)) (other_other half)
          ∙ ap (λ (ps : List ℕ). drop (length (filed_on half (Some e) place filing half f)) ps) (filed_other_half half (Some e) f place filing))))
          (half_cases half h)
