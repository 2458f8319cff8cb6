-- Numbers by places of keys are the numbers of the keys.
use Rattle.std.proofs.Common.{◌≡◌, refl, sym, ap, subst, ◌∙◌, ℕ, zero, suc, ◌+◌, ◌-◌, ◌≤◌, ◌<◌, inl, inr, zero-add, suc-add, arith, Bool, true, false, ◌||◌, ◌==◌, eq-eqb, ne_eqb, if◌then◌else◌, le-ltb, List, [], ◌∷◌, ◌++◌, length, drop, take, map, filter, Option, Some}
use Rattle.std.specs.Prelude.{slice_get, slice_range}
use Rattle.std.specs.List.{AllZip, flat_map, list_any, range_with_len}
use Rattle.std.proofs.lemmas.List.{length-append, length-drop}
use Rattle.std.proofs.lemmas.Bool.{cases_Bool, cases_eq, false≢true}
use Rattle.journals.specs.Known.{is_among}
use Rattle.closing.specs.Keys.{Key, same_key, is_key_among, each_once}
use Rattle.closing.specs.Table.{Table}
use Rattle.closing.specs.inner.Table.{HasKey, IsTable}
use Rattle.closing.specs.inner.Given.{as_places, got_between, or_none, places_from, places_once}
use Rattle.closing.specs.inner.Surveyed.{ends_from}
use Rattle.closing.proofs.KeyLemmas.{same_key_itself, same_key_true}

-- ---- Lists of which each stands for that of another ----

module _ {A B : Type 0} (R : A → B → Type 0) where
  pub zip_take : (n : ℕ) (xs : List A) (ys : List B) → AllZip R xs ys → AllZip R (take n xs) (take n ys)
  zip_take zero xs ys h = tt
  zip_take (suc n) [] [] h = tt
  zip_take (suc n) [] (y ∷ ys) h = absurd h
  zip_take (suc n) (x ∷ xs) [] h = absurd h
  zip_take (suc n) (x ∷ xs) (y ∷ ys) h = (h.0, zip_take n xs ys h.1)

  pub zip_append : (xs : List A) (ys : List B) (as_ : List A) (bs : List B) → AllZip R xs ys → AllZip R as_ bs → AllZip R (xs ++ as_) (ys ++ bs)
  zip_append [] [] as_ bs h g = g
  zip_append [] (y ∷ ys) as_ bs h g = absurd h
  zip_append (x ∷ xs) [] as_ bs h g = absurd h
  zip_append (x ∷ xs) (y ∷ ys) as_ bs h g = (h.0, zip_append xs ys as_ bs h.1 g)

  -- of two lists put together the first, and the other
  pub zip_first : (xs : List A) (ys zs : List B) → AllZip R xs (ys ++ zs) → AllZip R (take (length ys) xs) ys
  zip_first [] [] zs h = tt
  zip_first [] (y ∷ ys) zs h = absurd h
  zip_first (x ∷ xs) [] zs h = tt
  zip_first (x ∷ xs) (y ∷ ys) zs h = (h.0, zip_first xs ys zs h.1)

  pub zip_rest : (xs : List A) (ys zs : List B) → AllZip R xs (ys ++ zs) → AllZip R (drop (length ys) xs) zs
  zip_rest xs [] zs h = h
  zip_rest [] (y ∷ ys) zs h = absurd h
  zip_rest (x ∷ xs) (y ∷ ys) zs h = zip_rest xs ys zs h.1

  pub zip_length : (xs : List A) (ys : List B) → AllZip R xs ys → length xs ≡ length ys
  zip_length [] [] h = refl
  zip_length [] (y ∷ ys) h = absurd h
  zip_length (x ∷ xs) [] h = absurd h
  zip_length (x ∷ xs) (y ∷ ys) h = ap suc (zip_length xs ys h.1)

  -- what stands at a place of the one, and what it stands for there
  pub zip_at : (xs : List A) (ys : List B) (n : ℕ) (x : A) → AllZip R xs ys → slice_get xs n ≡ Some x → (y : B) × (slice_get ys n ≡ Some y) × R x y
  zip_at [] ys n x h e = absurd (cc)
  zip_at (a ∷ xs) [] n x h e = absurd h
  zip_at (a ∷ xs) (b ∷ ys) zero x h e = let same : a ≡ x = cc in (b, refl, subst (λ z. R z b) same h.0)
  zip_at (a ∷ xs) (b ∷ ys) (suc n) x h e = zip_at xs ys n x h.1 e

  pub zip_back : (xs : List A) (ys : List B) (n : ℕ) (y : B) → AllZip R xs ys → slice_get ys n ≡ Some y → (x : A) × (slice_get xs n ≡ Some x) × R x y
  zip_back xs [] n y h e = absurd (cc)
  zip_back [] (b ∷ ys) n y h e = absurd h
  zip_back (a ∷ xs) (b ∷ ys) zero y h e = let same : b ≡ y = cc in (a, refl, subst (λ z. R a z) same h.0)
  zip_back (a ∷ xs) (b ∷ ys) (suc n) y h e = zip_back xs ys n y h.1 e

  pub zip_any : (t : A → Bool) (u : B → Bool) (xs : List A) (ys : List B) → ((x : A) (y : B) → R x y → t x ≡ u y) → AllZip R xs ys → list_any t xs ≡ list_any u ys
  zip_any t u [] [] same h = refl
  zip_any t u [] (y ∷ ys) same h = absurd h
  zip_any t u (x ∷ xs) [] same h = absurd h
  zip_any t u (x ∷ xs) (y ∷ ys) same h = ap (λ b. b || list_any t xs) (same x y h.0) ∙ ap (λ b. u y || b) (zip_any t u xs ys same h.1)

  zip_kept : (b c : Bool) (x : A) (y : B) (xs : List A) (ys : List B) → b ≡ c → R x y → AllZip R xs ys → AllZip R (if b then x ∷ xs else xs) (if c then y ∷ ys else ys)
  zip_kept true true x y xs ys e r h = (r, h)
  zip_kept true false x y xs ys e r h = absurd (false≢true (sym e))
  zip_kept false true x y xs ys e r h = absurd (false≢true e)
  zip_kept false false x y xs ys e r h = h

  -- those of which tests say the same
  pub zip_filter : (t : A → Bool) (u : B → Bool) (xs : List A) (ys : List B) → ((x : A) (y : B) → R x y → t x ≡ u y) → AllZip R xs ys → AllZip R (filter t xs) (filter u ys)
  zip_filter t u [] [] same h = tt
  zip_filter t u [] (y ∷ ys) same h = absurd h
  zip_filter t u (x ∷ xs) [] same h = absurd h
  zip_filter t u (x ∷ xs) (y ∷ ys) same h = zip_kept (t x) (u y) x y (filter t xs) (filter u ys) (same x y h.0) h.0 (zip_filter t u xs ys same h.1)

-- ---- Keys ----

-- two keys are the same exactly if their places are
pub key_test : (table : Table) (place other : ℕ) (key another : Key) → IsTable table → HasKey table place key → HasKey table other another → (place == other) ≡ same_key key another
key_test table place other key another h a b = elim (cases_eq place other) [
  | inl same ↦
      let P : ℕ → Type 0 = λ n. HasKey table n key in
      let k : Some key ≡ Some another = sym (subst P same a) ∙ b in
      let e : key ≡ another = cc in
      eq-eqb place other same ∙ sym (ap (λ k. same_key key k) (sym e) ∙ same_key_itself key)
  | inr apart ↦ ne_eqb place other apart ∙ elim (cases_Bool (same_key key another)) [
    | inl holds ↦
        let e : key ≡ another = same_key_true key another holds in
        let P : Key → Type 0 = λ k. HasKey table place k in
        absurd (apart (h.keys_once place other another (subst P e a) b))
    | inr fails ↦ sym fails
  ]
]

pub among_same : (table : Table) (place : ℕ) (key : Key) (places : List ℕ) (keys : List Key) → IsTable table → HasKey table place key → AllZip (HasKey table) places keys → is_among place places ≡ is_key_among key keys
among_same table place key [] [] h a all = refl
among_same table place key [] (k ∷ keys) h a all = absurd all
among_same table place key (p ∷ places) [] h a all = absurd all
among_same table place key (p ∷ places) (k ∷ keys) h a all =
    ap (λ b. b || is_among place places) (key_test table p place k key h all.0 a)
    ∙ ap (λ b. same_key k key || b) (among_same table place key places keys h a all.1)

once_if : (table : Table) (b c : Bool) (place : ℕ) (key : Key) (skip more : List ℕ) (skips mores : List Key) → b ≡ c → HasKey table place key → AllZip (HasKey table) skip skips → AllZip (HasKey table) more mores → AllZip (HasKey table) (if b then skip else place ∷ more) (if c then skips else key ∷ mores)
once_if table true true place key skip more skips mores e a s m = s
once_if table true false place key skip more skips mores e a s m = absurd (false≢true (sym e))
once_if table false true place key skip more skips mores e a s m = absurd (false≢true e)
once_if table false false place key skip more skips mores e a s m = (a, m)

-- each place once is that of each key once
pub once_same : (table : Table) (before places : List ℕ) (seen keys : List Key) → IsTable table → AllZip (HasKey table) before seen → AllZip (HasKey table) places keys → AllZip (HasKey table) (places_once before places) (each_once seen keys)
once_same table before [] seen [] h had all = tt
once_same table before [] seen (k ∷ keys) h had all = absurd all
once_same table before (p ∷ places) seen [] h had all = absurd all
once_same table before (p ∷ places) seen (k ∷ keys) h had all =
    once_if table (is_among p before) (is_key_among k seen) p k _ _ _ _ (among_same table p k before seen h all.0 had) all.0
    (once_same table before places seen keys h had all.1)
    (once_same table (p ∷ before) places (k ∷ seen) keys h (all.0, had) all.1)

-- ---- The keys of all ranks ----

drop_more : {X : Type 0} (n m : ℕ) (xs : List X) → drop m (drop n xs) ≡ drop (n + m) xs
drop_more zero m xs = ap (λ k. drop k xs) (sym (zero-add m))
drop_more (suc n) m [] = drop_empty m ∙ sym (ap (λ k. drop k []) (suc-add n m))
  where
    drop_empty : {X : Type 0} (m : ℕ) → drop {A = X} m [] ≡ []
    drop_empty zero = refl
    drop_empty (suc m) = refl
drop_more (suc n) m (x ∷ xs) = drop_more n m xs ∙ ap (λ k. drop k (x ∷ xs)) (sym (suc-add n m))

length_drop_append : {A B : Type 0} (R : A → B → Type 0) (got : List A) (start : ℕ) (ys zs : List B) → AllZip R (drop start got) (ys ++ zs) → start ≤ length got → start + length ys ≤ length got
length_drop_append R got start ys zs h inside =
    let a : length (drop start got) ≡ length (ys ++ zs) = zip_length R (drop start got) (ys ++ zs) h in
    omega (arith, length-append ys zs, length-drop start got)

between_is : (got : List ℕ) (start count : ℕ) → start + count ≤ length got → got_between got start (start + count) ≡ take count (drop start got)
between_is got start count h =
    ap (λ b. if b then [] else slice_range got start (start + count)) (le-ltb (length got) (start + count) h)
    ∙ (let k : start + count - start ≡ count = omega arith in ap (λ n. take n (drop start got)) k)

-- the places that are kept of ranks stand for their keys
pub ranks_same : (H : ℕ → Key → Type 0) (got : List ℕ) (inferred : List (Option ℕ)) (f g : ℕ → List Key) (count rank start : ℕ) → start ≤ length got → AllZip H (drop start got) (flat_map f (range_with_len rank count)) → ((other : ℕ) → rank ≤ other → other < rank + count → AllZip H (as_places (or_none (slice_get inferred other))) (g other)) → AllZip H (places_from got inferred rank start (ends_from start (map f (range_with_len rank count)))) (flat_map (λ other. f other ++ g other) (range_with_len rank count))
ranks_same H got inferred f g zero rank start inside h k = tt
ranks_same H got inferred f g (suc count) rank start inside h k =
    let keys = f rank in
    let others = flat_map f (range_with_len (rank + 1) count) in
    let more = length_drop_append H got start keys others h inside in
    let first : AllZip H (got_between got start (start + length keys)) keys =
    (let P : List ℕ → Type 0 = λ xs. AllZip H xs keys in
    subst P (sym (between_is got start (length keys) more)) (zip_first H (drop start got) keys others h)) in
    let rest : AllZip H (drop (start + length keys) got) others =
    (let P : List ℕ → Type 0 = λ xs. AllZip H xs others in
    subst P (drop_more start (length keys) got) (zip_rest H (drop start got) keys others h)) in
    let also = zip_append H (got_between got start (start + length keys)) keys (as_places (or_none (slice_get inferred rank))) (g rank) first (k rank (omega arith) (omega arith)) in
    zip_append H (got_between got start (start + length keys) ++ as_places (or_none (slice_get inferred rank))) (keys ++ g rank)
    (places_from got inferred (rank + 1) (start + length keys) (ends_from (start + length keys) (map f (range_with_len (rank + 1) count))))
    (flat_map (λ other. f other ++ g other) (range_with_len (rank + 1) count))
    also
    (ranks_same H got inferred f g count (rank + 1) (start + length keys) more rest (λ other a b. k other (omega arith) (omega arith)))
