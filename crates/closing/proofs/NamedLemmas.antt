-- Which keys were got and named so far, as the survey goes on.
use Rattle.std.proofs.Common.{◌≡◌, ◌∙◌, ◌⊎◌, refl, sym, ap, subst, ℕ, zero, suc, ◌+◌, ◌-◌, ◌<◌, ◌≤◌, ◌||◌, Bool, true, false, List, [], ◌∷◌, ◌++◌, length, replicate, Option, Some, None, inl, inr, arith, append_assoc, length-append}
use Rattle.std.specs.Prelude.{unwrap_or, slice_set}
use Rattle.std.specs.List.{AllZip, slice_get}
use Rattle.std.proofs.lemmas.List.{append-nil, length-replicate, length-set, replicate-append-replicate}
use Rattle.std.proofs.lemmas.List.Folds.{list_any-append}
use Rattle.std.proofs.lemmas.Option.{slice_get_past, slice_get_within}
use Rattle.std.proofs.lemmas.Bool.{cases_lt, cases_order}
use Rattle.mpicall.specs.Word.{or_else}
use Rattle.journals.specs.declared.field.Field.{Field}
use Rattle.journals.specs.declared.word.ReportWord.{ReportWord}
use Rattle.journals.specs.declared.word.ReportWord.TheVariants as report
use Rattle.closing.specs.Called.{Called, MakesOfGroup}
use Rattle.closing.specs.Keys.{Key, is_key_among, same_key}
use Rattle.closing.specs.RankComms.{RankComms, key_next, with_some}
use Rattle.closing.specs.inner.Holds.{IsGot, brings, key_on, report_taken}
use Rattle.closing.specs.inner.Pending.{key_told}
use Rattle.closing.specs.inner.Surveyed.{HaveFlags, as_list, with_name}
use Rattle.closing.specs.Table.{Table}
use Rattle.closing.specs.inner.Table.{Grows, HasKey, IsTable, IsPlaceOf, keys_in}
use Rattle.closing.proofs.HoldsLemmas.{zip_grows, zip_push}
use Rattle.closing.proofs.KeyLemmas.{same_key-Decides}
use Rattle.closing.proofs.NumberLists.{or_false, or_true}
use Rattle.closing.proofs.PlaceListLemmas.{got_within}

-- ---- Flags ----

flags_none : (n place : ℕ) → unwrap_or (slice_get (replicate n false) place) false ≡ false
flags_none zero place = refl
flags_none (suc n) zero = refl
flags_none (suc n) (suc place) = flags_none n place

-- more flags that say no
flags_more : (flags : List Bool) (n place : ℕ) → unwrap_or (slice_get (flags ++ replicate n false) place) false ≡ unwrap_or (slice_get flags place) false
flags_more [] n place = flags_none n place
flags_more (flag ∷ flags) n zero = refl
flags_more (flag ∷ flags) n (suc place) = flags_more flags n place

module _ {A : Type 0} where
  pub set_there : (xs : List A) (n : ℕ) (x : A) → n < length xs → slice_get (slice_set xs n x) n ≡ Some x
  set_there [] n x h = absurd (omega arith)
  set_there (y ∷ xs) zero x h = refl
  set_there (y ∷ xs) (suc n) x h = set_there xs n x (omega arith)

  pub set_other : (xs : List A) (n m : ℕ) (x : A) → (n ≡ m → ⊥) → slice_get (slice_set xs n x) m ≡ slice_get xs m
  set_other [] n m x h = refl
  set_other (y ∷ xs) zero zero x h = absurd (h refl)
  set_other (y ∷ xs) zero (suc m) x h = refl
  set_other (y ∷ xs) (suc n) zero x h = refl
  set_other (y ∷ xs) (suc n) (suc m) x h = set_other xs n m x (λ e. h (ap suc e))

  same_there : (xs : List A) (n : ℕ) (x y : A) → slice_get xs n ≡ Some x → slice_get xs n ≡ Some y → x ≡ y
  same_there xs n x y e f = let k : ◌≡◌ {A = Option A} (Some x) (Some y) = sym e ∙ f in cc

-- ---- Tables that grow ----

pub codes_grow : (a b : Table) → Grows a b → length a.codes ≤ length b.codes
codes_grow a b grows = elim (cases_lt (length b.codes) (length a.codes)) [
  | inl less ↦
      let at = got_within a.codes (length b.codes) less in
      let there = grows.codes (length b.codes) at.0 at.1 in
      absurd (cc (there, slice_get_past b.codes (length b.codes) (omega arith)))
  | inr most ↦ most
]

pub key_there : (table : Table) (place : ℕ) → IsTable table → place < length table.codes → (key : Key) × HasKey table place key
key_there table place is h = got_within (keys_in table) place (omega (arith, is.long))

pub below_codes : (table : Table) (place : ℕ) (key : Key) → IsTable table → HasKey table place key → place < length table.codes
below_codes table place key is has = omega (arith, is.long, slice_get_within (keys_in table) place key has)

-- ---- Keys among others ----

pub among_itself : (key : Key) → same_key key key ≡ true
among_itself key = (same_key-Decides key key).1 refl

among_with : (key other : Key) (names : List Key) → is_key_among key (names ++ other ∷ []) ≡ (is_key_among key names || same_key other key)
among_with key other names =
    list_any-append (λ (it : Key). same_key it key) names (other ∷ [])
    ∙ ap (λ (b : Bool). is_key_among key names || b) (or_false (same_key other key))

by_or : (a b : Bool) → (a || b) ≡ true → (a ≡ true) ⊎ (b ≡ true)
by_or true b h = inl refl
by_or false b h = inr h

-- ---- Names ----

named_at : (a b : Table) (flags : List Bool) (names : List Key) → IsTable a → length flags ≤ length a.codes → Grows a b → HaveFlags a flags names
    → (place : ℕ) (key : Key) → HasKey b place key → (among : Bool) → is_key_among key names ≡ among → unwrap_or (slice_get flags place) false ≡ among
named_at a b flags names is few grows named place key has true among =
    let at = named.there key among in
    let same : at.0 ≡ place = grows.table.keys_once at.0 place key (grows.keys at.0 key at.1) has in
    named.named place key (subst (λ (n : ℕ). HasKey a n key) same at.1) ∙ among
named_at a b flags names is few grows named place key has false among = elim (cases_lt place (length a.codes)) [
  | inl below ↦
      let at = key_there a place is below in
      let same : at.0 ≡ key = same_there (keys_in b) place at.0 key (grows.keys place at.0 at.1) has in
      named.named place key (subst (λ (k : Key). HasKey a place k) same at.1) ∙ among
  | inr past ↦ ap (λ (o : Option Bool). unwrap_or o false) (slice_get_past flags place (omega arith))
]

pub named_grow : (a b : Table) (flags : List Bool) (names : List Key) → IsTable a → length flags ≤ length a.codes → Grows a b → HaveFlags a flags names → HaveFlags b flags names
named_grow a b flags names is few grows named = record {
  named = λ place key has. named_at a b flags names is few grows named place key has (is_key_among key names) refl;
  there = λ key among. let at = named.there key among in (at.0, grows.keys at.0 key at.1);
}

pub named_room : (table : Table) (flags : List Bool) (n : ℕ) (names : List Key) → HaveFlags table flags names → HaveFlags table (flags ++ replicate n false) names
named_room table flags n names named = record {
  named = λ place key has. flags_more flags n place ∙ named.named place key has;
  there = named.there;
}

module _ (table : Table) (flags : List Bool) (names : List Key) (at : ℕ) (it : Key) where
  named_other : IsTable table → HasKey table at it → HaveFlags table flags names → (place : ℕ) (key : Key) → HasKey table place key → (at ≡ place → ⊥)
      → unwrap_or (slice_get (slice_set flags at true) place) false ≡ (is_key_among key names || same_key it key)
  named_other is has named place key there differ =
      ap (λ (o : Option Bool). unwrap_or o false) (set_other flags at place true differ)
      ∙ named.named place key there
      ∙ sym (by (same_key it key) refl)
    where
      by : (b : Bool) → same_key it key ≡ b → (is_key_among key names || same_key it key) ≡ is_key_among key names
      by true e =
          let same : it ≡ key = (same_key-Decides it key).0 e in
          absurd (differ (is.keys_once at place key (subst (λ (k : Key). HasKey table at k) same has) there))
      by false e = ap (λ (b : Bool). is_key_among key names || b) e ∙ or_false (is_key_among key names)

  named_by : IsTable table → at < length flags → HasKey table at it → HaveFlags table flags names → (place : ℕ) (key : Key) → HasKey table place key
      → (at ≡ place) ⊎ ((at < place) ⊎ (place < at)) → unwrap_or (slice_get (slice_set flags at true) place) false ≡ (is_key_among key names || same_key it key)
  named_by is below has named place key there (inl same) =
      let same_is : it ≡ key = same_there (keys_in table) place it key (subst (λ (n : ℕ). HasKey table n it) same has) there in
      let flag : slice_get (slice_set flags at true) place ≡ Some true = subst (λ (n : ℕ). slice_get (slice_set flags at true) n ≡ Some true) same (set_there flags at true below) in
      ap (λ (o : Option Bool). unwrap_or o false) flag
      ∙ sym (ap (λ (b : Bool). is_key_among key names || b) ((same_key-Decides it key).1 same_is) ∙ or_true (is_key_among key names))
  named_by is below has named place key there (inr (inl less)) = named_other is has named place key there (λ e. absurd (omega arith))
  named_by is below has named place key there (inr (inr more)) = named_other is has named place key there (λ e. absurd (omega arith))

  pub named_more : IsTable table → at < length flags → HasKey table at it → HaveFlags table flags names → HaveFlags table (slice_set flags at true) (names ++ it ∷ [])
  named_more is below has named = record {
    named = λ place key there. named_by is below has named place key there (cases_order at place) ∙ sym (among_with key it names);
    there = λ key among. elim (by_or (is_key_among key names) (same_key it key) (sym (among_with key it names) ∙ among)) [
      | inl before ↦ named.there key before
      | inr last ↦ (at, subst (λ (k : Key). HasKey table at k) ((same_key-Decides it key).0 last) has)
    ];
  }

-- with that of a call
pub named_with : (table : Table) (flags : List Bool) (names : List Key) (place : Option ℕ) (key : Option Key) → IsTable table → length flags ≡ length table.codes
    → IsPlaceOf table place key → HaveFlags table flags names → HaveFlags table (with_name place flags) (names ++ as_list key)
named_with table flags names None None is room at named = subst (λ (ks : List Key). HaveFlags table flags ks) (sym (append-nil names)) named
named_with table flags names None (Some key) is room at named = absurd at
named_with table flags names (Some place) None is room at named = absurd at
named_with table flags names (Some place) (Some key) is room at named =
    named_more table flags names place key is (omega (arith, room, below_codes table place key is at)) at named

pub with_name_long : (place : Option ℕ) (flags : List Bool) → length (with_name place flags) ≡ length flags
with_name_long None flags = refl
with_name_long (Some place) flags = length-set flags place true

pub room_made : (flags : List Bool) (n : ℕ) → length flags ≤ n → length (flags ++ replicate (n - length flags) false) ≡ n
room_made flags n few = length-append flags (replicate (n - length flags) false) ∙ omega (arith, length-replicate (n - length flags) false)

pub room_step : (flags now : List Bool) (place : ℕ) → length flags ≤ place → now ≡ flags ++ replicate (place - length flags) false
    → now ++ false ∷ [] ≡ flags ++ replicate (place + 1 - length flags) false
room_step flags now place few e =
    ap (λ (fs : List Bool). fs ++ false ∷ []) e
    ∙ append_assoc flags (replicate (place - length flags) false) (false ∷ [])
    ∙ ap (λ (fs : List Bool). flags ++ fs)
    (replicate-append-replicate (place - length flags) 1 false ∙ ap (λ (n : ℕ). replicate n false) (omega arith))

-- ---- What was got ----

-- a report of another word brings nothing
pub none_brought : (comms : RankComms) (word : ReportWord) (fields : List Field) → brings word ≡ false → report_taken comms word fields ≡ comms
none_brought comms report.Comm fields e = cc
none_brought comms report.Idup fields e = cc
none_brought comms report.Apart fields e = cc
none_brought comms report.Got fields e = refl
none_brought comms report.Done fields e = refl
none_brought comms report.Chose fields e = refl
none_brought comms report.Gone fields e = refl
none_brought comms report.Kept fields e = refl
none_brought comms report.Moved fields e = refl
none_brought comms report.NoComm fields e = refl
none_brought comms report.Failed fields e = refl

-- and none is told
pub none_told : (table : Table) (comms : RankComms) (word : ReportWord) (fields : List Field) → brings word ≡ false → IsPlaceOf table None (key_told comms word fields)
none_told table comms report.Comm fields e = cc
none_told table comms report.Idup fields e = cc
none_told table comms report.Apart fields e = cc
none_told table comms report.Got fields e = tt
none_told table comms report.Done fields e = tt
none_told table comms report.Chose fields e = tt
none_told table comms report.Gone fields e = tt
none_told table comms report.Kept fields e = tt
none_told table comms report.Moved fields e = tt
none_told table comms report.NoComm fields e = tt
none_told table comms report.Failed fields e = tt

pub got_grow : (a b : Table) (places : List ℕ) (keys : List Key) → Grows a b → AllZip (HasKey a) places keys → AllZip (HasKey b) places keys
got_grow a b places keys grows all = zip_grows (HasKey a) (HasKey b) (λ n k h. grows.keys n k h) places keys all

-- with what came by a call
pub got_with : (table : Table) (places : List ℕ) (keys : List Key) (place : Option ℕ) (key : Option Key) → IsPlaceOf table place key
    → AllZip (HasKey table) places keys → AllZip (HasKey table) (places ++ as_list place) (keys ++ as_list key)
got_with table places keys None None at all =
    subst (λ (ks : List Key). AllZip (HasKey table) (places ++ []) ks) (sym (append-nil keys)) (subst (λ (ps : List ℕ). AllZip (HasKey table) ps keys) (sym (append-nil places)) all)
got_with table places keys None (Some key) at all = absurd at
got_with table places keys (Some place) None at all = absurd at
got_with table places keys (Some place) (Some key) at all = zip_push (HasKey table) places keys place key all at

-- with what a report brought
pub got_by : (table : Table) (places : List ℕ) (first before after : List Key) (place : Option ℕ) → IsGot table place before after
    → AllZip (HasKey table) places (first ++ before) → AllZip (HasKey table) (places ++ as_list place) (first ++ after)
got_by table places first before after None is all =
    subst (λ (ks : List Key). AllZip (HasKey table) (places ++ []) (first ++ ks)) (sym is) (subst (λ (ps : List ℕ). AllZip (HasKey table) ps (first ++ before)) (sym (append-nil places)) all)
got_by table places first before after (Some place) (key, at, is) all =
    subst (λ (ks : List Key). AllZip (HasKey table) (places ++ place ∷ []) ks)
    (append_assoc first before (key ∷ []) ∙ sym (ap (λ (ks : List Key). first ++ ks) is))
    (zip_push (HasKey table) places (first ++ before) place key all at)

-- ---- Lines ----

pub keys_with : (keys : List Key) (key : Option Key) → with_some keys key ≡ keys ++ as_list key
keys_with keys None = sym (append-nil keys)
keys_with keys (Some key) = refl

-- what a call names is what it is on, or what it makes of a group
pub named_of_call : (comms : RankComms) (it : Called) → as_list (or_else (key_next comms it) (key_on comms it)) ≡ as_list (key_on comms it) ++ as_list (key_next comms it)
named_of_call comms (MakesOfGroup group) = refl
named_of_call comms it = sym (append-nil (as_list (key_on comms it)))
