-- What is kept of a run's communicators by places of keys is what its journals say of them.
use Rattle.std.proofs.Common.{◌≡◌, refl, sym, ap, subst, ◌∙◌, ℕ, zero, suc, ◌+◌, ◌≤◌, ◌<◌, inl, inr, arith, true, false, not, ◌||◌, ◌==◌, cond, eq-eqb, eqb-true, nat_lt, List, [], ◌∷◌, length, map, get_or, position, Option, Some, None, option_map}
use Rattle.std.specs.Prelude.{slice_get, unwrap_or}
use Rattle.std.specs.List.{AllZip, position_or_len}
use Rattle.std.proofs.lemmas.Bool.{cases_Bool, false≢true}
use Rattle.std.proofs.lemmas.List.{length-map}
use Rattle.std.proofs.lemmas.List.Quantifiers.{position-Some}
use Rattle.std.proofs.lemmas.List.Sums.{fails_before_first, prefix_len-le-length}
use Rattle.std.proofs.lemmas.Option.{get_or_from_slice_get, slice_get-get_or, slice_get-map, slice_get_within}
use Rattle.closing.specs.Keys.{Key, group_of_key, is_key_among, place_of_key, same_key}
use Rattle.closing.specs.Entries.{Run}
use Rattle.closing.specs.Entry.{parent_rank}
use Rattle.closing.specs.Numbers.{groups_of, number_of, numbered_keys}
use Rattle.closing.specs.inner.Given.{AreBelow, IsNumbered, or_none}
use Rattle.closing.specs.Groups.{groups_in}
use Rattle.closing.specs.inner.Numbered.{AreNamed, IsNumberedRun, is_known, named_as}
use Rattle.closing.specs.Table.{Table, group_at}
use Rattle.closing.specs.inner.Table.{HasKey, IsTable, keys_in, ranks_in}
use Rattle.closing.specs.declared.numbers.Communicators.{Communicators}
use Rattle.closing.specs.declared.numbers.Named.{Named}
use Rattle.closing.proofs.KeyLemmas.{same_key_itself, same_key_true}
use Rattle.closing.proofs.KeyedLemmas.{key_test, zip_at, zip_length}
use Rattle.closing.proofs.NumberLists.{get_some, or_true}
use Rattle.closing.proofs.PlaceLemmas.{place_of_none}
use Rattle.closing.proofs.TableLemmas.{group_at_is}

-- ---- A key among some ----

pub key_found : (key : Key) (keys : List Key) → is_key_among key keys ≡ true → (n : ℕ) × (slice_get keys n ≡ Some key)
key_found key [] h = absurd (false≢true h)
key_found key (k ∷ keys) h = elim (cases_Bool (same_key k key)) [
  | inl holds ↦ (0, ap Some (same_key_true k key holds))
  | inr fails ↦ let it = key_found key keys (sym (ap (λ b. b || is_key_among key keys) fails) ∙ h) in (suc it.0, it.1)
]

pub key_among : (key : Key) (keys : List Key) (n : ℕ) → slice_get keys n ≡ Some key → is_key_among key keys ≡ true
key_among key [] n e = absurd (cc)
key_among key (k ∷ keys) zero e =
    let same : k ≡ key = cc in
    ap (λ b. b || is_key_among key keys) (ap (λ x. same_key x key) same ∙ same_key_itself key)
key_among key (k ∷ keys) (suc n) e = ap (λ b. same_key k key || b) (key_among key keys n e) ∙ or_true (same_key k key)

-- ---- Places of keys ----

-- those of keys are below how many keys there are
pub places_below : (table : Table) (places : List ℕ) (keys : List Key) → IsTable table → AllZip (HasKey table) places keys → AreBelow (length table.codes) places
places_below table places keys h all n place e =
    let at = zip_at (HasKey table) places keys n place all e in
    omega (arith, slice_get_within (keys_in table) place at.0 at.2, h.long)

first_same : (table : Table) (place : ℕ) (key : Key) (places : List ℕ) (keys : List Key) → IsTable table → HasKey table place key → AllZip (HasKey table) places keys → position_or_len (λ other. other == place) places ≡ position_or_len (λ other. same_key other key) keys
first_same table place key [] [] h has all = refl
first_same table place key [] (k ∷ keys) h has all = absurd all
first_same table place key (p ∷ places) [] h has all = absurd all
first_same table place key (p ∷ places) (k ∷ keys) h has all =
    ap (λ b. cond (not b) (1 + position_or_len (λ other. other == place) places) 0) (key_test table p place k key h all.0 has)
    ∙ ap (λ n. cond (not (same_key k key)) (1 + n) 0) (first_same table place key places keys h has all.1)

-- a key stands among keys where its place does among theirs
pub place_same : (table : Table) (place : ℕ) (key : Key) (places : List ℕ) (keys : List Key) → IsTable table → HasKey table place key → AllZip (HasKey table) places keys → position (λ other. other == place) places ≡ place_of_key key keys
place_same table place key places keys h has all =
    ap (λ n. cond (nat_lt n (length places)) (Some n) None) (first_same table place key places keys h has all)
    ∙ ap (λ m. cond (nat_lt (position_or_len (λ other. same_key other key) keys) m) (Some (position_or_len (λ other. same_key other key) keys)) None) (zip_length (HasKey table) places keys all)

-- ---- Numbers ----

not_there : (numbered : List ℕ) (place n : ℕ) → position (λ other. other == place) numbered ≡ None → slice_get numbered n ≡ Some place → ⊥
not_there numbered place n none e =
    let all : position_or_len (λ (other : ℕ). other == place) numbered ≡ length numbered = place_of_none (λ other. other == place) numbered none in
    let within : n < length numbered = slice_get_within numbered n place e in
    let fails : (get_or numbered n 0 == place) ≡ false = fails_before_first (λ (other : ℕ). other == place) numbered n 0 (omega arith) in
    let here : get_or numbered n 0 ≡ place = get_or_from_slice_get numbered n place 0 e in
    false≢true (sym fails ∙ eq-eqb (get_or numbered n 0) place here)

no_number : (numbers : List (Option ℕ)) (numbered : List ℕ) (place : ℕ) (it : Option (Option ℕ)) → IsNumbered numbers numbered → position (λ other. other == place) numbered ≡ None → slice_get numbers place ≡ it → or_none it ≡ None
no_number numbers numbered place None h none e = refl
no_number numbers numbered place (Some None) h none e = refl
no_number numbers numbered place (Some (Some number)) h none e = absurd (not_there numbered place number none (h.given place number e))

pub number_read : (numbers : List (Option ℕ)) (numbered : List ℕ) (place : ℕ) (it : Option ℕ) → IsNumbered numbers numbered → position (λ other. other == place) numbered ≡ it → or_none (slice_get numbers place) ≡ it
number_read numbers numbered place None h e = no_number numbers numbered place (slice_get numbers place) h e refl
number_read numbers numbered place (Some n) h e =
    let at = position-Some (λ (other : ℕ). other == place) numbered n 0 e in
    let here : get_or numbered n 0 ≡ place = eqb-true (get_or numbered n 0) place at.1 in
    let got : slice_get numbered n ≡ Some place = slice_get-get_or numbered n 0 at.0 ∙ ap Some here in
    ap or_none (h.back place n got)

-- the number of a place is that of its key
pub number_kept : (table : Table) (numbers : List (Option ℕ)) (numbered : List ℕ) (keys : List Key) (place : ℕ) (key : Key) → IsTable table → IsNumbered numbers numbered → AllZip (HasKey table) numbered keys → HasKey table place key → or_none (slice_get numbers place) ≡ place_of_key key keys
number_kept table numbers numbered keys place key h is all has = number_read numbers numbered place (place_of_key key keys) is (place_same table place key numbered keys h has all)

number_of_named : (named : List Named) (place : ℕ) (it : Named) → slice_get named place ≡ Some it → or_none (slice_get (map (λ one. one.number) named) place) ≡ it.number
number_of_named named place it e =
    ap or_none (slice_get-map (λ (one : Named). one.number) named place ∙ ap (λ (o : Option Named). option_map (λ one. one.number) o) e)

-- what is kept of a place that has a key
pub named_read : (run : Run) (table : Table) (numbers : List (Option ℕ)) (numbered : List ℕ) (named : List Named) (place : ℕ) (key : Key) → IsTable table → ranks_in table ≡ length run → IsNumbered numbers numbered → AllZip (HasKey table) numbered (numbered_keys run) → AreNamed table numbers named → length numbers ≡ length table.codes → HasKey table place key → slice_get named place ≡ Some (named_as run place key)
named_read run table numbers numbered named place key h ranks is all by room has =
    let long : length named ≡ length numbers = sym (length-map named (λ (one : Named). one.number)) ∙ ap length by.numbers in
    let at = get_some named place (omega (arith, slice_get_within (keys_in table) place key has, h.long)) in
    let it = at.0 in
    let k : it.key ≡ place = by.keys place it at.1 in
    let s : it.size ≡ length (group_of_key (length run) key) =
    by.sizes place it at.1 ∙ ap length (group_at_is table place key h has) ∙ ap (λ n. length (group_of_key n key)) ranks in
    let n : it.number ≡ number_of run key =
    sym (number_of_named named place it at.1) ∙ ap (λ xs. or_none (slice_get xs place)) by.numbers
    ∙ number_kept table numbers numbered (numbered_keys run) place key h is all has in
    at.1 ∙ ap Some (λ i. record { key = k i; size = s i; number = n i })

-- the number that is kept of a place that has a key
pub number_named : (run : Run) (it : Communicators) (place : ℕ) (key : Key) (one : Option Named) → IsNumberedRun run it → HasKey it.keys place key → slice_get it.named.items place ≡ one → or_none (option_map (λ one. one.number) one) ≡ number_of run key
number_named run it place key one h has e =
    ap or_none (sym (ap (λ (o : Option Named). option_map (λ one. one.number) o) e) ∙ sym (slice_get-map (λ (one : Named). one.number) it.named.items place))
    ∙ number_kept it.keys (map (λ one. one.number) it.named.items) it.numbered.items (numbered_keys run) place key h.table h.numbers h.numbered has

-- a known key is what is kept at its place
pub known_named : (run : Run) (it : Communicators) (place : ℕ) (key : Key) → IsNumberedRun run it → HasKey it.keys place key → is_known run key ≡ true → slice_get it.named.items place ≡ Some (named_as run place key)
known_named run it place key h has known =
    let kept = h.kept key known in
    let same : kept.place ≡ place = h.table.keys_once kept.place place key kept.has has in
    subst (λ n. slice_get it.named.items n ≡ Some (named_as run n key)) same kept.named

-- ---- Groups ----

groups_same : (table : Table) (places : List ℕ) (keys : List Key) → IsTable table → AllZip (HasKey table) places keys → map (λ place. group_at table place) places ≡ map (group_of_key (ranks_in table)) keys
groups_same table [] [] h all = refl
groups_same table [] (k ∷ keys) h all = absurd all
groups_same table (p ∷ places) [] h all = absurd all
groups_same table (p ∷ places) (k ∷ keys) h all =
    ap (λ g. g ∷ map (λ place. group_at table place) places) (group_at_is table p k h all.0)
    ∙ ap (λ gs. group_of_key (ranks_in table) k ∷ gs) (groups_same table places keys h all.1)

pub groups_are : (run : Run) (it : Communicators) → IsNumberedRun run it → groups_in it ≡ groups_of run
groups_are run it h =
    groups_same it.keys it.numbered.items (numbered_keys run) h.table h.numbered ∙ ap (λ n. map (group_of_key n) (numbered_keys run)) h.ranks

pub group_got : (it : Communicators) (number place : ℕ) → slice_get it.numbered.items number ≡ Some place → unwrap_or (slice_get (groups_in it) number) [] ≡ group_at it.keys place
group_got it number place e =
    ap (λ (o : Option (List ℕ)). unwrap_or o []) (slice_get-map (λ (place : ℕ). group_at it.keys place) it.numbered.items number ∙ ap (λ (o : Option ℕ). option_map (λ place. group_at it.keys place) o) e)

pub group_gone : (it : Communicators) (number : ℕ) → slice_get it.numbered.items number ≡ None → unwrap_or (slice_get (groups_in it) number) [] ≡ []
group_gone it number e =
    ap (λ (o : Option (List ℕ)). unwrap_or o []) (slice_get-map (λ (place : ℕ). group_at it.keys place) it.numbered.items number ∙ ap (λ (o : Option ℕ). option_map (λ place. group_at it.keys place) o) e)

pub groups_count : (it : Communicators) → length (groups_in it) ≡ length it.numbered.items
groups_count it = length-map it.numbered.items (λ (place : ℕ). group_at it.keys place)

-- the group of a place by its key
pub group_kept : (run : Run) (it : Communicators) (place : ℕ) (key : Key) → IsNumberedRun run it → HasKey it.keys place key → group_at it.keys place ≡ group_of_key (length run) key
group_kept run it place key h has = group_at_is it.keys place key h.table has ∙ ap (λ n. group_of_key n key) h.ranks

-- ---- Places of ranks ----

pub place_within : (rank : ℕ) (group : List ℕ) → length group ≤ 1024 → position_or_len (λ member. member == rank) group ≤ 1024
place_within rank group few = omega (arith, few, prefix_len-le-length (λ (member : ℕ). not (member == rank)) group)

pub first_rank : (parent group : List ℕ) (first : ℕ) → slice_get group 0 ≡ Some first → parent_rank parent group ≡ position_or_len (λ member. member == first) parent
first_rank parent [] first e = absurd (cc (e))
first_rank parent (x ∷ group) first e = let same : x ≡ first = cc in ap (λ f. position_or_len (λ member. member == f) parent) same

pub no_first_rank : (parent group : List ℕ) → slice_get group 0 ≡ None → parent_rank parent group ≡ 0
no_first_rank parent [] e = refl
no_first_rank parent (x ∷ group) e = absurd (cc (e))
