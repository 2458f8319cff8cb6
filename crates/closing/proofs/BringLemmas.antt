-- The waves that bring communicators of the head are those whose calls reported one.
use Rattle.std.proofs.Common.{◌≡◌, refl, sym, ap, subst, ◌∙◌, inl, inr, ℕ, zero, suc, ◌+◌, ◌≤◌, ◌<◌, arith, lt-ltb, Bool, true, false, ◌||◌, ◌&&◌, not, ◌==◌, cond, if◌then◌else◌, List, [], ◌∷◌, length, take, filter, option_and_then, is_some, Option, Some, None}
use Rattle.std.specs.Prelude.{slice_get, unwrap_or}
use Rattle.std.specs.Option.{option_map_or}
use Rattle.std.specs.HashSet.{contains_by}
use Rattle.std.specs.List.{filter_map, flat_map, list_any, position_or_len}
use Rattle.std.proofs.lemmas.Bool.{and_parts, eqb-true, eq-eqb, false≢true}
use Rattle.std.proofs.lemmas.List.Quantifiers.{position-Some}
use Rattle.std.proofs.lemmas.Option.{slice_get_within}
use Rattle.mpicall.specs.declared.limits.TheConstants.{GREATEST_COMM}
use Rattle.closing.specs.Entries.{Placed, Run, all_entries, entries_at, lines_at, ranks_of}
use Rattle.closing.specs.Entry.{brings}
use Rattle.closing.specs.FitComms.{HasFitComms}
use Rattle.closing.specs.Keys.{Key, World, Made, each_once, has_member, is_key_among, same_key}
use Rattle.closing.specs.Made.{inferred_key, is_wave, keys_at, keys_of_wave, made_with, may_give, others_key, reported_group, reported_key, wave_at}
use Rattle.closing.specs.Numbers.{is_named, number_of, numbered_keys}
use Rattle.closing.specs.RankComms.{Wave, comms_after, made_in, makes_comm}
use Rattle.closing.specs.inner.Numbered.{IsNumberedRun, is_of_wave, same_wave}
use Rattle.closing.specs.Table.{Table}
use Rattle.closing.specs.inner.Table.{HasKey, IsPlaced, IsTable, IsWaveOf, key_of, key_or_world, keys_in}
use Rattle.closing.specs.declared.keys.Key.{Key as KeyCode}
use Rattle.closing.specs.declared.keys.Key.TheVariants as code
use Rattle.closing.specs.declared.keys.Wave.{Wave as WaveCode}
use Rattle.closing.specs.declared.numbers.Communicators.{Communicators}
use Rattle.closing.proofs.InsertLemmas.{found_at}
use Rattle.closing.proofs.KeyLemmas.{same_key_itself, same_key_true}
use Rattle.closing.proofs.KeyedLemmas.{key_test, zip_any}
use Rattle.closing.proofs.MadeKeyLemmas.{gives, rank_reported}
use Rattle.closing.proofs.NumberLists.{get_some, or_true}
use Rattle.closing.proofs.PlaceListLemmas.{got_within}
use Rattle.closing.proofs.RunLemmas.{key_among}
use Rattle.closing.proofs.SomeLemmas.{any_filter, any_filter_map, any_flat, passes, same_if_both, some_at, some_either, some_first, some_found, some_more, some_of, some_second, some_taken}

-- the wave's calls make the key
abbrev pub made_by : Wave → Key → Bool
made_by wave (Made parent count group) = same_key parent wave.parent && count == wave.count
made_by wave key = false

-- ---- The code's test ----

of_wave_code : (table : Table) (it : KeyCode) (count : ℕ) (w : WaveCode) (wave : Wave) → IsTable table → IsPlaced table.groups count it → count ≤ length (keys_in table) → HasKey table w.parent wave.parent → w.count ≡ wave.count → is_of_wave w (Some it) ≡ made_by wave (key_of table.groups (keys_in table) it)
of_wave_code table code.World count w wave h placed few has times = refl
of_wave_code table (code.Alone rank group) count w wave h placed few has times = refl
of_wave_code table (code.Made other group) count w wave h placed few has times =
    let at = got_within (keys_in table) other.parent (omega arith) in
    let k : key_or_world (keys_in table) other.parent ≡ at.0 = ap (λ (o : Option Key). unwrap_or o World) at.1 in
    let has_other : HasKey table other.parent (key_or_world (keys_in table) other.parent) = at.1 ∙ ap (λ (x : Key). Some x) (sym k) in
    ap (λ b. b && other.count == w.count) (key_test table other.parent w.parent (key_or_world (keys_in table) other.parent) wave.parent h has_other has)
    ∙ ap (λ n. same_key (key_or_world (keys_in table) other.parent) wave.parent && other.count == n) times
of_wave_code table (code.Duplicated other group) count w wave h placed few has times = refl
of_wave_code table (code.OfGroup group times') count w wave h placed few has times = refl
of_wave_code table (code.Apart group times') count w wave h placed few has times = refl

of_wave_same : (table : Table) (w : WaveCode) (wave : Wave) → IsTable table → HasKey table w.parent wave.parent → w.count ≡ wave.count → (place : ℕ) (key : Key) → HasKey table place key → is_of_wave w (slice_get table.codes place) ≡ made_by wave key
of_wave_same table w wave h has times place key there =
    let within : place < length table.codes = omega (arith, slice_get_within (keys_in table) place key there, h.long) in
    let at = get_some table.codes place within in
    let reads : HasKey table place (key_of table.groups (keys_in table) at.0) = h.read place at.0 at.1 in
    let both : ◌≡◌ {A = Option Key} (Some (key_of table.groups (keys_in table) at.0)) (Some key) = sym reads ∙ there in
    let same : key_of table.groups (keys_in table) at.0 ≡ key = cc in
    ap (λ o. is_of_wave w o) at.1
    ∙ of_wave_code table at.0 place w wave h (h.placed place at.0 at.1) (omega (arith, h.long)) has times
    ∙ ap (λ k. made_by wave k) same

-- ---- What numbered keys are ----

once_among : (t : Key → Bool) (before keys : List Key) → list_any t (each_once before keys) ≡ true → list_any t keys ≡ true
once_among t before [] h = h
once_among t before (key ∷ keys) h = by (is_key_among key before) h (once_among t before keys) (once_among t (key ∷ before) keys)
  where
    by : (b : Bool) → list_any t (if b then each_once before keys else key ∷ each_once (key ∷ before) keys) ≡ true
        → (list_any t (each_once before keys) ≡ true → list_any t keys ≡ true)
        → (list_any t (each_once (key ∷ before) keys) ≡ true → list_any t keys ≡ true)
        → list_any t (key ∷ keys) ≡ true
    by true e first second = ap (λ b. t key || b) (first e) ∙ or_true (t key)
    by false e first second = elim (some_either t (key ∷ []) (each_once (key ∷ before) keys) e) [
      | inl here ↦ some_first t (key ∷ []) keys here
      | inr rest ↦ ap (λ b. t key || b) (second rest) ∙ or_true (t key)
    ]

-- a numbered key is the world's or some rank's
pub numbered_known : (run : Run) (t : Key → Bool) → list_any t (numbered_keys run) ≡ true → list_any t (World ∷ flat_map (keys_at run) (ranks_of run)) ≡ true
numbered_known run t h =
    let all = flat_map (keys_at run) (ranks_of run) in
    elim (some_either t (World ∷ []) (take GREATEST_COMM (each_once [] (filter (is_named run) all))) h) [
      | inl here ↦ some_first t (World ∷ []) all here
      | inr rest ↦ some_second t (World ∷ []) all
          (let named = once_among t [] (filter (is_named run) all) (some_taken t GREATEST_COMM (each_once [] (filter (is_named run) all)) rest) in
          some_more (λ key. is_named run key && t key) t all (λ key e. (and_parts (is_named run key) (t key) e).1) (sym (any_filter t (is_named run) all) ∙ named))
    ]

-- ---- Reported keys ----

passes_at : {A : Type 0} (t : A → Bool) (it : Option A) → passes t it ≡ true → (x : A) × (it ≡ Some x) × (t x ≡ true)
passes_at t None h = absurd (false≢true h)
passes_at t (Some x) h = (x, refl, h)

-- the entries of a wave that report some
wave_any : (run : Run) (wave : Wave) (t : Key → Bool) → list_any t (keys_of_wave run wave) ≡ list_any (λ placed. is_wave wave (wave_at placed) && passes t (reported_key placed)) (all_entries run)
wave_any run wave t =
    any_filter_map t reported_key (filter (λ placed. is_wave wave (wave_at placed)) (all_entries run))
    ∙ any_filter (λ placed. passes t (reported_key placed)) (λ placed. is_wave wave (wave_at placed)) (all_entries run)

inferred_reported : (run : Run) (placed : Placed) (key : Key) → passes (λ other. same_key other key) (inferred_key run placed) ≡ true → list_any (gives key) (all_entries run) ≡ true
inferred_reported run placed key h = by (may_give placed.called && not placed.came_back) (wave_at placed) h
  where
    by : (b : Bool) (wave : Option Wave) → passes (λ other. same_key other key) (if b then option_and_then (others_key run placed.rank) wave else None) ≡ true → list_any (gives key) (all_entries run) ≡ true
    by false wave e = absurd (false≢true e)
    by true None e = absurd (false≢true e)
    by true (Some wave) e =
        let some = some_found (λ (other : Key). same_key other key) (has_member (length run) placed.rank) (keys_of_wave run wave) e in
        some_more (λ one. is_wave wave (wave_at one) && gives key one) (gives key) (all_entries run)
        (λ one f. (and_parts (is_wave wave (wave_at one)) (gives key one) f).1)
        (sym (wave_any run wave (λ other. same_key other key)) ∙ some)

-- some entry reports a key that a rank has
pub all_reported : (run : Run) (p : Key) (c : ℕ) (g : List ℕ) → HasFitComms run → is_key_among (Made p c g) (flat_map (keys_at run) (ranks_of run)) ≡ true → list_any (gives (Made p c g)) (all_entries run) ≡ true
all_reported run p c g fit h =
    let key = Made p c g in
    let t : Key → Bool = λ other. same_key other key in
    let at = some_at (λ rank. list_any t (keys_at run rank)) (ranks_of run) (sym (any_flat t (keys_at run) (ranks_of run)) ∙ h) in
    let rank = at.1 in
    elim (some_either t (comms_after rank (lines_at run rank)).keys (filter_map (inferred_key run) (entries_at run rank)) at.3) [
      | inl own ↦
          any_flat (gives key) (entries_at run) (ranks_of run)
          ∙ some_of (λ rank. list_any (gives key) (entries_at run rank)) (ranks_of run) at.0 rank at.2 (rank_reported p c g run rank (fit.numbered rank) own)
      | inr others ↦
          let one = some_at (λ placed. passes t (inferred_key run placed)) (entries_at run rank) (sym (any_filter_map t (inferred_key run) (entries_at run rank)) ∙ others) in
          inferred_reported run one.1 key one.3
    ]

-- a reported key is that of the entry's wave
record IsOfWave (wave : Option Wave) (key : Key) : Type 0 where
  it : Wave
  group : List ℕ
  is : wave ≡ Some it
  key_is : key ≡ made_in group it

reported_wave : (placed : Placed) (key : Key) → reported_key placed ≡ Some key → IsOfWave (wave_at placed) key
reported_wave placed key h = by (makes_comm placed.called) (wave_at placed) (reported_group placed) h
  where
    by : (b : Bool) (wave : Option Wave) (group : Option (List ℕ)) → (if b then option_and_then (made_with wave) group else None) ≡ Some key → IsOfWave wave key
    by false wave group e = absurd (cc (e))
    by true wave None e = absurd (cc (e))
    by true None (Some group) e = absurd (cc (e))
    by true (Some it) (Some group) e =
        let same : made_in group it ≡ key = cc in
        record { it = it; group = group; is = refl; key_is = sym same }

-- ---- Numbers ----

first_within : {X : Type 0} (t : X → Bool) (xs : List X) (n : ℕ) (x : X) → slice_get xs n ≡ Some x → t x ≡ true → position_or_len t xs < length xs
first_within t [] n x e h = absurd (cc)
first_within t (y ∷ xs) zero x e h =
    let same : y ≡ x = cc in
    let holds : t y ≡ true = ap t same ∙ h in
    subst (λ b. cond (not b) (1 + position_or_len t xs) 0 < suc (length xs)) (sym holds) (omega arith)
first_within t (y ∷ xs) (suc n) x e h = by (t y) (first_within t xs n x e h)
  where
    by : (b : Bool) → position_or_len t xs < length xs → cond (not b) (1 + position_or_len t xs) 0 < suc (length xs)
    by true less = omega arith
    by false less = omega arith

numbered_some : (run : Run) (key : Key) (n : ℕ) → slice_get (numbered_keys run) n ≡ Some key → is_some (number_of run key) ≡ true
numbered_some run key n e =
    let t : Key → Bool = λ other. same_key other key in
    let first = position_or_len t (numbered_keys run) in
    ap (λ b. is_some (cond b (Some first) None)) (lt-ltb first (length (numbered_keys run)) (first_within t (numbered_keys run) n key e (same_key_itself key)))

some_number : (number : Option ℕ) → is_some number ≡ true → (n : ℕ) × (number ≡ Some n)
some_number None h = absurd (false≢true h)
some_number (Some n) h = (n, refl)

-- a key with a number stands there
pub number_stands : (run : Run) (key : Key) (n : ℕ) → number_of run key ≡ Some n → slice_get (numbered_keys run) n ≡ Some key
number_stands run key n e =
    let t : Key → Bool = λ other. same_key other key in
    let within = (position-Some t (numbered_keys run) n key e).0 in
    let at = found_at t (numbered_keys run) n e within in
    at.1 ∙ ap Some (same_key_true at.0 key at.2)

-- ---- Both are the same ----

module _ (run : Run) (wave : Wave) (fit : HasFitComms run) where
  brought : (n : ℕ) (key : Key) → slice_get (numbered_keys run) n ≡ Some key → made_by wave key ≡ true → brings run wave ≡ true
  brought n (Made p c g) at made =
      let key = Made p c g in
      let t : Key → Bool = λ other. same_key other key in
      let parts = and_parts (same_key p wave.parent) (c == wave.count) made in
      let parent : p ≡ wave.parent = same_key_true p wave.parent parts.0 in
      let times : c ≡ wave.count = eqb-true c wave.count parts.1 in
      let among = key_among key (numbered_keys run) n at in
      let got : is_key_among key (flat_map (keys_at run) (ranks_of run)) ≡ true = numbered_known run t among in
      let some = some_at (gives key) (all_entries run) (all_reported run p c g fit got) in
      let placed = some.1 in
      let it = passes_at t (reported_key placed) some.3 in
      let reports : reported_key placed ≡ Some key = it.1 ∙ ap Some (same_key_true it.0 key it.2) in
      let of = reported_wave placed key reports in
      let other : wave.parent ≡ of.it.parent = sym parent ∙ (let e : Made p c g ≡ Made of.it.parent of.it.count of.group = of.key_is in cc) in
      let count : wave.count ≡ of.it.count = sym times ∙ (let e : Made p c g ≡ Made of.it.parent of.it.count of.group = of.key_is in cc) in
      let is : is_wave wave (wave_at placed) ≡ true =
      ap (λ w. is_wave wave w) of.is
      ∙ ap (λ k. same_key wave.parent k && wave.count == of.it.count) (sym other)
      ∙ ap (λ b. b && wave.count == of.it.count) (same_key_itself wave.parent)
      ∙ eq-eqb wave.count of.it.count count in
      let numbered : passes (λ k. is_some (number_of run k)) (reported_key placed) ≡ true =
      ap (λ o. passes (λ k. is_some (number_of run k)) o) reports ∙ numbered_some run key n at in
      wave_any run wave (λ k. is_some (number_of run k))
      ∙ some_of (λ one. is_wave wave (wave_at one) && passes (λ k. is_some (number_of run k)) (reported_key one)) (all_entries run) some.0 placed some.2
      (ap (λ b. b && passes (λ k. is_some (number_of run k)) (reported_key placed)) is ∙ numbered)
  brought n key at made = absurd (false≢true made)

  bringing : brings run wave ≡ true → list_any (made_by wave) (numbered_keys run) ≡ true
  bringing h =
      let num : Key → Bool = λ k. is_some (number_of run k) in
      let some = some_at (λ one. is_wave wave (wave_at one) && passes num (reported_key one)) (all_entries run) (sym (wave_any run wave num) ∙ h) in
      let placed = some.1 in
      let parts = and_parts (is_wave wave (wave_at placed)) (passes num (reported_key placed)) some.3 in
      let it = passes_at num (reported_key placed) parts.1 in
      let key = it.0 in
      let of = reported_wave placed key it.1 in
      let number = some_number (number_of run key) it.2 in
      let at = number_stands run key number.0 number.1 in
      let same = and_parts (same_key wave.parent of.it.parent) (wave.count == of.it.count) (sym (ap (λ w. is_wave wave w) of.is) ∙ parts.0) in
      let parent : wave.parent ≡ of.it.parent = same_key_true wave.parent of.it.parent same.0 in
      let count : of.it.count ≡ wave.count = sym (eqb-true wave.count of.it.count same.1) in
      let made : made_by wave key ≡ true =
      ap (λ k. made_by wave k) of.key_is
      ∙ ap (λ k. same_key k wave.parent && of.it.count == wave.count) (sym parent)
      ∙ ap (λ b. b && of.it.count == wave.count) (same_key_itself wave.parent)
      ∙ eq-eqb of.it.count wave.count count in
      some_of (made_by wave) (numbered_keys run) number.0 key at made

  pub brings_same : list_any (made_by wave) (numbered_keys run) ≡ brings run wave
  brings_same = same_if_both (list_any (made_by wave) (numbered_keys run)) (brings run wave)
      (λ h. let at = some_at (made_by wave) (numbered_keys run) h in brought at.0 at.1 at.2 at.3) bringing

-- the waves that are kept bring what those of the run do
pub brings_read : (run : Run) (it : Communicators) (w : WaveCode) (wave : Wave) → IsNumberedRun run it → HasKey it.keys w.parent wave.parent → w.count ≡ wave.count → contains_by (same_wave w) it.bringing ≡ brings run wave
brings_read run it w wave h has times =
    h.bringing w
    ∙ zip_any (HasKey it.keys) (λ place. is_of_wave w (slice_get it.keys.codes place)) (made_by wave) it.numbered.items (numbered_keys run)
    (λ place key there. of_wave_same it.keys w wave h.table has times place key there) h.numbered
    ∙ brings_same run wave h.fit

pub brings_some : (run : Run) (it : Communicators) (w : WaveCode) (wave : Option Wave) → IsNumberedRun run it → IsWaveOf it.keys (Some w) wave → contains_by (same_wave w) it.bringing ≡ option_map_or (brings run) wave false
brings_some run it w None h is = absurd is
brings_some run it w (Some wave) h is = brings_read run it w wave h is.0 is.1

pub brings_none : (run : Run) (it : Communicators) (wave : Option Wave) → IsWaveOf it.keys None wave → false ≡ option_map_or (brings run) wave false
brings_none run it None is = refl
brings_none run it (Some wave) is = absurd is
