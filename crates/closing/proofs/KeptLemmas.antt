-- How what is kept of a run's communicators is made, and that it stays while the table grows.
use Rattle.std.proofs.Common.{◌≡◌, refl, sym, ap, subst, ◌∙◌, inl, inr, ℕ, zero, suc, ◌+◌, ◌≤◌, ◌<◌, arith, add-one, Bool, true, false, ◌||◌, cond, if◌then◌else◌, is_some, List, [], ◌∷◌, ◌++◌, length, map, take, drop, Option, Some, None}
use Rattle.std.specs.Prelude.{slice_get}
use Rattle.std.specs.HashSet.{contains_by}
use Rattle.std.specs.List.{AllZip, filter_map, flat_map}
use Rattle.std.proofs.lemmas.Bool.{false≢true}
use Rattle.std.proofs.lemmas.List.{map-append}
use Rattle.std.proofs.lemmas.Option.{slice_get_within}
use Rattle.closing.specs.Entries.{Run, entries_at, ranks_of, is_window}
use Rattle.closing.specs.FitComms.{HasFitComms, IsFitGroup}
use Rattle.closing.specs.Keys.{Key, World, group_of_key, same_key}
use Rattle.closing.specs.Made.{inferred_key, keys_at}
use Rattle.closing.specs.Numbers.{number_of, numbered_keys}
use Rattle.closing.specs.inner.Given.{AreBelow, IsNumbered, numbered_places, or_none}
use Rattle.closing.specs.inner.Numbered.{AreGroupsOf, AreNamed, IsNumberedRun, brings_at, is_of_wave, is_same_wave, same_wave, wave_made}
use Rattle.closing.specs.inner.Prefaces.{AreRanks, IsLeft, IsPreface, Seated, is_of_none, put_all, put_seated, put_seated_if, seated_from, seated_if}
use Rattle.closing.specs.inner.Surveyed.{IsInferred, IsSurveyed, as_list, keys_got}
use Rattle.closing.specs.Table.{Table, group_at}
use Rattle.closing.specs.inner.Table.{Grows, HasKey, IsPlaceOf, IsTable, keys_in, ranks_in}
use Rattle.closing.specs.declared.keys.Key.{Key as KeyCode}
use Rattle.closing.specs.declared.keys.Key.TheVariants as code
use Rattle.closing.specs.declared.keys.Wave.{Wave as WaveCode}
use Rattle.closing.specs.declared.numbers.Communicators.{Communicators}
use Rattle.closing.specs.declared.numbers.Named.{Named}
use Rattle.closing.specs.declared.numbers.Preface.{Preface}
use Rattle.closing.specs.declared.survey.Survey.{Survey}
use Rattle.closing.proofs.BringLemmas.{number_stands, numbered_known}
use Rattle.closing.proofs.HoldsLemmas.{place_grows}
use Rattle.closing.proofs.KeyedLemmas.{zip_at, zip_back}
use Rattle.closing.proofs.NumberLists.{any_same, drop_here, drop_past, get_some, or_false, push_cases}
use Rattle.closing.proofs.NumberedLemmas.{numbered_same, places_in, places_same}
use Rattle.closing.proofs.RunLemmas.{key_among, key_found, named_read, places_below}
use Rattle.closing.proofs.SeatLemmas.{lines_same, preface_later}
use Rattle.closing.proofs.TableLemmas.{group_at_is}

-- ---- Steps of the code ----

take_here : {X : Type 0} (xs : List X) (n : ℕ) (x : X) → slice_get xs n ≡ Some x → take (n + 1) xs ≡ take n xs ++ x ∷ []
take_here xs n x e = rw add-one (step xs n x e)
  where
    step : {X : Type 0} (xs : List X) (n : ℕ) (x : X) → slice_get xs n ≡ Some x → take (suc n) xs ≡ take n xs ++ x ∷ []
    step [] n x e = absurd (cc)
    step (y ∷ ys) zero x e = cc
    step (y ∷ ys) (suc n) x e = ap (λ zs. y ∷ zs) (step ys n x e)

-- one more is named
pub named_push : (table : Table) (numbers : List (Option ℕ)) (named : List Named) (n : ℕ) (it : Named) → AreNamed table (take n numbers) named → length named ≡ n → slice_get numbers n ≡ Some it.number → it.key ≡ n → it.size ≡ length (group_at table n) → AreNamed table (take (n + 1) numbers) (named ++ it ∷ [])
named_push table numbers named n it h count number key size = record {
  numbers = map-append (λ (one : Named). one.number) named (it ∷ []) ∙ ap (λ xs. xs ++ it.number ∷ []) h.numbers ∙ sym (take_here numbers n it.number number);
  keys = λ place one e. elim (push_cases named it place one e) [
    | inl was ↦ h.keys place one was
    | inr last ↦ ap (λ (x : Named). x.key) last.1 ∙ key ∙ sym count ∙ sym last.0
  ];
  sizes = λ place one e. elim (push_cases named it place one e) [
    | inl was ↦ h.sizes place one was
    | inr last ↦ ap (λ (x : Named). x.size) last.1 ∙ size ∙ ap (λ k. length (group_at table k)) (sym count ∙ sym last.0)
  ];
}

-- nothing is named so far
pub named_none : (table : Table) (given : List (Option ℕ)) (named : List Named) → named ≡ [] → AreNamed table (take 0 given) named
named_none table given named e = record {
  numbers = ap (λ (xs : List Named). map (λ one. one.number) xs) e;
  keys = λ place it f. let g : slice_get {X = Named} [] place ≡ Some it = sym (ap (λ xs. slice_get xs place) e) ∙ f in absurd (cc (g));
  sizes = λ place it f. let g : slice_get {X = Named} [] place ≡ Some it = sym (ap (λ xs. slice_get xs place) e) ∙ f in absurd (cc (g));
}

pub take_past : {X : Type 0} (xs : List X) (n : ℕ) → length xs ≤ n → take n xs ≡ xs
take_past [] zero h = refl
take_past [] (suc n) h = refl
take_past (x ∷ xs) zero h = absurd (omega arith)
take_past (x ∷ xs) (suc n) h = ap (λ ys. x ∷ ys) (take_past xs n (omega arith))

or_swapped : (b c r : Bool) → (cond b true c || r) ≡ (c || (b || r))
or_swapped true true r = refl
or_swapped true false r = refl
or_swapped false true r = refl
or_swapped false false r = refl

of_wave_made : (it : KeyCode) (wave : WaveCode) → is_of_wave wave (Some it) ≡ is_same_wave (wave_made it) wave
of_wave_made code.World wave = refl
of_wave_made (code.Alone rank group) wave = refl
of_wave_made (code.Made made group) wave = refl
of_wave_made (code.Duplicated made group) wave = refl
of_wave_made (code.OfGroup group times) wave = refl
of_wave_made (code.Apart group times) wave = refl

-- the wave of the next key is noted
pub brings_next : (table : Table) (numbered : List ℕ) (n place : ℕ) (it : KeyCode) (wave : WaveCode) (old new all : Bool) → slice_get numbered n ≡ Some place → slice_get table.codes place ≡ Some it
    → new ≡ (if is_same_wave (wave_made it) wave then true else old) → (old || brings_at table (drop n numbered) wave) ≡ all → (new || brings_at table (drop (n + 1) numbered) wave) ≡ all
brings_next table numbered n place it wave old new all e at put h =
    let rest = brings_at table (drop (n + 1) numbered) wave in
    let next : brings_at table (drop n numbered) wave ≡ (is_same_wave (wave_made it) wave || rest) =
    ap (λ xs. brings_at table xs wave) (drop_here numbered n place e) ∙ ap (λ o. is_of_wave wave o || rest) at ∙ ap (λ b. b || rest) (of_wave_made it wave) in
    ap (λ b. b || rest) put ∙ or_swapped (is_same_wave (wave_made it) wave) old rest ∙ sym (ap (λ b. old || b) next) ∙ h

-- all are noted
pub brings_done : (table : Table) (numbered : List ℕ) (n : ℕ) (wave : WaveCode) (old all : Bool) → length numbered ≤ n → (old || brings_at table (drop n numbered) wave) ≡ all → old ≡ all
brings_done table numbered n wave old all past h =
    sym (or_false old) ∙ sym (ap (λ xs. old || brings_at table xs wave) (drop_past numbered n past)) ∙ h

-- one whose calls are of a wave is of a call
pub made_not_none : (it : KeyCode) → is_some (wave_made it) ≡ true → is_of_none (Some it) ≡ false
made_not_none code.World h = absurd (false≢true h)
made_not_none (code.Alone rank group) h = absurd (false≢true h)
made_not_none (code.Made made group) h = refl
made_not_none (code.Duplicated made group) h = absurd (false≢true h)
made_not_none (code.OfGroup group times) h = absurd (false≢true h)
made_not_none (code.Apart group times) h = absurd (false≢true h)

pub none_not_made : (it : KeyCode) → is_some (wave_made it) ≡ false → is_of_none (Some it) ≡ true
none_not_made code.World h = refl
none_not_made (code.Alone rank group) h = refl
none_not_made (code.Made made group) h = absurd (false≢true (sym h))
none_not_made (code.Duplicated made group) h = refl
none_not_made (code.OfGroup group times) h = refl
none_not_made (code.Apart group times) h = refl

-- what was put is that with its number and its group
pub put_read : (new : Preface) (number comm : ℕ) (group other : List ℕ) (b : Bool) (lines : List (List Seated)) → comm ≡ number → group ≡ other → b ≡ true
    → IsPreface new (comm + 1) (put_seated (record { comm = comm; group = group }) lines) → IsPreface new (number + 1) (put_seated_if b (record { comm = number; group = other }) lines)
put_read new number comm group other b lines e f g h =
    subst (λ x. IsPreface new (number + 1) (put_seated_if x (record { comm = number; group = other }) lines)) (sym g)
    (subst (λ xs. IsPreface new (number + 1) (put_seated (record { comm = number; group = xs }) lines)) f
    (subst (λ n. IsPreface new (n + 1) (put_seated (record { comm = n; group = group }) lines)) e h))

-- none was put
pub put_none : (new : Preface) (number : ℕ) (it : Seated) (b : Bool) (lines : List (List Seated)) → b ≡ false → IsPreface new number lines → IsPreface new (number + 1) (put_seated_if b it lines)
put_none new number it b lines g h =
    subst (λ x. IsPreface new (number + 1) (put_seated_if x it lines)) (sym g) (preface_later new number lines h)

step_same : (b : Bool) (it : Seated) (others : List Seated) (lines : List (List Seated)) → put_all others (put_seated_if b it lines) ≡ put_all (seated_if b it.comm it.group others) lines
step_same true it others lines = refl
step_same false it others lines = refl

pub left_first : (table : Table) (numbered : List ℕ) (preface : Preface) → IsPreface preface 1 [] → IsLeft table numbered preface 1
left_first table numbered preface h = record { lines = []; is = h; same = refl }

-- the next is put, or is of a call
pub left_next : (table : Table) (numbered : List ℕ) (old new : Preface) (number place : ℕ) → slice_get numbered number ≡ Some place → (h : IsLeft table numbered old number)
    → IsPreface new (number + 1) (put_seated_if (is_of_none (slice_get table.codes place)) (record { comm = number; group = group_at table place }) h.lines)
    → IsLeft table numbered new (number + 1)
left_next table numbered old new number place e h put = record {
  lines = put_seated_if (is_of_none (slice_get table.codes place)) (record { comm = number; group = group_at table place }) h.lines;
  is = put;
  same = step_same (is_of_none (slice_get table.codes place)) (record { comm = number; group = group_at table place }) (seated_from table (number + 1) (drop (number + 1) numbered)) h.lines
      ∙ sym (ap (λ xs. put_all (seated_from table number xs) h.lines) (drop_here numbered number place e)) ∙ h.same;
}

-- all lines are made
pub left_none : (table : Table) (numbered : List ℕ) (preface : Preface) (number : ℕ) → number ≡ length numbered → IsLeft table numbered preface number → IsPreface preface (length numbered) (put_all (seated_from table 1 (drop 1 numbered)) [])
left_none table numbered preface number e h =
    let none : drop number numbered ≡ [] = drop_past numbered number (omega arith) in
    let same : h.lines ≡ put_all (seated_from table 1 (drop 1 numbered)) [] = sym (ap (λ xs. put_all (seated_from table number xs) h.lines) none) ∙ h.same in
    subst (λ n. IsPreface preface n (put_all (seated_from table 1 (drop 1 numbered)) [])) e
    (subst (λ lines. IsPreface preface number lines) same h.is)

-- ---- All of it ----

first_inferred : (table : Table) (place : Option ℕ) (keys : List Key) → AllZip (HasKey table) (as_list place) keys → IsPlaceOf table place (slice_get keys 0)
first_inferred table None [] h = tt
first_inferred table None (k ∷ keys) h = absurd h
first_inferred table (Some place) [] h = absurd h
first_inferred table (Some place) (k ∷ keys) h = h.0

inferred_read : (run : Run) (it : Survey) (rank : ℕ) → IsInferred run it rank → IsPlaceOf it.keys (or_none (slice_get it.inferred.items rank)) (slice_get (filter_map (inferred_key run) (entries_at run rank)) 0)
inferred_read run it rank h =
    subst (λ o. IsPlaceOf it.keys o (slice_get (filter_map (inferred_key run) (entries_at run rank)) 0)) (sym (ap or_none h.stands))
    (first_inferred it.keys h.place (filter_map (inferred_key run) (entries_at run rank)) h.is)

-- the group of a numbered key fits
pub numbered_fit : (run : Run) (n : ℕ) (key : Key) → HasFitComms run → slice_get (numbered_keys run) n ≡ Some key → IsFitGroup (length run) (group_of_key (length run) key)
numbered_fit run n key fit at = fit.groups key (numbered_known run (λ other. same_key other key) (key_among key (numbered_keys run) n at))

-- so does that of a key with a number
pub number_fit : (run : Run) (number : ℕ) (key : Key) → HasFitComms run → number_of run key ≡ Some number → IsFitGroup (length run) (group_of_key (length run) key)
number_fit run number key fit e = numbered_fit run number key fit (number_stands run key number e)

groups_fit : (run : Run) (table : Table) (numbered : List ℕ) → HasFitComms run → IsTable table → ranks_in table ≡ length run → AllZip (HasKey table) numbered (numbered_keys run) → AreGroupsOf table (length run) numbered
groups_fit run table numbered fit h ranks all n place e =
    let at = zip_at (HasKey table) numbered (numbered_keys run) n place all e in
    let same : group_at table place ≡ group_of_key (length run) at.0 = group_at_is table place at.0 h at.2 ∙ ap (λ k. group_of_key k at.0) ranks in
    subst (λ g. AreRanks (length run) g) (sym same) (numbered_fit run n at.0 fit at.1).members

zip_some : (table : Table) (numbered : List ℕ) (key : Key) (keys : List Key) → AllZip (HasKey table) numbered (key ∷ keys) → 0 < length numbered
zip_some table [] key keys h = absurd h
zip_some table (p ∷ numbered) key keys h = omega arith

pub run_kept : (run : Run) (survey : Survey) (it : Communicators) (numbers : List (Option ℕ)) → HasFitComms run → IsSurveyed run survey
    → it.keys ≡ survey.keys → it.inferred.items ≡ survey.inferred.items
    → length numbers ≡ length survey.keys.codes → IsNumbered numbers it.numbered.items
    → (0 < length numbers → AreBelow (length numbers) (places_in survey) → it.numbered.items ≡ numbered_places survey.named.items (places_in survey))
    → AreNamed survey.keys numbers it.named.items
    → (AreBelow (length survey.keys.codes) it.numbered.items → (wave : WaveCode) → contains_by (same_wave wave) it.bringing ≡ brings_at survey.keys it.numbered.items wave)
    → it.preface.ranks ≡ length run
    → (0 < length it.numbered.items → AreBelow (length survey.keys.codes) it.numbered.items → AreGroupsOf survey.keys (length run) it.numbered.items → IsPreface it.preface (length it.numbered.items) (put_all (seated_from survey.keys 1 (drop 1 it.numbered.items)) []))
    → it.is_window ≡ is_window run
    → IsNumberedRun run it
run_kept run survey it numbers fit s same_table same_inferred room is given named brings ranks lines window =
    let table = survey.keys in
    let all_places = places_same run survey s in
    let below : AreBelow (length numbers) (places_in survey) = subst (λ n. AreBelow n (places_in survey)) (sym room) (places_below table (places_in survey) (flat_map (keys_at run) (ranks_of run)) s.table all_places) in
    let some : 0 < length numbers = omega (arith, room, slice_get_within (keys_in table) 0 World s.table.world, s.table.long) in
    let all : AllZip (HasKey table) it.numbered.items (numbered_keys run) = subst (λ xs. AllZip (HasKey table) xs (numbered_keys run)) (sym (given some below)) (numbered_same run survey s) in
    let few = places_below table it.numbered.items (numbered_keys run) s.table all in
    let groups = groups_fit run table it.numbered.items fit s.table s.ranks all in
    let started = zip_some table it.numbered.items World (drop 1 (numbered_keys run)) all in
    record {
      fit = fit;
      window = window;
      table = subst (λ t. IsTable t) (sym same_table) s.table;
      ranks = ap ranks_in same_table ∙ s.ranks;
      numbered = subst (λ t. AllZip (HasKey t) it.numbered.items (numbered_keys run)) (sym same_table) all;
      numbers = subst (λ xs. IsNumbered xs it.numbered.items) (sym named.numbers) is;
      kept = λ key known.
          let found = key_found key (World ∷ flat_map (keys_got run) (ranks_of run)) known in
          let at = zip_back (HasKey table) (0 ∷ survey.got.items) (World ∷ flat_map (keys_got run) (ranks_of run)) found.0 key (s.table.world, s.got) found.1 in
          record {
            place = at.0;
            has = subst (λ t. HasKey t at.0 key) (sym same_table) at.2;
            named = named_read run table numbers it.numbered.items it.named.items at.0 key s.table s.ranks is all named room at.2;
          };
      bringing = λ wave. brings few wave ∙ ap (λ t. brings_at t it.numbered.items wave) (sym same_table);
      inferred = λ rank small.
          subst (λ t. IsPlaceOf t (or_none (slice_get it.inferred.items rank)) (slice_get (filter_map (inferred_key run) (entries_at run rank)) 0)) (sym same_table)
          (subst (λ xs. IsPlaceOf table (or_none (slice_get xs rank)) (slice_get (filter_map (inferred_key run) (entries_at run rank)) 0)) (sym same_inferred)
          (inferred_read run survey rank (s.inferred rank small)));
      preface = record {
        lines = put_all (seated_from table 1 (drop 1 it.numbered.items)) [];
        ranks = ranks;
        is = lines started few groups;
        same = lines_same run table numbers it.numbered.items s.table s.ranks is all;
      };
    }

-- ---- While the table grows ----

zip_grown : (old new : Table) (places : List ℕ) (keys : List Key) → Grows old new → AllZip (HasKey old) places keys → AllZip (HasKey new) places keys
zip_grown old new [] [] grows h = tt
zip_grown old new [] (k ∷ keys) grows h = absurd h
zip_grown old new (p ∷ places) [] grows h = absurd h
zip_grown old new (p ∷ places) (k ∷ keys) grows h = (grows.keys p k h.0, zip_grown old new places keys grows h.1)

brings_grown : (old new : Table) (places : List ℕ) (wave : WaveCode) → Grows old new → AreBelow (length old.codes) places → brings_at old places wave ≡ brings_at new places wave
brings_grown old new places wave grows below =
    any_same (λ place. is_of_wave wave (slice_get old.codes place)) (λ place. is_of_wave wave (slice_get new.codes place)) places
    (λ n place e.
    let at = get_some old.codes place (below n place e) in
    ap (λ o. is_of_wave wave o) (at.1 ∙ sym (grows.codes place at.0 at.1)))

-- what is kept is what the journals say by a table that has grown
pub run_grows : (run : Run) (it : Communicators) (new : Table) → IsNumberedRun run it → Grows it.keys new → IsNumberedRun run (record it { keys = new })
run_grows run it new h grows = record {
  fit = h.fit;
  window = h.window;
  table = grows.table;
  ranks = grows.ranks ∙ h.ranks;
  numbered = zip_grown it.keys new it.numbered.items (numbered_keys run) grows h.numbered;
  numbers = h.numbers;
  kept = λ key known. let one = h.kept key known in record { place = one.place; has = grows.keys one.place key one.has; named = one.named };
  bringing = λ wave. h.bringing wave ∙ brings_grown it.keys new it.numbered.items wave grows (places_below it.keys it.numbered.items (numbered_keys run) h.table h.numbered);
  inferred = λ rank small. place_grows it.keys new (or_none (slice_get it.inferred.items rank)) (slice_get (filter_map (inferred_key run) (entries_at run rank)) 0) grows (h.inferred rank small);
  preface = h.preface;
}
