-- What a rank has after a report, as it is kept.
use Rattle.std.proofs.Common.{◌≡◌, refl, sym, ap, subst, ℕ, ◌<◌, ◌==◌, cond, List, [], ◌∷◌, length, Option, Some, None, nat_eq, arith}
use Rattle.std.specs.Prelude.{unwrap_or}
use Rattle.std.specs.HashMap.{get}
use Rattle.std.proofs.lemmas.Option.{slice_get_within}
use Rattle.closing.specs.Keys.{Key, World, Apart, OfGroup}
use Rattle.closing.specs.RankComms.{RankComms, Wave, under, made_in, duplicated_in}
use Rattle.closing.specs.inner.Holds.{key_kept, IsCounted, HasComms}
use Rattle.closing.specs.Table.{Table, group_or_none}
use Rattle.closing.specs.inner.Table.{Grows, HasKey, HasGroup, IsPlaced, IsTable, IsPlaceOf, IsWaveOf, key_of, keys_in, key_or_world}
use Rattle.closing.specs.declared.rank_comms.RankComms.{RankComms as CommsCode}
use Rattle.closing.specs.declared.keys.Key.TheVariants as code
use Rattle.closing.specs.declared.keys.Wave.{Wave as WaveCode}
use Rattle.closing.proofs.HoldsLemmas.{counted_grows, place_grows, place_put, wave_grows}

-- what is kept, with other numbers, wave and groups of what no call line says
pub comms_with : (a d : Table) (it new : CommsCode) (comms : RankComms) (numbers : List (ℕ × Key)) (keys : List Key) (wave : Option Wave) (apart : List (List ℕ))
    → HasComms a it comms → Grows a d → new ≡ record it { numbers = new.numbers; wave = new.wave; apart = new.apart }
    → ((q : ℕ) → IsPlaceOf d (key_kept new.numbers q) (under q numbers)) → IsWaveOf d new.wave wave → IsCounted (HasGroup d) new.apart apart
    → HasComms d new (record comms { numbers = numbers; keys = keys; wave = wave; apart = apart })
comms_with a d it new comms numbers keys wave apart is grows rest numbers_are wave_is apart_is = record {
  table_is = grows.table;
  numbers = numbers_are;
  waves = subst (λ (x : CommsCode). IsCounted (HasKey d) x.waves comms.waves) (sym rest) (counted_grows (HasKey a) (HasKey d) grows.keys it.waves comms.waves is.waves);
  duplicates = λ n. subst (λ (x : CommsCode). IsWaveOf d (get nat_eq x.duplicates n) (under n comms.duplicates)) (sym rest) (wave_grows a d (get nat_eq it.duplicates n) (under n comms.duplicates) grows (is.duplicates n));
  groups = subst (λ (x : CommsCode). IsCounted (HasGroup d) x.groups comms.groups) (sym rest) (counted_grows (HasGroup a) (HasGroup d) grows.groups it.groups comms.groups is.groups);
  apart = apart_is;
  wave = wave_is;
  own = subst (λ (x : CommsCode). IsPlaceOf d x.own comms.own) (sym rest) (place_grows a d it.own comms.own grows is.own);
}

-- the numbers with one more
pub numbers_with : (a d : Table) (it new : CommsCode) (comms : RankComms) (n place : ℕ) (key : Key) → HasComms a it comms → Grows a d
    → ((q : ℕ) → key_kept new.numbers q ≡ cond (n == q) (Some place) (key_kept it.numbers q)) → HasKey d place key
    → (q : ℕ) → IsPlaceOf d (key_kept new.numbers q) (under q ((n, key) ∷ comms.numbers))
numbers_with a d it new comms n place key is grows updates stands q =
    subst (λ (o : Option ℕ). IsPlaceOf d o (under q ((n, key) ∷ comms.numbers))) (sym (updates q))
    (place_put d n q place key comms.numbers (key_kept it.numbers q) stands (place_grows a d (key_kept it.numbers q) (under q comms.numbers) grows (is.numbers q)))

-- ---- The communicator of the last call ----

pub no_key : (table : Table) (key : Option Key) → IsPlaceOf table None key → key ≡ None
no_key table None is = refl
no_key table (Some key) is = absurd is

-- ---- Keys that are put ----

-- the key of a wave and a group that have places
waved : (table : Table) (it : WaveCode) (wave : Wave) (place : ℕ) (group : List ℕ) → IsTable table → IsWaveOf table (Some it) (Some wave) → HasGroup table place group
    → (it.parent < length table.codes) × (place < length table.groups)
waved table it wave place group is stands has = (
  omega (arith, slice_get_within (keys_in table) it.parent wave.parent stands.0, is.long),
  slice_get_within table.groups place group has,
)

pub made_placed : (table : Table) (it : WaveCode) (wave : Wave) (place : ℕ) (group : List ℕ) → IsTable table → IsWaveOf table (Some it) (Some wave) → HasGroup table place group
    → IsPlaced table.groups (length table.codes) (code.Made it place)
made_placed table it wave place group is stands has = waved table it wave place group is stands has

pub duplicated_placed : (table : Table) (it : WaveCode) (wave : Wave) (place : ℕ) (group : List ℕ) → IsTable table → IsWaveOf table (Some it) (Some wave) → HasGroup table place group
    → IsPlaced table.groups (length table.codes) (code.Duplicated it place)
duplicated_placed table it wave place group is stands has = waved table it wave place group is stands has

pub apart_placed : (table : Table) (place times : ℕ) (group : List ℕ) → HasGroup table place group → IsPlaced table.groups (length table.codes) (code.Apart place times)
apart_placed table place times group has = slice_get_within table.groups place group has

pub of_group_placed : (table : Table) (place times : ℕ) (group : List ℕ) → HasGroup table place group → IsPlaced table.groups (length table.codes) (code.OfGroup place times)
of_group_placed table place times group has = slice_get_within table.groups place group has

group_at : (table : Table) (place : ℕ) (group : List ℕ) → HasGroup table place group → group_or_none table.groups place ≡ group
group_at table place group has = ap (λ (o : Option (List ℕ)). unwrap_or o []) has

parent_at : (table : Table) (place : ℕ) (key : Key) → HasKey table place key → key_or_world (keys_in table) place ≡ key
parent_at table place key has = ap (λ (o : Option Key). unwrap_or o World) has

pub made_is : (table : Table) (it : WaveCode) (wave : Wave) (place : ℕ) (group : List ℕ) → IsWaveOf table (Some it) (Some wave) → HasGroup table place group
    → key_of table.groups (keys_in table) (code.Made it place) ≡ made_in group wave
made_is table it wave place group stands has =
    let p : key_or_world (keys_in table) it.parent ≡ wave.parent = parent_at table it.parent wave.parent stands.0 in
    let n : it.count ≡ wave.count = stands.1 in
    let g : group_or_none table.groups place ≡ group = group_at table place group has in
    cc

pub duplicated_is : (table : Table) (it : WaveCode) (wave : Wave) (place : ℕ) (group : List ℕ) → IsWaveOf table (Some it) (Some wave) → HasGroup table place group
    → key_of table.groups (keys_in table) (code.Duplicated it place) ≡ duplicated_in group wave
duplicated_is table it wave place group stands has =
    let p : key_or_world (keys_in table) it.parent ≡ wave.parent = parent_at table it.parent wave.parent stands.0 in
    let n : it.count ≡ wave.count = stands.1 in
    let g : group_or_none table.groups place ≡ group = group_at table place group has in
    cc

pub apart_is : (table : Table) (place times count : ℕ) (group : List ℕ) → times ≡ count → HasGroup table place group → key_of table.groups (keys_in table) (code.Apart place times) ≡ Apart group count
apart_is table place times count group n has =
    let g : group_or_none table.groups place ≡ group = group_at table place group has in
    cc

pub of_group_is : (table : Table) (place times count : ℕ) (group : List ℕ) → times ≡ count → HasGroup table place group → key_of table.groups (keys_in table) (code.OfGroup place times) ≡ OfGroup group count
of_group_is table place times count group n has =
    let g : group_or_none table.groups place ≡ group = group_at table place group has in
    cc

pub some_wave : (table : Table) (it : WaveCode) (wave : Option Wave) → IsWaveOf table (Some it) wave → (w : Wave) × (wave ≡ Some w) × IsWaveOf table (Some it) (Some w)
some_wave table it None stands = absurd stands
some_wave table it (Some w) stands = (w, refl, stands)
