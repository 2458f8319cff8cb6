-- What a rank has, as it is kept, while the table grows, and after calls and reports.
use Rattle.std.proofs.Common.{◌≡◌, ◌∙◌, refl, sym, ap, subst, ℕ, zero, suc, ◌+◌, ◌-◌, ◌≤◌, ◌==◌, Bool, true, false, cond, max, List, [], ◌∷◌, ◌++◌, length, replicate, Option, Some, None, nat_eq, arith}
use Rattle.std.specs.Prelude.{if◌then◌else◌}
use Rattle.std.specs.Bool.{Decides}
use Rattle.std.specs.List.{AllZip, count_by, filter_map, zip}
use Rattle.std.specs.HashMap.{HashMap, get}
use Rattle.std.specs.Str.{bytes_eq}
use Rattle.std.proofs.lemmas.List.Sums.{sum_by-append}
use Rattle.std.proofs.lemmas.Bool.{ne_eqb}
use Rattle.std.proofs.lemmas.Bool.Decides.{Decides-eqb}
use Rattle.journals.specs.Entries.{number_if, is_member, group_in}
use Rattle.journals.specs.declared.field.Field.{Field}
use Rattle.journals.specs.declared.field.Field.TheVariants.{Natural, Signed, Null, Any, Undefined}
use Rattle.journals.specs.declared.form.Form.TheVariants.{Member}
use Rattle.journals.specs.declared.word.ReportWord.{ReportWord}
use Rattle.journals.specs.declared.word.ReportWord.TheVariants as report
use Rattle.closing.specs.Called.{naturals_in}
use Rattle.closing.specs.Keys.{Key, World, Alone, key_count, group_count, same_key}
use Rattle.closing.specs.RankComms.{RankComms, Wave, under, after_line, with_made, with_duplicated, with_apart}
use Rattle.closing.specs.inner.Holds.{key_kept, IsCounted, HasComms, times_in, reported_line, report_taken, apart_taken}
use Rattle.closing.specs.Table.{Table}
use Rattle.closing.specs.inner.Table.{Grows, HasKey, HasGroup, IsTable, IsPlaceOf, IsWaveOf}
use Rattle.closing.specs.declared.rank_comms.RankComms.{RankComms as CommsCode}
use Rattle.closing.specs.declared.keys.Wave.{Wave as WaveCode}
use Rattle.closing.proofs.KeyLemmas.{same_key-Decides}
use Rattle.std.proofs.lemmas.Slice.Eq.{bytes_eq-Decides}

-- ---- While the table grows ----

pub place_grows : (a b : Table) (place : Option ℕ) (key : Option Key) → Grows a b → IsPlaceOf a place key → IsPlaceOf b place key
place_grows a b None None grows is = tt
place_grows a b (Some place) (Some key) grows is = grows.keys place key is
place_grows a b None (Some key) grows is = is
place_grows a b (Some place) None grows is = is

pub wave_grows : (a b : Table) (it : Option WaveCode) (wave : Option Wave) → Grows a b → IsWaveOf a it wave → IsWaveOf b it wave
wave_grows a b None None grows is = tt
wave_grows a b (Some it) (Some wave) grows is = (grows.keys it.parent wave.parent is.0, is.1)
wave_grows a b None (Some wave) grows is = is
wave_grows a b (Some it) None grows is = is

pub count_cons : {A : Type 0} (p : A → Bool) (x : A) (xs : List A) → count_by p (x ∷ xs) ≡ cond (p x) 1 0 + count_by p xs
count_cons {A} p x xs = sum_by-append (λ (y : A). cond (p y) 1 0) (x ∷ []) xs ∙ ap (λ (n : ℕ). n + count_by p xs) (omega arith)

pub count_push : {A : Type 0} (p : A → Bool) (x : A) (xs : List A) → count_by p (xs ++ x ∷ []) ≡ count_by p xs + cond (p x) 1 0
count_push {A} p x xs = sum_by-append (λ (y : A). cond (p y) 1 0) xs (x ∷ []) ∙ ap (λ (n : ℕ). count_by p xs + n) (omega arith)

module _ {A : Type 0} where
  pub zip_grows : (R S : ℕ → A → Type 0) → ((n : ℕ) (x : A) → R n x → S n x) → (places : List ℕ) (things : List A) → AllZip R places things → AllZip S places things
  zip_grows R S grows [] [] all = tt
  zip_grows R S grows [] (x ∷ things) all = all
  zip_grows R S grows (n ∷ places) [] all = all
  zip_grows R S grows (n ∷ places) (x ∷ things) all = (grows n x all.0, zip_grows R S grows places things all.1)

  pub zip_push : (R : ℕ → A → Type 0) (places : List ℕ) (things : List A) (n : ℕ) (x : A) → AllZip R places things → R n x → AllZip R (places ++ n ∷ []) (things ++ x ∷ [])
  zip_push R [] [] n x all one = (one, tt)
  zip_push R [] (y ∷ things) n x all one = absurd all
  zip_push R (m ∷ places) [] n x all one = absurd all
  zip_push R (m ∷ places) (y ∷ things) n x all one = (all.0, zip_push R places things n x all.1 one)

  module _ {S : Type 0} where
    pub counted_grows : (R Q : ℕ → A → Type 0) → ((n : ℕ) (x : A) → R n x → Q n x) → (counts : HashMap ℕ ℕ S) (things : List A) → IsCounted R counts things → IsCounted Q counts things
    counted_grows R Q grows counts things is = record {
      places = is.places;
      counted = is.counted;
      stand = zip_grows R Q grows is.places things is.stand;
    }

    -- one more stands at a place
    pub counted_more : (R : ℕ → A → Type 0) (counts more : HashMap ℕ ℕ S) (things : List A) (place : ℕ) (x : A) → IsCounted R counts things
        → ((other : ℕ) → times_in more other ≡ (if place == other then times_in counts other + 1 else times_in counts other)) → R place x
        → IsCounted R more (things ++ x ∷ [])
    counted_more R counts more things place x is updates stands = record {
      places = is.places ++ place ∷ [];
      counted = λ other.
          let before = is.counted other in
          let update = updates other in
          rw (count_push (λ (o : ℕ). o == other) place is.places) (by other (place == other) refl (is.counted other) (updates other));
      stand = zip_push R is.places things place x is.stand stands;
    }
      where
        by : (other : ℕ) (b : Bool) → (place == other) ≡ b → times_in counts other ≡ count_by (λ (o : ℕ). o == other) is.places
            → times_in more other ≡ (if place == other then times_in counts other + 1 else times_in counts other)
            → times_in more other ≡ count_by (λ (o : ℕ). o == other) is.places + cond (place == other) 1 0
        by other true e before update = rw e (omega (arith, before, rw e at update))
        by other false e before update = rw e (omega (arith, before, rw e at update))

    -- how often a thing stood is what is counted of its place
    pub times_are : (R : ℕ → A → Type 0) (same : A → A → Bool) → ((x y : A) → Decides (same x y) (x ≡ y))
        → ((n m : ℕ) (x : A) → R n x → R m x → n ≡ m) → ((n : ℕ) (x y : A) → R n x → R n y → x ≡ y)
        → (counts : HashMap ℕ ℕ S) (things : List A) (place : ℕ) (x : A) → IsCounted R counts things → R place x
        → times_in counts place ≡ count_by (λ other. same other x) things
    times_are R same decides one_place one_thing counts things place x is stands = is.counted place ∙ by is.places things is.stand
      where
        alike : (n : ℕ) (y : A) (a b : Bool) → R n y → a ≡ (n == place) → b ≡ same y x → a ≡ b
        alike n y true true h p q = refl
        alike n y false false h p q = refl
        alike n y true false h p q =
            let at : n ≡ place = (Decides-eqb n place).0 (sym p) in
            let is_it : y ≡ x = one_thing place y x (subst (λ (m : ℕ). R m y) at h) stands in
            sym ((decides y x).1 is_it) ∙ sym q
        alike n y false true h p q =
            let is_it : y ≡ x = (decides y x).0 (sym q) in
            let at : n ≡ place = one_place n place x (subst (λ (z : A). R n z) is_it h) stands in
            p ∙ (Decides-eqb n place).1 at

        by : (places : List ℕ) (all : List A) → AllZip R places all → count_by (λ (o : ℕ). o == place) places ≡ count_by (λ (o : A). same o x) all
        by [] [] zipped = refl
        by [] (y ∷ all) zipped = absurd zipped
        by (n ∷ places) [] zipped = absurd zipped
        by (n ∷ places) (y ∷ all) zipped =
            let rest = by places all zipped.1 in
            let first : (n == place) ≡ same y x = alike n y (n == place) (same y x) zipped.0 refl refl in
            count_cons (λ (o : ℕ). o == place) n places
            ∙ ap (λ (b : Bool). cond b 1 0 + count_by (λ (o : ℕ). o == place) places) first
            ∙ ap (λ (k : ℕ). cond (same y x) 1 0 + k) rest
            ∙ sym (count_cons (λ (o : A). same o x) y all)

pub comms_grow : (a b : Table) (it : CommsCode) (comms : RankComms) → Grows a b → HasComms a it comms → HasComms b it comms
comms_grow a b it comms grows is = record {
  table_is = grows.table;
  numbers = λ n. place_grows a b (key_kept it.numbers n) (under n comms.numbers) grows (is.numbers n);
  waves = counted_grows (HasKey a) (HasKey b) grows.keys it.waves comms.waves is.waves;
  duplicates = λ n. wave_grows a b (get nat_eq it.duplicates n) (under n comms.duplicates) grows (is.duplicates n);
  groups = counted_grows (HasGroup a) (HasGroup b) grows.groups it.groups comms.groups is.groups;
  apart = counted_grows (HasGroup a) (HasGroup b) grows.groups it.apart comms.apart is.apart;
  wave = wave_grows a b it.wave comms.wave grows is.wave;
  own = place_grows a b it.own comms.own grows is.own;
}

-- ---- Counts ----

module _ {S : Type 0} where
  pub key_times : (table : Table) (counts : HashMap ℕ ℕ S) (keys : List Key) (place : ℕ) (key : Key) → IsTable table → IsCounted (HasKey table) counts keys → HasKey table place key
      → times_in counts place ≡ key_count key keys
  key_times table counts keys place key is counted stands =
      times_are (HasKey table) same_key same_key-Decides (λ n m x h g. is.keys_once n m x h g) (λ n x y h g. let e : ◌≡◌ {A = Option Key} (Some x) (Some y) = sym h ∙ g in cc) counts keys place key counted stands

  pub group_times : (table : Table) (counts : HashMap ℕ ℕ S) (groups : List (List ℕ)) (place : ℕ) (group : List ℕ) → IsTable table → IsCounted (HasGroup table) counts groups → HasGroup table place group
      → times_in counts place ≡ group_count group groups
  group_times table counts groups place group is counted stands =
      times_are (HasGroup table) bytes_eq bytes_eq-Decides (λ n m x h g. is.groups_once n m x h g) (λ n x y h g. let e : ◌≡◌ {A = Option (List ℕ)} (Some x) (Some y) = sym h ∙ g in cc) counts groups place group counted stands

-- ---- Numbers ----

-- the first numbers of a rank
pub first_numbers : (table : Table) (alone rank n : ℕ) → HasKey table 0 World → HasKey table alone (Alone rank)
    → IsPlaceOf table (cond (1 == n) (Some alone) (cond (0 == n) (Some 0) None)) (under n ((0, World) ∷ (1, Alone rank) ∷ []))
first_numbers table alone rank zero world own = world
first_numbers table alone rank (suc zero) world own = own
first_numbers table alone rank (suc (suc n)) world own =
    let none : (0 == suc (suc n)) ≡ false = ne_eqb 0 (suc (suc n)) (λ e. omega arith) in
    let other : (1 == suc (suc n)) ≡ false = ne_eqb 1 (suc (suc n)) (λ e. omega arith) in
    rw (none, other) tt

-- one more number
pub place_put : (table : Table) (n other : ℕ) (place : ℕ) (key : Key) (numbers : List (ℕ × Key)) (before : Option ℕ) → HasKey table place key
    → IsPlaceOf table before (under other numbers) → IsPlaceOf table (cond (n == other) (Some place) before) (under other ((n, key) ∷ numbers))
place_put table n other place key numbers before stands is = by (n == other)
  where
    by : (b : Bool) → IsPlaceOf table (cond b (Some place) before) (if b then Some key else under other numbers)
    by true = stands
    by false = is

pub wave_put : (table : Table) (n other : ℕ) (it : WaveCode) (wave : Wave) (waves : List (ℕ × Wave)) (before : Option WaveCode) → IsWaveOf table (Some it) (Some wave)
    → IsWaveOf table before (under other waves) → IsWaveOf table (cond (n == other) (Some it) before) (under other ((n, wave) ∷ waves))
wave_put table n other it wave waves before stands is = by (n == other)
  where
    by : (b : Bool) → IsWaveOf table (cond b (Some it) before) (if b then Some wave else under other waves)
    by true = stands
    by false = is

-- ---- The group of a report ----

members_said : (count : ℕ) (fields : List Field) → length fields ≤ count → filter_map (number_if is_member) (zip (replicate count Member) fields) ≡ naturals_in fields
members_said zero [] few = refl
members_said zero (field ∷ fields) few = absurd (omega arith)
members_said (suc count) [] few = refl
members_said (suc count) (Natural number ∷ fields) few = ap (λ (ns : List ℕ). number ∷ ns) (members_said count fields (omega arith))
members_said (suc count) (Signed number ∷ fields) few = members_said count fields (omega arith)
members_said (suc count) (Null ∷ fields) few = members_said count fields (omega arith)
members_said (suc count) (Any ∷ fields) few = members_said count fields (omega arith)
members_said (suc count) (Undefined ∷ fields) few = members_said count fields (omega arith)

pub group_made : (number : ℕ) (members : List Field) → group_in (reported_line report.Comm (Natural number ∷ members)) ≡ naturals_in members
group_made number members = members_said (max 1 (length (Natural number ∷ members) - 1)) members (omega arith)

pub group_apart : (number : ℕ) (members : List Field) → group_in (reported_line report.Apart (Natural number ∷ members)) ≡ naturals_in members
group_apart number members = members_said (max 1 (length (Natural number ∷ members) - 1)) members (omega arith)

pub group_duplicated : (number request : ℕ) (members : List Field) → group_in (reported_line report.Idup (Natural number ∷ Natural request ∷ members)) ≡ naturals_in members
group_duplicated number request members = members_said (max 1 (length (Natural number ∷ Natural request ∷ members) - 2)) members (omega arith)

-- the fields of a report say what its line does
pub report_line : (comms : RankComms) (word : ReportWord) (fields : List Field) → report_taken comms word fields ≡ after_line comms (reported_line word fields)
unfolding apart_taken
report_line comms report.Comm (Natural number ∷ members) = ap (λ (g : List ℕ). with_made comms number g comms.own) (sym (group_made number members))
report_line comms report.Idup (Natural number ∷ Natural request ∷ members) = ap (λ (g : List ℕ). with_duplicated comms number request g) (sym (group_duplicated number request members))
report_line comms report.Apart (Natural number ∷ members) = ap (λ (g : List ℕ). with_apart comms number g) (sym (group_apart number members))
report_line comms word fields = refl
