-- The wave of a next call, as it is counted.
use Rattle.std.proofs.Common.{◌≡◌, ◌∙◌, refl, sym, ap, subst, ℕ, ◌+◌, ◌==◌, true, Option, Some, None, true≢false}
use Rattle.std.specs.Prelude.{if◌then◌else◌, option_map, option_and_then, is_some}
use Rattle.std.specs.HashMap.{HashMap}
use Rattle.closing.specs.Called.{Called, Sends, StartsSend, Receives, StartsReceive, Exchanges, StartsExchange, Probes, ProbesMatching, wave_comm, comm_of}
use Rattle.closing.specs.Keys.{Key}
use Rattle.closing.specs.RankComms.{RankComms, Wave, key_under, wave_on, wave_next}
use Rattle.closing.specs.inner.Holds.{IsCounted, times_in, key_on, waves_with}
use Rattle.closing.specs.Table.{Table}
use Rattle.closing.specs.inner.Table.{HasKey, IsTable, IsPlaceOf, IsWaveOf}
use Rattle.closing.proofs.HoldsLemmas.{counted_more, key_times}

comm_of_wave : (it : Called) (comm : ℕ) → wave_comm it ≡ Some comm → comm_of it ≡ Some comm
comm_of_wave (Sends mode sent) comm h = cc
comm_of_wave (StartsSend request mode sent) comm h = cc
comm_of_wave (Receives awaited) comm h = cc
comm_of_wave (StartsReceive request awaited) comm h = cc
comm_of_wave (Exchanges sent awaited) comm h = cc
comm_of_wave (StartsExchange request received sent awaited) comm h = cc
comm_of_wave (Probes awaited) comm h = cc
comm_of_wave (ProbesMatching message awaited) comm h = cc
comm_of_wave it comm h = h

pub no_wave : (comms : RankComms) (it : Called) → wave_comm it ≡ None → wave_next comms it ≡ None
no_wave comms it none = ap (λ (o : Option ℕ). option_map (wave_on comms) (option_and_then (key_under comms) o)) none

wave_of_key : (comms : RankComms) (it : Called) (comm : ℕ) → wave_comm it ≡ Some comm → wave_next comms it ≡ option_map (wave_on comms) (key_on comms it)
wave_of_key comms it comm is =
    ap (λ (o : Option ℕ). option_map (wave_on comms) (option_and_then (key_under comms) o)) (is ∙ sym (comm_of_wave it comm is))

no_place : (table : Table) (key : Option Key) → IsPlaceOf table None key → key ≡ None
no_place table None is = refl
no_place table (Some key) is = absurd is

pub wave_nowhere : (table : Table) (comms : RankComms) (it : Called) → IsPlaceOf table None (key_on comms it) → wave_next comms it ≡ None
wave_nowhere table comms it is = by (wave_comm it) refl
  where
    by : (o : Option ℕ) → wave_comm it ≡ o → wave_next comms it ≡ None
    by None e = no_wave comms it e
    by (Some comm) e = wave_of_key comms it comm e ∙ ap (λ (k : Option Key). option_map (wave_on comms) k) (no_place table (key_on comms it) is)

pub some_comm : (o : Option ℕ) → is_some o ≡ true → (comm : ℕ) × (o ≡ Some comm)
some_comm None h = absurd (true≢false (sym h))
some_comm (Some comm) h = (comm, refl)

pub same_waves : {S : Type 0} (table : Table) (comms : RankComms) (wave : Option Wave) (waves : HashMap ℕ ℕ S) → wave ≡ None → IsCounted (HasKey table) waves comms.waves
    → IsCounted (HasKey table) waves (waves_with comms wave)
same_waves table comms wave waves none is = subst (λ (w : Option Wave). IsCounted (HasKey table) waves (waves_with comms w)) (sym none) is

pub no_wave_is : (table : Table) (wave : Option Wave) → wave ≡ None → IsWaveOf table None wave
no_wave_is table wave none = subst (λ (w : Option Wave). IsWaveOf table None w) (sym none) tt

module _ {S : Type 0} (table : Table) (comms : RankComms) (it : Called) (comm parent : ℕ) (waves more : HashMap ℕ ℕ S) where
  pub wave_counted : wave_comm it ≡ Some comm → IsCounted (HasKey table) waves comms.waves → IsPlaceOf table (Some parent) (key_on comms it)
      → ((other : ℕ) → times_in more other ≡ (if parent == other then times_in waves other + 1 else times_in waves other))
      → IsCounted (HasKey table) more (waves_with comms (wave_next comms it))
  wave_counted is counted on updates =
      subst (λ (w : Option Wave). IsCounted (HasKey table) more (waves_with comms w)) (sym (wave_of_key comms it comm is)) (by (key_on comms it) on)
    where
      by : (key : Option Key) → IsPlaceOf table (Some parent) key → IsCounted (HasKey table) more (waves_with comms (option_map (wave_on comms) key))
      by None stands = absurd stands
      by (Some key) stands = counted_more (HasKey table) waves more comms.waves parent key counted updates stands

  pub wave_valued : (times : ℕ) → times ≡ times_in waves parent → IsTable table → wave_comm it ≡ Some comm → IsCounted (HasKey table) waves comms.waves
      → IsPlaceOf table (Some parent) (key_on comms it) → IsWaveOf table (Some (record { parent = parent; count = times })) (wave_next comms it)
  wave_valued times same table_is is counted on =
      subst (λ (w : Option Wave). IsWaveOf table (Some (record { parent = parent; count = times })) w) (sym (wave_of_key comms it comm is)) (by (key_on comms it) on)
    where
      by : (key : Option Key) → IsPlaceOf table (Some parent) key → IsWaveOf table (Some (record { parent = parent; count = times })) (option_map (wave_on comms) key)
      by None stands = absurd stands
      by (Some key) stands = (stands, same ∙ key_times table waves comms.waves parent key table_is counted stands)
