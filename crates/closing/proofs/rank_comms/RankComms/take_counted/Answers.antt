-- What is kept after a call is what the rank has.
use Rattle.std.proofs.Common.{nat_eq}
use Rattle.std.specs.HashMap.{get}
use Rattle.closing.specs.RankComms.{under}
use Rattle.closing.specs.inner.Table.{Grows, HasGroup, HasKey}
use Rattle.closing.specs.RankComms.{wave_next}
use Rattle.closing.specs.inner.Holds.{key_kept, waves_with}
use Rattle.closing.specs.inner.Views.{called_view}
use Rattle.closing.proofs.HoldsLemmas.{counted_grows, place_grows, wave_grows}
use Rattle.closing.proofs.rank_comms.RankComms.take_counted.Goals as goal

pub returns-clause-comms : goal.returns-clause-comms
returns-clause-comms c comms is on =
    let a = c.args.keys.now in
    let b = c.next_of_group.new.keys in
    let it = called_view c.args.called.now in
    let grows : Grows a b = c.in_ok-own.ensures.grows is.table_is in
    let next = c.in_ok-wave.ensures.value a comms is.table_is is.waves on in
    let wave = wave_grows a b c.in_ok-wave.wave (wave_next comms it) grows next in
    let old = c.args.self.now in
    record {
      table_is = grows.table;
      numbers = λ n. place_grows a b (key_kept old.numbers n) (under n comms.numbers) grows (is.numbers n);
      waves = counted_grows (HasKey a) (HasKey b) grows.keys c.next_wave.new.waves (waves_with comms (wave_next comms it)) (c.in_ok-wave.ensures.counted a comms is.table_is is.waves on);
      duplicates = c.in_ok-note_duplicate.ensures b comms (wave_next comms it) wave
          (λ n. wave_grows a b (get nat_eq old.duplicates n) (under n comms.duplicates) grows (is.duplicates n));
      groups = c.in_ok-own.ensures.counted comms is.table_is is.groups;
      apart = counted_grows (HasGroup a) (HasGroup b) grows.groups old.apart comms.apart is.apart;
      wave = c.wave_if-self.ensures b (wave_next comms it) wave;
      own = c.in_ok-own.ensures.value comms is.table_is is.groups;
    }

pub returns-clause-wave : goal.returns-clause-wave
returns-clause-wave c comms is on =
    let a = c.args.keys.now in
    let b = c.next_of_group.new.keys in
    let it = called_view c.args.called.now in
    let grows : Grows a b = c.in_ok-own.ensures.grows is.table_is in
    let next = c.in_ok-wave.ensures.value a comms is.table_is is.waves on in
    let wave = wave_grows a b c.in_ok-wave.wave (wave_next comms it) grows next in
    wave
