-- The communicator of the last wave has its place, and the number that the rank gives it.
use Rattle.std.proofs.Common.{◌∙◌, ◌++◌, ◌∷◌, [], Option, Some, None, refl, subst, sym, ap}
use Rattle.std.specs.Prelude.{option_map}
use Rattle.closing.specs.Called.{naturals_in}
use Rattle.closing.specs.Keys.{Key}
use Rattle.closing.specs.RankComms.{Wave, with_key, made_in}
use Rattle.closing.specs.inner.Holds.{HasComms, IsGot}
use Rattle.closing.specs.inner.Table.{Grows, HasGroup, HasKey, IsWaveOf}
use Rattle.closing.specs.declared.rank_comms.RankComms.{RankComms as CommsCode}
use Rattle.closing.specs.declared.keys.Wave.{Wave as WaveCode}
use Rattle.closing.proofs.HoldsLemmas.{counted_grows, wave_grows}
use Rattle.closing.proofs.TableLemmas.{grows_on}
use Rattle.closing.proofs.ReportLemmas.{comms_with, numbers_with, made_placed, made_is, some_wave}
use Rattle.closing.proofs.rank_comms.RankComms.take_waited.Goals as goal

pub returns-clause-grows : goal.returns-clause-grows
returns-clause-grows c comms is =
    let a = c.args.keys.now in
    let b = c.place_of_group.new.self in
    let d = c.put.new.self in
    let said = naturals_in c.args.members.now in
    let group = c.in_ok-group.group in
    let first : Grows a b = c.in_ok-group.ensures.grows is.table_is in
    let has : HasGroup b group said = c.in_ok-group.ensures.value in
    let it = c.in-Some.wave in
    let stands : IsWaveOf a (Some it) comms.wave = subst (λ (o : Option WaveCode). IsWaveOf a o comms.wave) c.in-Some.is is.wave in
    let at = some_wave a it comms.wave stands in
    let there : IsWaveOf b (Some it) (Some at.0) = wave_grows a b (Some it) (Some at.0) first at.2 in
    let placed = made_placed b it at.0 group said first.table there has in
    let grows : Grows a d = grows_on a b d first (c.in_ok-key.ensures.grows first.table placed) in
    grows

pub returns-clause-comms : goal.returns-clause-comms
returns-clause-comms c comms is =
    let a = c.args.keys.now in
    let b = c.place_of_group.new.self in
    let d = c.put.new.self in
    let said = naturals_in c.args.members.now in
    let group = c.in_ok-group.group in
    let first : Grows a b = c.in_ok-group.ensures.grows is.table_is in
    let has : HasGroup b group said = c.in_ok-group.ensures.value in
    let it = c.in-Some.wave in
    let stands : IsWaveOf a (Some it) comms.wave = subst (λ (o : Option WaveCode). IsWaveOf a o comms.wave) c.in-Some.is is.wave in
    let at = some_wave a it comms.wave stands in
    let there : IsWaveOf b (Some it) (Some at.0) = wave_grows a b (Some it) (Some at.0) first at.2 in
    let placed = made_placed b it at.0 group said first.table there has in
    let grows : Grows a d = grows_on a b d first (c.in_ok-key.ensures.grows first.table placed) in
    let put = c.in_ok-key.ensures.value first.table placed in
    let key : HasKey d c.in_ok-key.key (made_in said at.0) = put ∙ ap (λ (k : Key). Some k) (made_is b it at.0 group said there has) in
    let old = c.args.self.now in
    let new : CommsCode = record old { numbers = c.insert.new.self; wave = None } in
    subst (λ (w : Option Wave). HasComms d new (record (with_key comms c.args.comm (option_map (made_in said) w)) { wave = None })) (sym at.1)
    (comms_with a d old new comms ((c.args.comm, made_in said at.0) ∷ comms.numbers) (comms.keys ++ made_in said at.0 ∷ []) None comms.apart is grows refl
    (numbers_with a d old new comms c.args.comm c.in_ok-key.key (made_in said at.0) is grows c.in_ok-insert.ensures key)
    tt
    (counted_grows (HasGroup a) (HasGroup d) grows.groups old.apart comms.apart is.apart))

pub returns-clause-got : goal.returns-clause-got
returns-clause-got c comms is =
    let a = c.args.keys.now in
    let b = c.place_of_group.new.self in
    let d = c.put.new.self in
    let said = naturals_in c.args.members.now in
    let group = c.in_ok-group.group in
    let first : Grows a b = c.in_ok-group.ensures.grows is.table_is in
    let has : HasGroup b group said = c.in_ok-group.ensures.value in
    let it = c.in-Some.wave in
    let stands : IsWaveOf a (Some it) comms.wave = subst (λ (o : Option WaveCode). IsWaveOf a o comms.wave) c.in-Some.is is.wave in
    let at = some_wave a it comms.wave stands in
    let there : IsWaveOf b (Some it) (Some at.0) = wave_grows a b (Some it) (Some at.0) first at.2 in
    let placed = made_placed b it at.0 group said first.table there has in
    let grows : Grows a d = grows_on a b d first (c.in_ok-key.ensures.grows first.table placed) in
    let put = c.in_ok-key.ensures.value first.table placed in
    let key : HasKey d c.in_ok-key.key (made_in said at.0) = put ∙ ap (λ (k : Key). Some k) (made_is b it at.0 group said there has) in
    subst (λ (w : Option Wave). IsGot d (Some c.in_ok-key.key) comms.keys (with_key comms c.args.comm (option_map (made_in said) w)).keys) (sym at.1)
    (made_in said at.0, key, refl)
