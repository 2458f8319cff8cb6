-- A communicator of what no call line says has its place, and the number that the rank gives it.
use Rattle.std.proofs.Common.{◌≡◌, ◌∙◌, ◌++◌, ◌∷◌, [], Some, refl, ap}
use Rattle.closing.specs.Called.{naturals_in}
use Rattle.closing.specs.Keys.{Key, Apart, group_count}
use Rattle.closing.specs.inner.Holds.{apart_taken}
use Rattle.closing.specs.inner.Table.{Grows, HasGroup, HasKey}
use Rattle.closing.specs.declared.rank_comms.RankComms.{RankComms as CommsCode}
use Rattle.closing.proofs.HoldsLemmas.{counted_grows, counted_more, group_times, wave_grows}
use Rattle.closing.proofs.TableLemmas.{grows_on}
use Rattle.closing.proofs.ReportLemmas.{comms_with, numbers_with, apart_placed, apart_is}
use Rattle.closing.proofs.rank_comms.RankComms.take_apart.Goals as goal

pub returns-clause-grows : goal.returns-clause-grows
returns-clause-grows c comms is =
    let a = c.args.keys.now in
    let b = c.place_of_group.new.self in
    let d = c.put.new.self in
    let old = c.args.self.now in
    let said = naturals_in c.args.members.now in
    let group = c.in_ok-group.group in
    let first : Grows a b = c.in_ok-group.ensures.grows is.table_is in
    let has : HasGroup b group said = c.in_ok-group.ensures.value in
    let placed = apart_placed b group c.in_ok-count.count said has in
    let second : Grows b d = c.in_ok-key.ensures.grows first.table placed in
    let grows : Grows a d = grows_on a b d first second in
    grows

pub returns-clause-comms : goal.returns-clause-comms
unfolding apart_taken
returns-clause-comms c comms is =
    let a = c.args.keys.now in
    let b = c.place_of_group.new.self in
    let d = c.put.new.self in
    let old = c.args.self.now in
    let said = naturals_in c.args.members.now in
    let group = c.in_ok-group.group in
    let first : Grows a b = c.in_ok-group.ensures.grows is.table_is in
    let has : HasGroup b group said = c.in_ok-group.ensures.value in
    let placed = apart_placed b group c.in_ok-count.count said has in
    let second : Grows b d = c.in_ok-key.ensures.grows first.table placed in
    let grows : Grows a d = grows_on a b d first second in
    let times = group_times b old.apart comms.apart group said first.table (counted_grows (HasGroup a) (HasGroup b) first.groups old.apart comms.apart is.apart) has in
    let count : c.in_ok-count.count ≡ group_count said comms.apart = c.in_ok-count.ensures.before ∙ times in
    let made = Apart said (group_count said comms.apart) in
    let put = c.in_ok-key.ensures.value first.table placed in
    let key : HasKey d c.in_ok-key.key made = put ∙ ap (λ (k : Key). Some k) (apart_is b group c.in_ok-count.count (group_count said comms.apart) said count has) in
    let new : CommsCode = record old { numbers = c.insert.new.self; apart = c.count_on.new.counts } in
    comms_with a d old new comms ((c.args.comm, made) ∷ comms.numbers) (comms.keys ++ made ∷ []) comms.wave (comms.apart ++ said ∷ []) is grows refl
    (numbers_with a d old new comms c.args.comm c.in_ok-key.key made is grows c.in_ok-insert.ensures key)
    (wave_grows a d old.wave comms.wave grows is.wave)
    (counted_more (HasGroup d) old.apart c.count_on.new.counts comms.apart group said
    (counted_grows (HasGroup a) (HasGroup d) grows.groups old.apart comms.apart is.apart) c.in_ok-count.ensures.more (second.groups group said has))

pub returns-clause-got : goal.returns-clause-got
unfolding apart_taken
returns-clause-got c comms is =
    let a = c.args.keys.now in
    let b = c.place_of_group.new.self in
    let d = c.put.new.self in
    let old = c.args.self.now in
    let said = naturals_in c.args.members.now in
    let group = c.in_ok-group.group in
    let first : Grows a b = c.in_ok-group.ensures.grows is.table_is in
    let has : HasGroup b group said = c.in_ok-group.ensures.value in
    let placed = apart_placed b group c.in_ok-count.count said has in
    let second : Grows b d = c.in_ok-key.ensures.grows first.table placed in
    let grows : Grows a d = grows_on a b d first second in
    let times = group_times b old.apart comms.apart group said first.table (counted_grows (HasGroup a) (HasGroup b) first.groups old.apart comms.apart is.apart) has in
    let count : c.in_ok-count.count ≡ group_count said comms.apart = c.in_ok-count.ensures.before ∙ times in
    let made = Apart said (group_count said comms.apart) in
    let put = c.in_ok-key.ensures.value first.table placed in
    let key : HasKey d c.in_ok-key.key made = put ∙ ap (λ (k : Key). Some k) (apart_is b group c.in_ok-count.count (group_count said comms.apart) said count has) in
    (made, key, refl)
