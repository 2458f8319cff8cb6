-- Before all lines the rank has the communicator of itself alone.
use Rattle.std.proofs.Common.{Some, refl}
use Rattle.closing.specs.Keys.{Alone}
use Rattle.closing.specs.RankComms.{comms_first}
use Rattle.closing.specs.declared.survey.Survey.{Survey}
use Rattle.closing.proofs.NamedLemmas.{got_grow, got_with}
use Rattle.closing.proofs.SurveyLemmas.{got_takes}
use Rattle.closing.proofs.survey.Survey.start_rank.Goals as goal

pub returns-clause-starts : goal.returns-clause-starts
returns-clause-starts c before names has =
    let a = c.args.self.now in
    let keys = c.put_alone.new.self in
    let mid : Survey = record a { keys = keys } in
    let grows = c.in_ok-alone.ensures.grows has.table in
    let alone = c.in_ok-alone.ensures.value has.table in
    got_takes before names before (comms_first c.args.rank) a mid c.make_room.new.self c.push_got.new.self c.in_ok-comms.comms (Some c.in_ok-alone.alone)
    has refl grows c.in_ok-make_room.ensures.same c.in_ok-make_room.ensures.named c.in_ok-push_got.ensures.same c.in_ok-push_got.ensures.got
    (got_with keys a.got.items before (Some c.in_ok-alone.alone) (Some (Alone c.args.rank)) alone (got_grow a.keys keys a.got.items before grows has.got))
    (c.in_ok-comms.ensures keys c.args.rank grows.table alone)
