-- The key of a group's communicator is got and named.
use Rattle.closing.proofs.SurveyLemmas.{group_room, group_takes}
use Rattle.closing.proofs.survey.Survey.take_of_group.Goals as goal

pub returns-clause-takes : goal.returns-clause-takes
returns-clause-takes c gots names own has at =
    group_takes gots names c.args.self.now c.make_room.new.self c.name.new.self c.push_got.new.self c.args.key own
    c.in_ok-make_room.ensures.same c.in_ok-make_room.ensures.named c.name.ensures.same c.name.ensures.named c.in_ok-push_got.ensures.same c.in_ok-push_got.ensures.got at has

pub returns-clause-room : goal.returns-clause-room
returns-clause-room c few =
    group_room c.args.self.now c.make_room.new.self c.name.new.self c.push_got.new.self c.args.key
    c.in_ok-make_room.ensures.same c.in_ok-make_room.ensures.named c.name.ensures.same c.name.ensures.named c.in_ok-push_got.ensures.same few
