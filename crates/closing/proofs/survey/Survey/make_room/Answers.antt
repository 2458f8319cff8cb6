-- One key more has a flag.
use Rattle.std.proofs.Common.{◌∙◌, ◌≤◌, ap, arith, length}
use Rattle.closing.specs.declared.survey.Survey.{Survey}
use Rattle.closing.proofs.NamedLemmas.{room_step}
use Rattle.closing.proofs.survey.Survey.make_room.Goals as goal

pub loop-place-preserved : goal.loop-place-preserved
loop-place-preserved c =
    let few : length c.args.self.now.named.items ≤ c.loop-place.place = omega (arith, c.loop-place.auto.place, c.args.self.now.named.ok.0) in
    record {
      same = ap (λ (s : Survey). record s { named = c.push.new.self }) c.loop-place.invariant.same;
      named = c.in_ok-push.ensures.items ∙ room_step c.args.self.now.named.items c.loop-place.self.named.items c.loop-place.place few c.loop-place.invariant.named;
    }
