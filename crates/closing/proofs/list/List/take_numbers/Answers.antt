-- One request more is taken.
use Rattle.std.proofs.Common.{◌<◌, ◌≤◌, ◌+◌, ap, arith, subst, length, map, drop, get_or}
use Rattle.std.proofs.lemmas.List.{drop_all, drop_more}
use Rattle.closing.specs.Steps.{Own, without_all}
use Rattle.closing.proofs.RequestLemmas.{all_apart}
use Rattle.closing.proofs.WaitLemmas.{TakesSoFar, keeps_lines, takes_last, takes_more}
use Rattle.closing.proofs.list.List.take_numbers.Goals as goal

pub loop-id-preserved : goal.loop-id-preserved
loop-id-preserved c =
    let within : c.loop-id.id-index < length c.args.ids.now = omega (arith, c.loop-id-test.true) in
    record {
      same = keeps_lines c.args.self.now c.loop-id.self c.take_request.new.self c.loop-id.invariant.same c.in_ok-take_request.ensures.same;
      takes = λ active apart owns.
          let so_far : TakesSoFar active (map Own c.args.ids.now) (map Own (drop c.loop-id.id-index c.args.ids.now)) c.loop-id.self = c.loop-id.invariant.takes active apart owns in
          takes_more active (map Own c.args.ids.now) (get_or c.args.ids.now c.loop-id.id-index 0) (map Own (drop (c.loop-id.id-index + 1) c.args.ids.now)) c.loop-id.self c.take_request.new.self
          (subst (λ rest. TakesSoFar active (map Own c.args.ids.now) rest c.loop-id.self) (ap (map Own) (drop_more c.args.ids.now c.loop-id.id-index 0 within)) so_far)
          (c.in_ok-take_request.ensures.takes (without_all c.loop-id.self.numbers.items active) (all_apart c.loop-id.self.numbers.items active apart) so_far.own);
    }

pub returns-clause-takes : goal.returns-clause-takes
returns-clause-takes c = λ active apart owns.
    let past : length c.args.ids.now ≤ c.loop-id.id-index = omega (arith, c.loop-id-test.false) in
    takes_last active (map Own c.args.ids.now) (map Own (drop c.loop-id.id-index c.args.ids.now)) c.loop-id.self
    (ap (map Own) (drop_all c.loop-id.id-index c.args.ids.now past)) (c.loop-id.invariant.takes active apart owns)
