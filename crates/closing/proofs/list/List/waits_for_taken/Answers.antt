-- One turn more, and all turns.
use Rattle.std.proofs.Common.{◌<◌, ◌≤◌, ◌+◌, ◌*◌, ◌/◌, ap, arith, length, subst, sym}
use Rattle.std.proofs.lemmas.Result.{err_from_is_err_and}
use Rattle.mpicall.specs.declared.limits.TheConstants.{MOST_REQUESTS}
use Rattle.closing.specs.inner.Lists.{AreSmall}
use Rattle.closing.proofs.WaitLemmas.{all_turns, turn_puts, turn_stops}
use Rattle.closing.proofs.list.List.waits_for_taken.Goals as goal

pub loop-turn-preserved : goal.loop-turn-preserved
loop-turn-preserved c = λ small room.
    let so_far = c.loop-turn.invariant small room in
    let more = c.in_ok-waits_from.ensures (subst AreSmall (sym (ap (λ numbers. numbers.items) so_far.0.numbers)) small) so_far.1 in
    (turn_puts c.loop-turn.turn c.args.self.now c.loop-turn.self c.waits_from.new.self so_far.0 more.0, more.1)

pub returns : goal.returns
returns c = λ small room.
    let so_far = c.loop-turn.invariant small room in
    let enough : length c.args.self.now.numbers.items ≤ c.loop-turn.turn * MOST_REQUESTS = omega (arith, c.loop-turn-test.false, c.len.ensures, c.args.self.now.numbers.ok.0) in
    (all_turns c.loop-turn.turn c.args.self.now c.loop-turn.self enough so_far.0, so_far.1)

pub returns-in_err-waits_from : goal.returns-in_err-waits_from
returns-in_err-waits_from c = λ small room.
    let p = err_from_is_err_and c.from_residual.result c.from_residual.ensures.1 in
    let so_far = c.loop-turn.invariant small room in
    let adds = c.in_err-waits_from.ensures (subst AreSmall (sym (ap (λ numbers. numbers.items) so_far.0.numbers)) small) so_far.1 in
    let before : c.loop-turn.turn < c.len.result / MOST_REQUESTS + 1 = omega (arith, c.loop-turn-test.true) in
    let enough : length c.args.self.now.numbers.items ≤ (c.len.result / MOST_REQUESTS + 1) * MOST_REQUESTS = omega (arith, c.len.ensures, c.args.self.now.numbers.ok.0) in
    rw (p.1, p.2) (turn_stops (Unit {0}) (Unit {0}) c.in_err-waits_from.field-0.0 c.loop-turn.turn (c.len.result / MOST_REQUESTS + 1) c.args.self.now c.loop-turn.self c.waits_from.new.self
    before enough so_far.0 so_far.1 adds)
