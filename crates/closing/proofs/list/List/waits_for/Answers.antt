-- The waits stand at the end of the list, and what they complete is active no longer.
use Rattle.std.proofs.Common.{◌<◌, arith, map}
use Rattle.std.proofs.lemmas.Result.{err_from_is_err_and}
use Rattle.closing.specs.Steps.{Own}
use Rattle.closing.specs.inner.Lists.{AreSmall}
use Rattle.closing.specs.declared.list.TheConstants.{MOST_RECORDS}
use Rattle.closing.proofs.ChoiceLemmas.{all_cut, all_stand, taken_small}
use Rattle.closing.proofs.list.List.waits_for.Goals as goal

pub returns-in_err-take_numbers : goal.returns-in_err-take_numbers
returns-in_err-take_numbers c = λ handed progress line stands.
    let p = err_from_is_err_and c.from_residual.result c.from_residual.ensures.1 in
    rw (p.1, p.2) tt

pub returns-in_err-free_numbers : goal.returns-in_err-free_numbers
returns-in_err-free_numbers c = λ handed progress line stands.
    let p = err_from_is_err_and c.from_residual-in_err-free_numbers.result c.from_residual-in_err-free_numbers.ensures.1 in
    rw (p.1, p.2) tt

pub returns-in_err-waits_for_taken : goal.returns-in_err-waits_for_taken
returns-in_err-waits_for_taken c = λ handed progress line stands.
    let p = err_from_is_err_and c.from_residual-in_err-waits_for_taken.result c.from_residual-in_err-waits_for_taken.ensures.1 in
    let takes = c.in_ok-take_numbers.ensures.takes progress.active stands.apart stands.own in
    let keeps = c.in_ok-take_numbers.ensures.same in
    let room : c.take_numbers.new.self.count < MOST_RECORDS = omega (arith, keeps.count, stands.short) in
    let small : AreSmall c.take_numbers.new.self.numbers.items = taken_small handed progress c.args.self.now c.take_numbers.new.self (map Own c.args.ids.now) stands keeps takes in
    rw (p.1, p.2) (all_cut (Unit {0}) (Unit {0}) c.in_err-waits_for_taken.field-0.0 handed progress line c.args.self.now c.take_numbers.new.self c.waits_for_taken.new.self (map Own c.args.ids.now) stands keeps takes
    (c.in_err-waits_for_taken.ensures small room))

pub returns : goal.returns
returns c = λ handed progress line stands.
    let takes = c.in_ok-take_numbers.ensures.takes progress.active stands.apart stands.own in
    let keeps = c.in_ok-take_numbers.ensures.same in
    let room : c.take_numbers.new.self.count < MOST_RECORDS = omega (arith, keeps.count, stands.short) in
    let small : AreSmall c.take_numbers.new.self.numbers.items = taken_small handed progress c.args.self.now c.take_numbers.new.self (map Own c.args.ids.now) stands keeps takes in
    let puts = c.in_ok-waits_for_taken.ensures small room in
    all_stand handed progress line c.args.self.now c.take_numbers.new.self c.waits_for_taken.new.self c.free_numbers.new.self (map Own c.args.ids.now)
    stands keeps takes puts.0 puts.1 c.in_ok-free_numbers.ensures.same c.in_ok-free_numbers.ensures.frees
