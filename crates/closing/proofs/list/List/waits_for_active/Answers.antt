-- The wait stands at the end of the list, and what it completed is active no longer.
use Rattle.std.proofs.Common.{◌≡◌, ◌∙◌, ◌<◌, ◌≤◌, ap, arith, length, map, refl, subst, sym, Some, option_map}
use Rattle.std.proofs.lemmas.Result.{err_from_is_err_and}
use Rattle.mpicall.specs.declared.limits.TheConstants.{GREATEST_REQUEST, MOST_REQUESTS}
use Rattle.closing.specs.Steps.{Own, number_in, numbers_of}
use Rattle.closing.specs.inner.Lists.{AreSmall}
use Rattle.closing.specs.declared.list.Active.{Active}
use Rattle.closing.specs.declared.list.TheConstants.{MOST_RECORDS}
use Rattle.closing.proofs.ChoiceLemmas.{found_small, number_small, one_cut, one_stands}
use Rattle.closing.proofs.WaitLemmas.{take_few}
use Rattle.closing.proofs.list.List.waits_for_active.Goals as goal

pub returns-in_err-find_numbers : goal.returns-in_err-find_numbers
returns-in_err-find_numbers c = λ handed progress line stands has.
    let p = err_from_is_err_and c.from_residual.result c.from_residual.ensures.1 in
    rw (p.1, p.2) tt

pub returns-in_err-free_number : goal.returns-in_err-free_number
returns-in_err-free_number c = λ handed progress line stands has.
    let p = err_from_is_err_and c.from_residual-in_err-free_number.result c.from_residual-in_err-free_number.ensures.1 in
    rw (p.1, p.2) tt

pub returns-in_err-waits_for_number : goal.returns-in_err-waits_for_number
returns-in_err-waits_for_number c = λ handed progress line stands has.
    let p = err_from_is_err_and c.from_residual-in_err-waits_for_number.result c.from_residual-in_err-waits_for_number.ensures.1 in
    let found : number_in progress.active (Own c.args.wanted) ≡ Some c.args.active.number = sym (stands.own c.args.wanted) ∙ ap (option_map (λ (one : Active). one.number)) has in
    let numbers = c.in_ok-find_numbers.ensures.finds progress.active stands.apart stands.own in
    let keeps = c.in_ok-find_numbers.ensures.same in
    let small : AreSmall c.find_numbers.new.self.numbers.items = subst AreSmall (sym numbers) (found_small handed progress c.args.self.now (map Own c.args.ids.now) stands) in
    let low : c.args.active.number ≤ GREATEST_REQUEST = number_small handed progress c.args.self.now c.args.wanted c.args.active.number stands found in
    let few : length c.find_numbers.new.self.numbers.items ≤ MOST_REQUESTS = omega (arith, ap length numbers, take_few MOST_REQUESTS (numbers_of progress.active (map Own c.args.ids.now))) in
    let room : c.find_numbers.new.self.count < MOST_RECORDS = omega (arith, keeps.count, stands.short) in
    rw (p.1, p.2) (one_cut (Unit {0}) (Unit {0}) c.in_err-waits_for_number.field-0.0 handed progress line c.args.self.now c.find_numbers.new.self c.waits_for_number.new.self c.args.wanted c.args.active.number (map Own c.args.ids.now)
    stands found keeps numbers (c.in_err-waits_for_number.ensures small low few room))

pub returns : goal.returns
returns c = λ handed progress line stands has.
    let found : number_in progress.active (Own c.args.wanted) ≡ Some c.args.active.number = sym (stands.own c.args.wanted) ∙ ap (option_map (λ (one : Active). one.number)) has in
    let numbers = c.in_ok-find_numbers.ensures.finds progress.active stands.apart stands.own in
    let keeps = c.in_ok-find_numbers.ensures.same in
    let small : AreSmall c.find_numbers.new.self.numbers.items = subst AreSmall (sym numbers) (found_small handed progress c.args.self.now (map Own c.args.ids.now) stands) in
    let low : c.args.active.number ≤ GREATEST_REQUEST = number_small handed progress c.args.self.now c.args.wanted c.args.active.number stands found in
    let few : length c.find_numbers.new.self.numbers.items ≤ MOST_REQUESTS = omega (arith, ap length numbers, take_few MOST_REQUESTS (numbers_of progress.active (map Own c.args.ids.now))) in
    let room : c.find_numbers.new.self.count < MOST_RECORDS = omega (arith, keeps.count, stands.short) in
    let puts = c.in_ok-waits_for_number.ensures small low few room in
    one_stands handed progress line c.args.self.now c.find_numbers.new.self c.waits_for_number.new.self
    (record c.waits_for_number.new.self { active = c.remove.new.self }) c.free_number.new.self c.args.wanted c.args.active (map Own c.args.ids.now)
    stands has keeps numbers puts.0 puts.1 (record { records = refl; count = refl; free = refl; given = refl }) refl c.remove.ensures.gone
    c.in_ok-free_number.ensures.same c.in_ok-free_number.ensures.frees
