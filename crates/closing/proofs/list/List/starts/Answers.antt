-- The line starts the request as one with the least number that is free, which is active then.
use Rattle.std.proofs.Common.{◌<◌, [], ◌∷◌, arith, refl, subst, Err}
use Rattle.std.specs.Prelude.{IsTrue}
use Rattle.std.proofs.lemmas.Result.{err_from_is_err_and}
use Rattle.mpicall.specs.Limits.{in_ranges}
use Rattle.closing.specs.Steps.{Own}
use Rattle.closing.specs.inner.Lists.{Adds, Puts, TakesFree}
use Rattle.closing.specs.declared.list.TheConstants.{MOST_RECORDS}
use Rattle.closing.proofs.ListLemmas.{may_start, named_stands, start_stops}
use Rattle.closing.proofs.list.List.starts.Goals as goal

pub returns : goal.returns
returns c = λ handed progress line stands fits free.
    let takes : TakesFree progress.active c.args.self.now c.take_number-number.new.self c.take_number-number.result =
    c.take_number-number.ensures.takes progress.active stands.numbered (omega (arith, stands.given, stands.short)) in
    let may = may_start handed progress c.args.self.now c.take_number-number.new.self c.args.start c.take_number-number.result stands fits c.take_number-number.ensures.same takes in
    let adds = subst (λ call. IsTrue (in_ranges call) → c.take_number-number.new.self.count < MOST_RECORDS → Puts c.take_number-number.new.self c.add.new.self (call ∷ []) × (c.add.new.self.count < MOST_RECORDS)) c.call.ensures c.in_ok-add.ensures in
    named_stands handed progress line c.args.self.now c.take_number-number.new.self c.add.new.self _ c.args.start
    (record { number = c.take_number-number.result; place = c.take_number-number.new.self.count; is_send = c.is_send.result }) c.args.id
    stands free c.take_number-number.ensures.same takes (adds may.0 may.1).0 (adds may.0 may.1).1
    (record { records = refl; count = refl; free = refl; given = refl }) c.in_ok-insert.ensures refl c.is_send.ensures
    c.in_ok-take_start.ensures.ids c.in_ok-take_start.ensures.places

pub returns-in_err-add : goal.returns-in_err-add
returns-in_err-add c = λ handed progress line stands fits free.
    let takes : TakesFree progress.active c.args.self.now c.take_number-number.new.self c.take_number-number.result =
    c.take_number-number.ensures.takes progress.active stands.numbered (omega (arith, stands.given, stands.short)) in
    let may = may_start handed progress c.args.self.now c.take_number-number.new.self c.args.start c.take_number-number.result stands fits c.take_number-number.ensures.same takes in
    let p = err_from_is_err_and c.from_residual.result c.from_residual.ensures.1 in
    let adds = subst (λ call. IsTrue (in_ranges call) → c.take_number-number.new.self.count < MOST_RECORDS → Adds {A = Unit {0}} (Err c.in_err-add.field-0.0) c.take_number-number.new.self c.add.new.self (call ∷ [])) c.call.ensures c.in_err-add.ensures in
    rw (p.1, p.2) (start_stops (Unit {0}) (Unit {0}) c.in_err-add.field-0.0 handed progress line c.args.self.now c.take_number-number.new.self c.add.new.self c.args.start c.take_number-number.result (Own c.args.id)
    stands c.take_number-number.ensures.same takes (adds may.0 may.1))

pub returns-in_err-insert : goal.returns-in_err-insert
returns-in_err-insert c = λ handed progress line stands fits free.
    let p = err_from_is_err_and c.from_residual-in_err-insert.result c.from_residual-in_err-insert.ensures.1 in
    rw (p.1, p.2) tt

pub returns-in_err-take_start : goal.returns-in_err-take_start
returns-in_err-take_start c = λ handed progress line stands fits free.
    let p = err_from_is_err_and c.from_residual-in_err-take_start.result c.from_residual-in_err-take_start.ensures.1 in
    rw (p.1, p.2) tt
