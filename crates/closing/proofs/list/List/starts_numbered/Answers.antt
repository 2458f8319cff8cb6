-- The line starts a request that no line names, as one with the least number that is free, which is answered.
use Rattle.std.proofs.Common.{◌<◌, [], ◌∷◌, ℕ, arith, subst, Ok, Err}
use Rattle.std.specs.Prelude.{IsTrue}
use Rattle.std.proofs.lemmas.Result.{err_from_is_err_and}
use Rattle.mpicall.specs.Limits.{in_ranges}
use Rattle.closing.specs.inner.Lists.{Adds, Puts, TakesFree}
use Rattle.closing.specs.declared.list.TheConstants.{MOST_RECORDS}
use Rattle.closing.proofs.ListLemmas.{may_start, start_stops, unnamed_comes}
use Rattle.closing.proofs.list.List.starts_numbered.Goals as goal

pub returns-in_err-add-clause-comes : goal.returns-in_err-add-clause-comes
returns-in_err-add-clause-comes c = λ handed progress line id stands fits unnamed.
    let takes : TakesFree progress.active c.args.self.now c.take_number-number.new.self c.take_number-number.result =
    c.take_number-number.ensures.takes progress.active stands.numbered (omega (arith, stands.given, stands.short)) in
    let may = may_start handed progress c.args.self.now c.take_number-number.new.self c.args.start c.take_number-number.result stands fits c.take_number-number.ensures.same takes in
    let p = err_from_is_err_and c.from_residual.result c.from_residual.ensures.1 in
    let adds = subst (λ call. IsTrue (in_ranges call) → c.take_number-number.new.self.count < MOST_RECORDS → Adds {A = Unit {0}} (Err c.in_err-add.field-0.0) c.take_number-number.new.self c.add.new.self (call ∷ [])) c.call.ensures c.in_err-add.ensures in
    rw (p.1, p.2) (start_stops (Unit {0}) ℕ c.in_err-add.field-0.0 handed progress line c.args.self.now c.take_number-number.new.self c.add.new.self c.args.start c.take_number-number.result id
    stands c.take_number-number.ensures.same takes (adds may.0 may.1))

pub returns-clause-comes : goal.returns-clause-comes
returns-clause-comes c = λ handed progress line id stands fits unnamed.
    let takes : TakesFree progress.active c.args.self.now c.take_number-number.new.self c.take_number-number.result =
    c.take_number-number.ensures.takes progress.active stands.numbered (omega (arith, stands.given, stands.short)) in
    let may = may_start handed progress c.args.self.now c.take_number-number.new.self c.args.start c.take_number-number.result stands fits c.take_number-number.ensures.same takes in
    let adds = subst (λ call. IsTrue (in_ranges call) → c.take_number-number.new.self.count < MOST_RECORDS → Puts c.take_number-number.new.self c.add.new.self (call ∷ []) × (c.add.new.self.count < MOST_RECORDS)) c.call.ensures c.in_ok-add.ensures in
    unnamed_comes (Unit {0}) (Ok tt) handed progress line c.args.self.now c.take_number-number.new.self c.add.new.self c.args.start c.take_number-number.result id
    stands unnamed c.take_number-number.ensures.same takes (adds may.0 may.1)
