-- The line starts the request as one with the least number that is free.
use Rattle.std.proofs.Common.{◌<◌, [], ◌∷◌, arith, subst}
use Rattle.std.specs.Prelude.{IsTrue}
use Rattle.mpicall.specs.Limits.{in_ranges}
use Rattle.closing.specs.inner.Lists.{Adds, TakesFree}
use Rattle.closing.specs.declared.list.TheConstants.{MOST_RECORDS}
use Rattle.closing.proofs.ListLemmas.{may_start, unnamed_comes}
use Rattle.closing.proofs.list.List.starts_unnamed.Goals as goal

pub returns : goal.returns
returns c = λ handed progress line id stands fits unnamed.
    let old = c.args.self.now in
    let mid = c.take_number-number.new.self in
    let number = c.take_number-number.result in
    let takes : TakesFree progress.active c.args.self.now c.take_number-number.new.self c.take_number-number.result =
    c.take_number-number.ensures.takes progress.active stands.numbered (omega (arith, stands.given, stands.short)) in
    let may = may_start handed progress c.args.self.now c.take_number-number.new.self c.args.start c.take_number-number.result stands fits c.take_number-number.ensures.same takes in
    let adds = subst (λ call. IsTrue (in_ranges call) → c.take_number-number.new.self.count < MOST_RECORDS → Adds c.add.result c.take_number-number.new.self c.add.new.self (call ∷ [])) c.call.ensures c.add.ensures in
    unnamed_comes _ c.add.result handed progress line c.args.self.now c.take_number-number.new.self c.add.new.self c.args.start c.take_number-number.result id
    stands unnamed c.take_number-number.ensures.same takes (adds may.0 may.1)
