-- One of the receives may take it.
use Rattle.std.proofs.Common.{◌∙◌, Option, ap, rules, sym, tests}
use Rattle.std.proofs.lemmas.Iterator.{YieldsList-from_slice}
use Rattle.std.proofs.lemmas.Iterator.Search.{any_from_yields_List}
use Rattle.callstore.specs.declared.envelope.Message.{Message}
use Rattle.judging.specs.UnderWay.{may_take, take}
use Rattle.judging.proofs.under_way.take.Goals as goal

pub returns-in-Some : goal.returns-in-Some
returns-in-Some c =
    any_from_yields_List (λ it. may_take it c.in-Some.message) _ _ _ c.any.ensures.ran (YieldsList-from_slice c.args.moved.now cc) (λ x b q k. search (rules, tests))
    ∙ ap (λ (m : Option Message). take c.args.moved.now m) (sym c.in-Some.is)
