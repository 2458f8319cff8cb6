-- The wait can stand in a record.
use Rattle.std.proofs.Common.{◌≡◌, ◌∙◌, ◌≤◌, [], ◌∷◌, ap, arith, length, subst, sym}
use Rattle.std.specs.Prelude.{IsTrue}
use Rattle.mpicall.specs.Limits.{in_ranges}
use Rattle.mpicall.specs.declared.limits.TheConstants.{MOST_REQUESTS}
use Rattle.closing.specs.Steps.{wait_for_one}
use Rattle.closing.specs.inner.Lists.{Adds}
use Rattle.closing.proofs.ChoiceLemmas.{choice_in_range}
use Rattle.closing.proofs.list.List.waits_for_number.Goals as goal

pub returns : goal.returns
returns c = λ small low few room.
    let within : length c.as_slice-numbers.result.now ≤ MOST_REQUESTS = omega (arith, few, ap length c.as_slice-numbers.ensures.value) in
    let is : c.wait_for_one-call.result ≡ wait_for_one c.args.number c.args.self.now.numbers.items =
    c.wait_for_one-call.ensures within ∙ ap (wait_for_one c.args.number) c.as_slice-numbers.ensures.value in
    subst (λ call. Adds c.add.result c.args.self.now c.add.new.self (call ∷ [])) is
    (c.add.ensures (subst (λ call. IsTrue (in_ranges call)) (sym is) (choice_in_range c.args.number c.args.self.now.numbers.items small low few)) room)
