-- One number more is free again.
use Rattle.std.proofs.Common.{◌≡◌, ◌∙◌, ◌<◌, ◌≤◌, ap, arith, get_or, length, refl, subst}
use Rattle.std.proofs.lemmas.List.{take_all}
use Rattle.closing.specs.Steps.{without_all}
use Rattle.closing.specs.inner.Free.{AreNumbered}
use Rattle.closing.proofs.WaitLemmas.{frees_both, frees_more}
use Rattle.closing.proofs.list.List.free_numbers.Goals as goal

pub loop-place-init : goal.loop-place-init
loop-place-init c = record {
  same = record { records = refl; count = refl; active = refl; given = refl; numbers = refl; freed = refl };
  frees = λ active are comms. record { numbered = are; comms = comms };
}

pub loop-place-preserved : goal.loop-place-preserved
loop-place-preserved c =
    let within : c.loop-place.place < length c.args.self.now.numbers.items = omega (arith, c.loop-place-test.true, c.len-place-end.ensures, c.args.self.now.numbers.ok.0) in
    let is : c.number_at-number.result ≡ get_or c.args.self.now.numbers.items c.loop-place.place 0 =
    c.number_at-number.ensures ∙ ap (λ xs. get_or xs c.loop-place.place 0) (c.as_slice-numbers.ensures.value ∙ ap (λ numbers. numbers.items) c.loop-place.invariant.same.numbers) in
    record {
      same = frees_both c.args.self.now c.loop-place.self c.free_number.new.self c.loop-place.invariant.same c.in_ok-free_number.ensures.same;
      frees = λ active are comms.
          frees_more active c.args.self.now.numbers.items c.loop-place.place c.number_at-number.result c.loop-place.self c.free_number.new.self within is
          (c.loop-place.invariant.frees active are comms) c.in_ok-free_number.ensures.frees;
    }

pub returns-clause-frees : goal.returns-clause-frees
returns-clause-frees c = λ active are comms.
    let past : length c.args.self.now.numbers.items ≤ c.loop-place.place = omega (arith, c.loop-place-test.false, c.len-place-end.ensures, c.args.self.now.numbers.ok.0) in
    subst (λ numbers. AreNumbered (without_all numbers active) c.loop-place.self) (take_all c.loop-place.place c.args.self.now.numbers.items past)
    (c.loop-place.invariant.frees active are comms).numbered
