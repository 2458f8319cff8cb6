-- The next is named.
use Rattle.std.proofs.Common.{◌≡◌, ◌∙◌, ◌+◌, ◌++◌, ◌∷◌, [], arith, ap, sym, subst, List, length, take, Some}
use Rattle.std.proofs.lemmas.List.{length_push}
use Rattle.closing.specs.inner.Given.{or_none}
use Rattle.closing.specs.inner.Numbered.{AreNamed}
use Rattle.closing.specs.declared.numbers.Named.{Named}
use Rattle.closing.proofs.KeptLemmas.{named_push, take_past}
use Rattle.closing.proofs.NumberLists.{get_some}
use Rattle.closing.proofs.numbers.named_of.Goals as goal

pub loop-place-preserved : goal.loop-place-preserved
loop-place-preserved c =
    let n = c.loop-place.place in
    let numbers = c.args.numbers.now in
    let table = c.args.keys.now in
    let cur = c.loop-place.named.items in
    let inv = c.loop-place.invariant in
    let it = c.in_ok-named_at.field-0 in
    let of = c.in_ok-named_at.ensures in
    let at = get_some numbers n (omega arith) in
    let number : it.number ≡ at.0 = of.number ∙ c.number_at-number.ensures ∙ ap or_none at.1 in
    let items : c.push.new.self.items ≡ cur ++ it ∷ [] = c.in_ok-push.ensures.items in
    record {
      count = ap (λ (xs : List Named). length xs) items ∙ length_push cur it ∙ ap (λ k. k + 1) inv.count;
      named = subst (λ xs. AreNamed table (take (n + 1) numbers) xs) (sym items)
          (named_push table numbers cur n it inv.named inv.count (at.1 ∙ ap Some (sym number)) of.key of.size);
    }

pub returns : goal.returns
returns c =
    let numbers = c.args.numbers.now in
    subst (λ xs. AreNamed c.args.keys.now xs c.loop-place.named.items) (take_past numbers c.loop-place.place (omega arith)) c.loop-place.invariant.named
