-- The number was found before, or is found now.
use Rattle.std.proofs.Common.{◌≡◌, ◌∙◌, ◌==◌, ap, arith, false, is_some, length, sym, true}
use Rattle.std.specs.Prelude.{position}
use Rattle.std.proofs.lemmas.List.{length_push}
use Rattle.closing.proofs.ChoiceLemmas.{finds_known, finds_new}
use Rattle.closing.proofs.list.List.find_request.Goals as goal

pub returns-then-is_some-clause-finds : goal.returns-then-is_some-clause-finds
returns-then-is_some-clause-finds c = λ left apart owns.
    let known : is_some (position (λ other. other == c.in-Some.active.number) c.args.self.now.numbers.items) ≡ true =
    ap is_some (sym (c.index_of.ensures.found ∙ ap (λ xs. position (λ other. other == c.in-Some.active.number) xs) c.as_slice.ensures.value))
    ∙ sym c.is_some.ensures ∙ c.if-is_some.true in
    finds_known left c.args.self.now.numbers.items c.args.id c.args.self.now apart owns c.in-Some.active (sym c.in-Some.ensures) known

pub returns-clause-finds : goal.returns-clause-finds
returns-clause-finds c = λ left apart owns.
    let unknown : is_some (position (λ other. other == c.in-Some.active.number) c.args.self.now.numbers.items) ≡ false =
    ap is_some (sym (c.index_of.ensures.found ∙ ap (λ xs. position (λ other. other == c.in-Some.active.number) xs) c.as_slice.ensures.value))
    ∙ sym c.is_some.ensures ∙ c.if-is_some.false in
    c.in_ok-push.ensures.items ∙ finds_new left c.args.self.now.numbers.items c.args.id c.args.self.now apart owns c.in-Some.active (sym c.in-Some.ensures) unknown

pub returns-clause-most : goal.returns-clause-most
returns-clause-most c =
    omega (arith, ap length c.in_ok-push.ensures.items, length_push c.args.self.now.numbers.items c.in-Some.active.number)
