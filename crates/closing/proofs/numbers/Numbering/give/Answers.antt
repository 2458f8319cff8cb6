-- The next number is that of the place that is put last.
use Rattle.std.proofs.Common.{◌≡◌, ◌∙◌, ◌≤◌, ◌++◌, ◌∷◌, [], ℕ, List, arith, sym, subst, set, length, Some, false}
use Rattle.journals.specs.Known.{is_among}
use Rattle.mpicall.specs.declared.limits.TheConstants.{GREATEST_COMM}
use Rattle.closing.specs.inner.Given.{IsNumbered}
use Rattle.closing.proofs.NumberLemmas.{numbered_push}
use Rattle.closing.proofs.numbers.Numbering.give.Goals as goal

pub returns-in_ok-push-clause-numbering : goal.returns-in_ok-push-clause-numbering
returns-in_ok-push-clause-numbering c =
    let numbers = c.args.self.now.numbers.items in
    let numbered = c.args.self.now.numbered.items in
    let key = c.args.key in
    let next = c.len-next.result in
    let fails : is_among key numbered ≡ false = cc (c.has.ensures, c.if-has.false) in
    let count : next ≡ length numbered = c.len-next.ensures ∙ c.args.self.now.numbered.ok.0 in
    let few : length numbered ≤ GREATEST_COMM = omega arith in
    let P : ℕ → Type 0 = λ k. IsNumbered (set numbers key (Some k)) (numbered ++ key ∷ []) in
    let Q : List ℕ → Type 0 = λ xs. IsNumbered (set numbers key (Some next)) xs in
    subst Q (sym c.in_ok-push.ensures.items) (subst P (sym count) (numbered_push numbers numbered key c.requires fails few (omega arith)))
