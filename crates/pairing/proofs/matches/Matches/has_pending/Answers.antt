use Rattle.std.proofs.Common.{◌≡◌, ◌∙◌, ℕ, List, [], length, ap, sym, subst, arith}
use Rattle.std.specs.List.{IsDistinct}
use Rattle.std.specs.Option.{is_some}
use borrow.Author.Count.{below_more}
use Rattle.callstore.specs.declared.envelope.Envelope.{Envelope}
use Rattle.callstore.specs.Envelopes.{same_envelope}
use Rattle.pairing.specs.inner.Matched.{Matching, pending_at}
use Rattle.pairing.proofs.MatchedLemmas.{no_first, none_pending, pending_there}
use Rattle.pairing.proofs.matches.Matches.has_pending.Goals as goal

pub returns-then-is_some-clause-some : goal.returns-then-is_some-clause-some
returns-then-is_some-clause-some c says_yes =
    pending_there c.args.self.now c.args.half c.loop-number.number
    (subst (λ (keys : List Envelope). IsDistinct same_envelope keys) (ap (λ (m : Matching). m.keys) c.self.view_is) c.len-number-end.ensures.unique)
    (omega (arith, c.loop-number-test.true, c.len-number-end.ensures.len, ap (λ (m : Matching). length m.keys) c.self.view_is))
    (ap is_some (sym c.front.ensures) ∙ sym c.is_some.ensures ∙ c.if-is_some.true)

pub loop-number-preserved : goal.loop-number-preserved
loop-number-preserved c =
    below_more (λ (number : ℕ). pending_at c.args.self.now.lists c.args.half number ≡ []) c.loop-number.number c.loop-number.invariant
    (no_first (pending_at c.args.self.now.lists c.args.half c.loop-number.number) (ap is_some (sym c.front.ensures) ∙ sym c.is_some.ensures ∙ c.if-is_some.false))

pub returns-clause-none : goal.returns-clause-none
returns-clause-none c says_no =
    none_pending c.args.self.now c.args.half
    (λ number within. c.loop-number.invariant number (omega (arith, within, c.loop-number-test.false, c.len-number-end.ensures.len, ap (λ (m : Matching). length m.keys) c.self.view_is)))
