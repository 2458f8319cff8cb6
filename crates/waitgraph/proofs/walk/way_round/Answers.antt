use Rattle.std.proofs.Common.{ℕ, ◌+◌, ◌-◌, Some, List, ◌++◌, length, sym, ap, ◌∙◌}
use Rattle.std.specs.Prelude.{option_map}
use Rattle.waitgraph.specs.inner.Causes.{way_round}
use Rattle.waitgraph.proofs.WalkLemmas.{no_way, way_ends, way_on}
use Rattle.waitgraph.proofs.walk.way_round.Goals as goal

pub returns-in-None : goal.returns-in-None
returns-in-None c =
    sym (c.loop-step.invariant
    ∙ no_way c.args.walks.now (length c.args.walks.now) c.loop-step._step c.args.home c.loop-step.rank c.loop-step.ranks.items c.loop-step-test.true (sym c.next_in.ensures ∙ c.in-None.is))

pub returns-in-Some : goal.returns-in-Some
returns-in-Some c =
    sym (c.loop-step.invariant
    ∙ way_ends c.args.walks.now (length c.args.walks.now) c.loop-step._step c.args.home c.loop-step.rank c.in-Some.next c.loop-step.ranks.items c.loop-step-test.true (sym c.next_in.ensures ∙ c.in-Some.is) c.if-next-home.true
    ∙ ap (λ (ranks : List ℕ). Some ranks) (sym c.in_ok-push.ensures.items))

pub loop-step-preserved : goal.loop-step-preserved
loop-step-preserved c =
    c.loop-step.invariant
    ∙ way_on c.args.walks.now (length c.args.walks.now) c.loop-step._step c.args.home c.loop-step.rank c.in-Some.next c.loop-step.ranks.items c.loop-step-test.true (sym c.next_in.ensures ∙ c.in-Some.is) c.if-next-home.false
    ∙ ap (λ (ranks : List ℕ). option_map (λ more. ranks ++ more) (way_round c.args.walks.now (length c.args.walks.now - (c.loop-step._step + 1)) c.args.home c.in-Some.next)) (sym c.in_ok-push.ensures.items)
