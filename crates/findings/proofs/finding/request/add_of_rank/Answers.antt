use Rattle.std.proofs.Common.{arith, sym, append-nil}
use Rattle.findings.specs.Findings.{lost_at}
use Rattle.findings.proofs.FindingLemmas.{one_more}
use Rattle.findings.proofs.NothingLemmas.{none_lost}
use Rattle.findings.proofs.finding.request.add_of_rank.Goals as goal

pub returns-then-not-may_have_active : goal.returns-then-not-may_have_active
returns-then-not-may_have_active c =
    rw (none_lost c.args.pairs.now.groups c.args.pairs.now.recording c.args.rank c.calls_are_lawful.ensures (c.may_have_active.ensures.none c.if-not-may_have_active.true))
    (sym (append-nil c.args.findings.now.items))

pub loop-place-preserved : goal.loop-place-preserved
loop-place-preserved c =
    one_more (lost_at c.args.pairs.now.recording c.args.rank) 0 c.loop-place.place c.loop-place.place _ _ _ c.loop-place.invariant c.in_ok-add_at.ensures (omega arith)
