use Rattle.std.proofs.Common.{◌≡◌, true, false, not, sym, ap, ◌∙◌}
use Rattle.findings.specs.Findings.{is_completed}
use Rattle.findings.proofs.NothingLemmas.{lost_is_active}
use Rattle.findings.proofs.finding.request.is_lost.Goals as goal

pub returns-then-is_active : goal.returns-then-is_active
returns-then-is_active c =
    let found : not (is_completed c.args.pairs.now.recording c.args.rank c.args.req c.args.place) ≡ true =
    lost_is_active c.args.pairs.now.groups c.args.pairs.now.recording c.args.rank c.args.place c.args.req c.calls_are_lawful.ensures c.requires ∙ sym c.is_active.ensures ∙ c.if-is_active.true in
    rw found (ap not c.is_left_open.ensures)

pub returns-else-is_active : goal.returns-else-is_active
returns-else-is_active c =
    let found : not (is_completed c.args.pairs.now.recording c.args.rank c.args.req c.args.place) ≡ false =
    lost_is_active c.args.pairs.now.groups c.args.pairs.now.recording c.args.rank c.args.place c.args.req c.calls_are_lawful.ensures c.requires ∙ sym c.is_active.ensures ∙ c.if-is_active.false in
    rw found c.if-is_active.false
