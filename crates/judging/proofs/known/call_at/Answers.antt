-- The pending call of a rank whose list is made.
use Rattle.std.proofs.Common.{◌∙◌, Bor, ap}
use Rattle.closing.specs.Pending.{pending_of, pending_said}
use Rattle.closing.specs.declared.pending.Pending.{Pending}
use Rattle.lawful.proofs.ReadRuns.{fit_of_read}
use Rattle.judging.specs.KnownCalls.{call_as}
use Rattle.judging.proofs.JudgeLemmas.{if_ok}
use Rattle.judging.proofs.KnownLemmas.{none_found, one_found}
use Rattle.judging.proofs.known.call_at.Goals as goal

pub returns-in-Some : goal.returns-in-Some
returns-in-Some c =
    let it = c.args.recording.now in
    let rank = c.args.rank in
    if_ok c.call_of.result _ _
    (λ call says done within.
    says
    ∙ ap call_as
    (one_found (λ (one : Bor Pending). pending_said one.now) c.pending.result c.in-Some.pending (pending_of it.run it.choice rank) c.in-Some.is
    (c.pending.ensures (fit_of_read it.run it.choice done.read) within (done.over rank within))))
    c.call_of.ensures

pub returns-in-None : goal.returns-in-None
returns-in-None c = λ done within.
    let it = c.args.recording.now in
    let rank = c.args.rank in
    absurd (none_found (λ (one : Bor Pending). pending_said one.now) c.pending.result (pending_of it.run it.choice rank) c.in-None.is
    (c.pending.ensures (fit_of_read it.run it.choice done.read) within (done.over rank within)))
