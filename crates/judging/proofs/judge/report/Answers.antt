-- What is said in addition is of the lists.
use Rattle.std.proofs.Common.{◌∙◌, List, map, ap, sym, subst}
use Rattle.findings.specs.declared.finding.Finding.{Finding}
use Rattle.report.specs.declared.judged.LeftAt.{LeftAt}
use Rattle.report.specs.declared.judged.LineAt.{LineAt}
use Rattle.judging.specs.Judging.{is_no_leak, left_said, reported_by}
use Rattle.judging.specs.inner.Known.{known_in}
use Rattle.judging.specs.inner.Reported.{IsLined}
use Rattle.judging.specs.inner.Tables.{rows_of}
use Rattle.judging.specs.HeldSaid.{IsHeldSaid}
use Rattle.judging.specs.inner.Held.{IsHeldKept}
use Rattle.moves.specs.declared.reading.Reading.{Reading}
use Rattle.judging.proofs.HeldLemmas.{said_as_kept}
use Rattle.judging.proofs.JudgeLemmas.{if_ok}
use Rattle.judging.proofs.judge.report.Goals as goal

pub returns-clause-written : goal.returns-clause-written
returns-clause-written g c =
    let written = g.O.Output.written in
    let at = c.args.analyser.now in
    let known = known_in c.args.known.now in
    let calls = c.args.manner.choice.calls in
    let it = c.args.lists.now.recording in
    if_ok c.write_report.result _ _
    (λ verdict of. (
      of.0,
      record {
        judged = _;
        at_open = c.args.graph.now.at_open;
        reported = of.1;
        findings = λ done.
            c.as_slice-3.ensures.value ∙ c.in_ok-findings.ensures done
            ∙ ap (λ (fs : List Finding). reported_by calls (is_no_leak it.run it.choice) fs) (c.findings.ensures ∙ c.requires.graph.findings);
        left = λ done. ap (λ (ls : List LeftAt). map left_said ls) c.as_slice-4.ensures.value ∙ c.in_ok-left.ensures.left done;
        lines =
            subst (λ (fs : List Finding). IsLined (rows_of c.args.lists.now.table) c.args.manner at known c.args.graph.now.at_open fs c.as_slice-5.result.now) (c.as_slice.ensures.value ∙ sym c.as_slice-3.ensures.value)
            (subst (λ (ls : List LineAt). IsLined (rows_of c.args.lists.now.table) c.args.manner at known c.args.graph.now.at_open c.as_slice.result.now ls) (sym c.as_slice-5.ensures.value) c.in_ok-lines.ensures);
        held =
            subst (λ (fs : List Finding). IsHeldSaid c.args.manner.reading at.groups at.recording known c.args.manner.held fs c.said_of-said.result) (c.as_slice-2.ensures.value ∙ sym c.as_slice-3.ensures.value)
            (said_as_kept c.args.manner.reading at.groups at.recording known c.args.manner.held c.as_slice-2.result.now c.in_ok-held.held c.said_of-said.result
            (subst (λ (r : Reading). IsHeldKept r at.groups at.recording known c.args.manner.held c.as_slice-2.result.now c.in_ok-held.held) c.requires.reading c.in_ok-held.ensures)
            c.said_of-said.ensures);
      },
      of.2,
    ))
    c.write_report.ensures.written
