-- The verdict of the graph is that of the recording.
use Rattle.std.proofs.Common.{◌≡◌, ◌↔◌, false, subst, sym}
use Rattle.moves.specs.Analysed.{Analysed}
use Rattle.waitgraph.specs.Held.{is_some_left_open}
use Rattle.waitgraph.specs.Verdicts.{IsVerdictOf, SomeRankIsStuck}
use Rattle.waitgraph.specs.declared.verdict.Verdict.{Verdict}
use Rattle.waitgraph.specs.declared.verdict.Verdict.TheVariants.{Hang}
use Rattle.waitgraph.proofs.VerdictLemmas.{graph_verdict, graph_hangs}
use Rattle.gather.proofs.outcome.Outcome.verdict.Goals as goal

pub returns-clause-value : goal.returns-clause-value
returns-clause-value c =
    subst (λ (a : Analysed). IsVerdictOf a.reading a.groups a.recording c.verdict.result) c.self.view_is
    (subst (λ (v : Verdict). IsVerdictOf c.self.inside.analyser.reading c.self.inside.analyser.groups c.self.inside.analyser.recording v) (sym c.verdict.ensures)
    (graph_verdict c.self.inside.analyser.reading c.self.inside.analyser.groups c.self.inside.analyser.recording _ c.self.invariant.0 c.self.invariant.1))

pub returns-clause-closed : goal.returns-clause-closed
returns-clause-closed c =
    subst (λ (a : Analysed). is_some_left_open a.recording ≡ false → (c.verdict.result ≡ Hang) ↔ SomeRankIsStuck a.reading a.groups a.recording) c.self.view_is
    (λ none. subst (λ (v : Verdict). (v ≡ Hang) ↔ SomeRankIsStuck c.self.inside.analyser.reading c.self.inside.analyser.groups c.self.inside.analyser.recording) (sym c.verdict.ensures)
    (graph_hangs c.self.inside.analyser.reading c.self.inside.analyser.groups c.self.inside.analyser.recording _ c.self.invariant.0 none c.self.invariant.1))
