use Rattle.moves.specs.declared.reading.Reading.{Reading}
use Rattle.std.proofs.Common.{ℕ, List, sym, ap, subst, ◌∙◌}
use Rattle.mpigroup.specs.Groups.{Groups}
use Rattle.callstore.specs.Recordings.{Lists}
use Rattle.moves.specs.declared.need.Need.{Need}
use Rattle.moves.specs.Stands.{stands_of}
use Rattle.waitgraph.specs.inner.Causes.{causes_in, walks_at}
use Rattle.waitgraph.specs.inner.Held.{held_at}
use Rattle.waitgraph.specs.Held.{ListsHeld, is_some_left_open}
use Rattle.waitgraph.specs.inner.Waits.{waits_at}
use Rattle.waitgraph.specs.Waits.{needs_in}
use Rattle.waitgraph.proofs.CauseLemmas.{causes_are}
use Rattle.waitgraph.proofs.DeadlockLemmas.{are_found, found_is_deadlocked}
use Rattle.waitgraph.proofs.VerdictLemmas.{held_list, list_stays}
use Rattle.waitgraph.specs.Causes.{CauseView, AreCauses}
use Rattle.waitgraph.proofs.UnmetLemmas.{waits_are}
use Rattle.waitgraph.proofs.graph.Graph.of.Goals as goal

pub returns-clause-unmet : goal.returns-clause-unmet
returns-clause-unmet c rank =
    let reading = c.args.analyser.now.reading in
    let groups = c.args.analyser.now.groups in
    let recording = c.args.analyser.now.recording in
    ap (λ (waits : List (List Need)). needs_in waits rank)
    (c.in_ok-graph.ensures.waits
    ∙ ap (λ (r : Reading). waits_at r c.world.result.now.pairs.groups c.world.result.now.pairs.recording c.stands.result.now) c.world.ensures.reading
    ∙ ap (λ (g : Groups). waits_at reading g c.world.result.now.pairs.recording c.stands.result.now) c.world.ensures.groups
    ∙ ap (λ (r : Lists). waits_at reading groups r c.stands.result.now) c.world.ensures.recording
    ∙ ap (λ (s : List ℕ). waits_at reading groups recording s) (c.stands.ensures ∙ c.stands_are_the_end.ensures.stands))
    ∙ waits_are reading groups recording (stands_of reading groups recording) rank

-- the held ranks are those that the search finds
pub returns-clause-held : goal.returns-clause-held
returns-clause-held c =
    let reading = c.args.analyser.now.reading in
    let groups = c.args.analyser.now.groups in
    let recording = c.args.analyser.now.recording in
    subst (λ (ranks : List ℕ). ListsHeld c.args.analyser.now.reading c.args.analyser.now.groups c.args.analyser.now.recording ranks)
    (sym (c.in_ok-graph.ensures.held
    ∙ ap (λ (r : Reading). held_at r c.world.result.now.pairs.groups c.world.result.now.pairs.recording c.stands.result.now) c.world.ensures.reading
    ∙ ap (λ (g : Groups). held_at reading g c.world.result.now.pairs.recording c.stands.result.now) c.world.ensures.groups
    ∙ ap (λ (r : Lists). held_at reading groups r c.stands.result.now) c.world.ensures.recording
    ∙ ap (λ (s : List ℕ). held_at reading groups recording s) (c.stands.ensures ∙ c.stands_are_the_end.ensures.stands)))
    (held_list reading groups recording (are_found reading groups recording c.requires))

pub returns-clause-stays : goal.returns-clause-stays
returns-clause-stays c index rank there =
    list_stays c.args.analyser.now.reading c.args.analyser.now.groups c.args.analyser.now.recording c.in_ok-graph.graph.held (returns-clause-held c) index rank there

pub returns-clause-left_open : goal.returns-clause-left_open
returns-clause-left_open c = c.in_ok-graph.ensures.left_open ∙ ap is_some_left_open c.world.ensures.recording

-- and so are the causes
pub returns-clause-causes : goal.returns-clause-causes
returns-clause-causes c =
    let reading = c.args.analyser.now.reading in
    let groups = c.args.analyser.now.groups in
    let recording = c.args.analyser.now.recording in
    subst (λ (causes : List CauseView). AreCauses c.args.analyser.now.reading c.args.analyser.now.groups c.args.analyser.now.recording causes)
    (sym (c.in_ok-graph.ensures.causes
    ∙ ap (λ (r : Reading). causes_in (walks_at r c.world.result.now.pairs.groups c.world.result.now.pairs.recording c.stands.result.now)) c.world.ensures.reading
    ∙ ap (λ (g : Groups). causes_in (walks_at reading g c.world.result.now.pairs.recording c.stands.result.now)) c.world.ensures.groups
    ∙ ap (λ (r : Lists). causes_in (walks_at reading groups r c.stands.result.now)) c.world.ensures.recording
    ∙ ap (λ (s : List ℕ). causes_in (walks_at reading groups recording s)) (c.stands.ensures ∙ c.stands_are_the_end.ensures.stands)))
    (causes_are reading groups recording (found_is_deadlocked reading groups recording c.requires))
