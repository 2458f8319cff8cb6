use Rattle.std.proofs.Common.{ℕ, List, length, ap, ◌∙◌}
use Rattle.std.specs.List.{filter, range_with_len}
use Rattle.std.proofs.lemmas.List.FromFn.{length-map-range_with_len}
use Rattle.waitgraph.specs.inner.Causes.{walks_in, causes_in}
use Rattle.waitgraph.specs.inner.Held.{opened_of, standing_at, standings_at, is_held_in}
use Rattle.waitgraph.specs.inner.Loose.{are_held}
use Rattle.waitgraph.specs.Waits.{Waits}
use Rattle.waitgraph.specs.inner.Waits.{waits_at}
use Rattle.waitgraph.specs.declared.standing.Standing.{Standing}
use Rattle.waitgraph.proofs.graph.graph_at.Goals as goal

pub returns-clause-held : goal.returns-clause-held
returns-clause-held c =
    let w = c.args.world.now in
    let recording = w.pairs.recording in
    let waits = waits_at w.reading w.pairs.groups recording c.args.stands.now in
    c.in_ok-held.ensures.held
    ∙ ap (λ (standings : List Standing). filter (are_held (opened_of recording) standings c.in_ok-waits.waits) (range_with_len 0 (length standings))) (c.deref.ensures.value ∙ c.in_ok-standings.ensures.value)
    ∙ ap (λ (waits : Waits). filter (are_held (opened_of recording) (standings_at recording c.args.stands.now) waits) (range_with_len 0 (length (standings_at recording c.args.stands.now)))) c.in_ok-waits.ensures
    ∙ ap (λ (ranks : ℕ). filter (is_held_in w.reading w.pairs.groups recording c.args.stands.now) (range_with_len 0 ranks)) (length-map-range_with_len (standing_at recording c.args.stands.now) 0 (length recording))

pub returns-clause-causes : goal.returns-clause-causes
returns-clause-causes c =
    let w = c.args.world.now in
    let recording = w.pairs.recording in
    c.in_ok-held.ensures.causes
    ∙ ap (λ (standings : List Standing). causes_in (walks_in (opened_of recording) standings c.in_ok-waits.waits)) (c.deref.ensures.value ∙ c.in_ok-standings.ensures.value)
    ∙ ap (λ (waits : Waits). causes_in (walks_in (opened_of recording) (standings_at recording c.args.stands.now) waits)) c.in_ok-waits.ensures
