use Rattle.std.proofs.Common.{◌∙◌, ◌||◌, ℕ, Bool, List, length, map, ap}
use Rattle.std.specs.List.{filter, list_any, range_with_len}
use Rattle.waitgraph.specs.Held.{is_some_left_open}
use Rattle.waitgraph.specs.inner.Causes.{causes_in}
use Rattle.waitgraph.specs.inner.Loose.{set_of}
use Rattle.waitgraph.specs.inner.Scenes.{staying, awaited_by, walks_by}
use Rattle.waitgraph.proofs.PendingGraphLemmas.{graph_is_with}
use Rattle.waitgraph.proofs.graph.pending.graph_by.Goals as goal

pub returns : goal.returns
returns c =
    let scene = c.args.scene.now in
    let recording = c.args.scene.now.world.now.pairs.recording in
    graph_is_with c.args.scene.now c.in_ok-marks.marks.items _ c.requires
    (record {
      len = c.in_ok-marks.ensures.len;
      are_free = c.in_ok-marks.ensures.are;
      stuck = c.in_ok-stuck.ensures;
      held = c.in_ok-held.ensures ∙ ap (λ (marks : List Bool). filter (staying marks) (range_with_len 0 (length recording))) c.deref.ensures.value;
      left_open =
          c.in_ok-left_open.ensures
          ∙ ap (λ (ranks : List ℕ). is_some_left_open recording || list_any (set_of c.deref-3.result.now) ranks) c.deref-2.ensures.value
          ∙ ap (λ (marks : List Bool). is_some_left_open recording || list_any (set_of marks) c.in_ok-stuck.stuck.items) c.deref-3.ensures.value;
      waits = c.in_ok-waits.ensures;
      at_open = c.in_ok-at_open.ensures ∙ ap (λ (marks : List Bool). map (awaited_by scene marks) (range_with_len 0 (length recording))) c.deref-4.ensures.value;
      causes = c.in_ok-causes.ensures ∙ ap (λ (marks : List Bool). causes_in (walks_by scene marks)) c.deref-5.ensures.value;
      findings = c.in_ok-findings.ensures;
    })
