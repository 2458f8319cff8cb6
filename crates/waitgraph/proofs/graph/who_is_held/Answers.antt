use Rattle.std.proofs.Common.{Bool, List, length, ap, ◌∙◌, arith}
use Rattle.std.specs.List.{list_any, range_with_len}
use Rattle.pairing.specs.LeftOpen.{is_left_open}
use Rattle.waitgraph.proofs.VerdictLemmas.{some_marked}
use Rattle.std.proofs.lemmas.List.FromFn.{length-map-range_with_len}
use Rattle.waitgraph.specs.inner.Causes.{Walks, walks_in, causes_in}
use Rattle.waitgraph.specs.inner.Loose.{set_of, hop_of}
use Rattle.waitgraph.proofs.graph.who_is_held.Goals as goal

pub causes_in-requires : goal.causes_in-requires
causes_in-requires c =
    omega (
      arith,
      c.requires.few,
      ap (λ (walks : Walks). length walks) (c.deref-6.ensures.value ∙ c.in_ok-walks.ensures)
          ∙ length-map-range_with_len (hop_of (set_of c.deref-4.result.now) c.args.standings.now c.args.waits.now) 0 (length c.args.standings.now),
    )

pub returns-clause-left_open : goal.returns-clause-left_open
returns-clause-left_open c =
    let recording = c.args.pairs.now.recording in
    c.is_some-left_open.ensures
    ∙ ap (λ (marks : List Bool). list_any (λ open_list. open_list) marks) (c.deref-7.ensures.value ∙ c.in_ok-opened.ensures)
    ∙ some_marked (is_left_open recording) (range_with_len 0 (length recording))

pub returns-clause-causes : goal.returns-clause-causes
returns-clause-causes c =
    c.in_ok-causes.ensures
    ∙ ap causes_in (c.deref-6.ensures.value ∙ c.in_ok-walks.ensures
    ∙ ap (λ (marks : List Bool). walks_in (set_of marks) c.args.standings.now c.args.waits.now) (c.deref-4.ensures.value ∙ c.in_ok-opened.ensures))
