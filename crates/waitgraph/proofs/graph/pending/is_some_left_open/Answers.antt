use Rattle.std.proofs.Common.{Bool, List, length, ap, ◌∙◌}
use Rattle.std.specs.List.{list_any, range_with_len}
use Rattle.pairing.specs.LeftOpen.{is_left_open}
use Rattle.waitgraph.proofs.VerdictLemmas.{some_marked}
use Rattle.waitgraph.proofs.graph.pending.is_some_left_open.Goals as goal

pub returns : goal.returns
returns c =
    let recording = c.args.pairs.now.recording in
    c.is_some.ensures
    ∙ ap (λ (marks : List Bool). list_any (λ open_list. open_list) marks) (c.deref.ensures.value ∙ c.in_ok-opened.ensures)
    ∙ some_marked (is_left_open recording) (range_with_len 0 (length recording))
