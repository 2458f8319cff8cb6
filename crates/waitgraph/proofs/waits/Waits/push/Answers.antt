use Rattle.std.proofs.Common.{◌≡◌, List, [], ◌∷◌, ◌++◌, length, ap, ◌∙◌, rules}
use Rattle.moves.specs.declared.need.Need.{Need}
use Rattle.waitgraph.proofs.KeptLemmas.{one_span_more}
use Rattle.waitgraph.proofs.waits.Waits.push.Goals as goal

pub returns : goal.returns
returns c =
    let start : c.len-start.result ≡ length c.self.inside.needs.items = search rules in
    let end : c.len-end.result ≡ length c.extend_from_slice.new.self.items = search rules in
    one_span_more c.self.inside.needs.items c.args.needs.now c.extend_from_slice.new.self.items c.self.inside.spans.items c.push.new.self.items _
    c.self.invariant c.in_ok-extend_from_slice.ensures.items c.in_ok-push.ensures.items start end
    ∙ ap (λ (waits : List (List Need)). waits ++ c.args.needs.now ∷ []) c.self.view_is
