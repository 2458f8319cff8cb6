use Rattle.std.proofs.Common.{rules, ◌∙◌}
use Rattle.std.proofs.lemmas.List.Filters.{dedup_is}
use Rattle.std.proofs.lemmas.List.Sorted.{answers_always}
use Rattle.waitgraph.specs.Stuck.{comes_before}
use Rattle.waitgraph.proofs.OrderLemmas.{is_order}
use Rattle.waitgraph.proofs.SortLemmas.{sorted_once_is, is_same_need, same_need}
use Rattle.waitgraph.proofs.unmet.put_in_order.Goals as goal

pub returns : goal.returns
returns c =
    dedup_is _ _ _ c.dedup.ensures.filtered
    ∙ sorted_once_is is_same_need same_need c.args.needs.now.items c.sort_unstable_by.new.self.items c.sort_unstable_by.ensures.permutation
    (c.sort_unstable_by.ensures.sorted comes_before is_order (answers_always _ _ _ (λ f a r f' k. search rules)))
