use Rattle.std.proofs.Common.{◌++◌, ◌∷◌, List, [], ap, ◌∙◌}
use Rattle.std.proofs.lemmas.List.{replicate-append-replicate}
use Rattle.moves.proofs.waiters.make_lists.Goals as goal

pub loop-number-preserved : goal.loop-number-preserved
loop-number-preserved c =
    let h = c.loop-number.invariant in
    record {
      made = c.in_ok-new_list.ensures.lists ∙ ap (λ (ls : List _). ls ++ [] ∷ []) h.made ∙ replicate-append-replicate c.loop-number._number 1 [];
      spare = c.in_ok-new_list.ensures.spare ∙ h.spare;
      work = c.in_ok-new_list.ensures.work ∙ h.work;
    }
