use Rattle.std.proofs.Common.{refl, sym}
use Rattle.mpigroup.proofs.RunLemmas.{AreCut-more, rise-sorted, run_within}
use Rattle.mpigroup.proofs.split.groups_of.Goals as goal

pub loop-first-init : goal.loop-first-init
loop-first-init c = rw c.new-groups.ensures.items (record { whole = refl; rise = rise-sorted c.args.members.now c.requires })

pub split_at-requires : goal.split_at-requires
split_at-requires c = run_within c.in-Some.first.now.colour c.loop-first.rest.now c.run_length.result c.run_length.ensures

pub loop-first-preserved : goal.loop-first-preserved
loop-first-preserved c =
    AreCut-more (λ group. group.items) _ _ _ _ _ _ c.in-Some.first.now c.run_length.result c.in_ok-ranks_of.field-0 c.loop-first.invariant (sym c.in-Some.ensures.value) c.run_length.ensures c.split_at.ensures.front c.split_at.ensures.back c.in_ok-ranks_of.ensures c.in_ok-push.ensures.items
