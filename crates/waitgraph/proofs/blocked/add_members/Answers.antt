use Rattle.std.proofs.Common.{◌≡◌, ◌≤◌, ℕ, not, Some, List, [], ◌∷◌, ◌++◌, length, map, sym, ap, ◌∙◌, arith}
use Rattle.std.proofs.lemmas.List.{take_all}
use Rattle.std.proofs.lemmas.Option.{none-some, slice_get-get_or}
use Rattle.mpigroup.specs.Groups.{group_of, world_rank_of}
use Rattle.moves.specs.declared.need.Need.{Need}
use Rattle.moves.specs.Needs.{member_need}
use Rattle.waitgraph.specs.PendingNeeds.{blocked}
use Rattle.waitgraph.specs.inner.Scenes.{comes}
use Rattle.waitgraph.proofs.BlockedLemmas.{adds_kept}
use Rattle.waitgraph.proofs.blocked.add_members.Goals.{in-Some+in_ok-add_blocked, in_default}
use Rattle.waitgraph.proofs.blocked.add_members.Goals as goal

pub loop-g-preserved : goal.loop-g-preserved
loop-g-preserved c =
    let pairs = c.args.scene.now.world.now.pairs in
    elim c.match-world_rank.branch [
      | in-Some+in_ok-add_blocked w ↦
          let there : world_rank_of c.args.scene.now.world.now.pairs.groups c.args.comm c.loop-g.g ≡ Some w.in-Some.member =
          rw c.head.ensures.value at (sym c.world_rank.ensures ∙ w.in-Some.is) in
          ap (λ v. v.items) w.needs-is
          ∙ w.in_ok-add_blocked.ensures
          ∙ ap (λ (need : Need). c.loop-g.needs.items ++ blocked (comes c.args.scene.now c.args.marks.now) (need ∷ [])) w.member_need-need.ensures
          ∙ ap (λ (needs : List Need). needs ++ blocked (comes c.args.scene.now c.args.marks.now) (member_need c.args.scene.now.world.now.pairs.recording c.args.comm c.args.wave w.in-Some.member ∷ [])) c.loop-g.invariant
          ∙ adds_kept (λ need. not (comes c.args.scene.now c.args.marks.now need)) c.args.needs.now.items (member_need c.args.scene.now.world.now.pairs.recording c.args.comm c.args.wave) (group_of c.args.scene.now.world.now.pairs.groups c.args.comm) c.loop-g.g w.in-Some.member there
      | in_default w ↦
          absurd (none-some _ (sym w.in_default.is ∙ c.world_rank.ensures ∙ slice_get-get_or (group_of c.head.result.now c.args.comm) c.loop-g.g 0 (rw c.head.ensures.value (omega (arith, c.members-g-end.ensures, c.loop-g-test.true)))))
    ]

pub returns : goal.returns
returns c =
    let whole : length (group_of c.args.scene.now.world.now.pairs.groups c.args.comm) ≤ c.loop-g.g = omega (arith, c.members-g-end.ensures, c.loop-g-test.false) in
    c.loop-g.invariant
    ∙ ap (λ (members : List ℕ). c.args.needs.now.items ++ blocked (comes c.args.scene.now c.args.marks.now) (map (member_need c.args.scene.now.world.now.pairs.recording c.args.comm c.args.wave) members)) (take_all c.loop-g.g (group_of c.args.scene.now.world.now.pairs.groups c.args.comm) whole)
