use Rattle.std.proofs.Common.{◌≡◌, ◌≤◌, ℕ, Some, List, [], ◌∷◌, ◌++◌, length, map, sym, ap, ◌∙◌, arith}
use Rattle.std.specs.List.{filter}
use Rattle.std.proofs.lemmas.List.{take_all}
use Rattle.std.proofs.lemmas.Option.{none-some, slice_get-get_or}
use Rattle.mpigroup.specs.Groups.{group_of, world_rank_of}
use Rattle.moves.specs.declared.need.Need.{Need}
use Rattle.moves.specs.Needs.{member_need}
use Rattle.waitgraph.specs.inner.Stuck.{is_unmet}
use Rattle.waitgraph.proofs.AddingLemmas.{add_one}
use Rattle.waitgraph.proofs.unmet.add_member_needs.Goals.{in-Some+in_ok-add_unmet, in_default}
use Rattle.waitgraph.proofs.unmet.add_member_needs.Goals as goal

pub loop-g-preserved : goal.loop-g-preserved
loop-g-preserved c =
    elim c.match-world_rank.branch [
      | in-Some+in_ok-add_unmet w ↦
          let there : world_rank_of c.args.pairs.now.groups c.args.comm c.loop-g.g ≡ Some w.in-Some.member =
          rw c.head.ensures.value at (sym c.world_rank.ensures ∙ w.in-Some.is) in
          ap (λ v. v.items) w.unmet-is
          ∙ w.in_ok-add_unmet.ensures
          ∙ ap (λ (need : Need). c.loop-g.unmet.items ++ filter (is_unmet c.args.stands.now) (need ∷ [])) w.member_need-need.ensures
          ∙ ap (λ (needs : List Need). needs ++ filter (is_unmet c.args.stands.now) (member_need c.args.pairs.now.recording c.args.comm c.args.wave w.in-Some.member ∷ [])) c.loop-g.invariant
          ∙ add_one c.args.stands.now c.args.unmet.now.items (member_need c.args.pairs.now.recording c.args.comm c.args.wave) (group_of c.args.pairs.now.groups c.args.comm) c.loop-g.g w.in-Some.member there
      | in_default w ↦
          absurd (none-some _ (sym w.in_default.is ∙ c.world_rank.ensures ∙ slice_get-get_or (group_of c.head.result.now c.args.comm) c.loop-g.g 0 (rw c.head.ensures.value (omega (arith, c.members-g-end.ensures, c.loop-g-test.true)))))
    ]

pub returns : goal.returns
returns c =
    let whole : length (group_of c.args.pairs.now.groups c.args.comm) ≤ c.loop-g.g = omega (arith, c.members-g-end.ensures, c.loop-g-test.false) in
    c.loop-g.invariant
    ∙ ap (λ (members : List ℕ). c.args.unmet.now.items ++ filter (is_unmet c.args.stands.now) (map (member_need c.args.pairs.now.recording c.args.comm c.args.wave) members)) (take_all c.loop-g.g (group_of c.args.pairs.now.groups c.args.comm) whole)
