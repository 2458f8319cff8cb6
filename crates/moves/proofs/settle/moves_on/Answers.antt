use Rattle.std.proofs.Common.{◌<◌, ◌≤◌, length, slice_index, refl, sym, subst, ◌∙◌, arith}
use Rattle.std.proofs.lemmas.Bool.{true≢false}
use Rattle.moves.specs.Needs.{can_move}
use Rattle.moves.specs.declared.world.Positions.{Positions}
use Rattle.moves.specs.inner.Positions.{left_to_do}
use Rattle.moves.proofs.RunLemmas.{reached_ranks}
use Rattle.moves.proofs.SettleLemmas.{hand_moves, left_falls}
use Rattle.moves.proofs.settle.moves_on.Goals.{in-Moves, in_default}
use Rattle.moves.proofs.settle.moves_on.Goals as goal

pub move_on-requires-clause-is_rank : goal.move_on-requires-clause-is_rank
move_on-requires-clause-is_rank c =
    let w = c.args.world.now in
    let h = c.look_there-look.ensures.woken.in_hand in
    omega (arith, reached_ranks (can_move w.reading w.pairs.groups w.pairs.recording) (length w.pairs.recording) c.look_there-look.new.positions.stands.items h.kept.is_reached, h.is_rank)

pub returns-then-matches-clause-moves : goal.returns-then-matches-clause-moves
returns-then-matches-clause-moves c =
    let w = c.args.world.now in
    let p = c.look_there-look.new.positions in
    let t = c.move_on.new.stands.items in
    λ _. elim c.match-matches.branch [
      | in-Moves b ↦
          hand_moves w.reading w.pairs.groups w.pairs.recording p.stands.items t p.progress p.waiters c.args.rank (slice_index t c.args.rank) c.look_there-look.ensures.woken.in_hand (rw b.in-Moves.is at c.look_there-look.ensures.tells)
          (c.look_there-look.ensures.room b.in-Moves.is) c.move_on.ensures refl
      | in_default b ↦ absurd (true≢false (sym c.if-matches.true ∙ b.matches-is))
    ]

pub returns-then-matches-clause-fewer : goal.returns-then-matches-clause-fewer
returns-then-matches-clause-fewer c =
    let w = c.args.world.now in
    let p = c.look_there-look.new.positions in
    let h = c.look_there-look.ensures.woken.in_hand in
    let in_s : c.args.rank < length p.stands.items = omega (arith, reached_ranks (can_move w.reading w.pairs.groups w.pairs.recording) (length w.pairs.recording) p.stands.items h.kept.is_reached, h.is_rank) in
    λ is. rw c.look_there-look.ensures.woken.stands at (left_falls w.reading w.pairs.groups w.pairs.recording p.stands.items c.move_on.new.stands.items p.progress p.waiters c.args.rank (slice_index c.move_on.new.stands.items c.args.rank) (returns-then-matches-clause-moves c is) in_s c.move_on.ensures)

pub returns-else-matches-clause-no_more : goal.returns-else-matches-clause-no_more
returns-else-matches-clause-no_more c =
    λ old _. subst (λ (p : Positions). left_to_do c.args.world.now c.let_go.new.positions ≤ left_to_do c.args.world.now p) (c.look_there-look.ensures.same old) c.let_go.ensures.no_more
