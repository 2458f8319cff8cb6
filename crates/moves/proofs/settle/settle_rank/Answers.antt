use Rattle.std.proofs.Common.{◌≡◌, ◌+◌, ◌<◌, ◌≤◌, Bool, true, false, refl, subst, arith}
use Rattle.moves.specs.declared.world.World.{World}
use Rattle.moves.specs.declared.world.Positions.{Positions}
use Rattle.moves.specs.inner.Positions.{AreKept, calls_left, left_to_do, ranks_once}
use Rattle.moves.proofs.SettleLemmas.{left_kept, left_fewer}
use Rattle.moves.proofs.settle.settle_rank.Goals as goal

-- by whether the rank had just come to its call at first, and whether it has last
settled : (w : World) (first last new : Positions) (had_come has_come : Bool) → AreKept w new → new.stands ≡ last.stands → calls_left w last ≤ calls_left w first
    → (had_come ≡ false → has_come ≡ true → calls_left w last < calls_left w first) → (has_come ≡ false → last ≡ first) → (has_come ≡ false → left_to_do w new ≤ left_to_do w last) → left_to_do w new ≤ left_to_do w first + ranks_once w had_come
settled w first last new true has_come kept same most fewer old less =
    left_kept w.reading w.pairs.groups w.pairs.recording first.stands.items new.stands.items new.progress first.waiters new.waiters kept (rw same most)
settled w first last new false true kept same most fewer old less =
    omega (arith, left_fewer w.reading w.pairs.groups w.pairs.recording first.stands.items new.stands.items new.progress first.waiters new.waiters kept (rw same (fewer refl refl)))
settled w first last new false false kept same most fewer old less =
    omega (arith, subst (λ (p : Positions). left_to_do w new ≤ left_to_do w p) (old refl) (less refl))

pub returns-clause-no_more : goal.returns-clause-no_more
returns-clause-no_more c =
    let stays = c.loop-has_come-test.false in
    let l = c.loop-has_come in
    settled c.args.world.now c.args.positions.now l.positions c.moves_on.new.positions c.args.has_come l.has_come (c.moves_on.ensures.stays stays) (c.moves_on.ensures.same stays) l.invariant.no_more l.invariant.fewer l.invariant.same
    (λ old. c.moves_on.ensures.no_more old stays)
