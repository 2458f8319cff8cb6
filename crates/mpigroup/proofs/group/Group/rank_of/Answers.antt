use Rattle.std.proofs.Common.{◌≡◌, eqb, arith}
use Rattle.std.specs.List.{position, slice_get}
use Rattle.std.proofs.lemmas.Grind.{common_steps}
use Rattle.std.proofs.lemmas.Option.{gets}
use Rattle.mpigroup.specs.inner.Places.{told_place}
use Rattle.mpigroup.proofs.group.Group.rank_of.Goals as goal

pub returns : goal.returns
returns c =
    let entry : c.copied.result ≡ slice_get c.self.inside.places.items c.args.world = grind (arith, common_steps, gets) in
    let told : told_place c.copied.result ≡ position (λ member. eqb member c.args.world) c.self.inside.members.items = rw entry (c.self.invariant.told c.args.world) in
    rw (c.told_place.ensures, ← c.self.view_is) told
