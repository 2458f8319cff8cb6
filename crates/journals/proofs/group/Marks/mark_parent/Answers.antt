-- Each rank is in the world.
use Rattle.std.proofs.Common.{◌≡◌, Bool, ◌∙◌, ap, sym, if◌then◌else◌, true}
use Rattle.journals.specs.Known.{is_among}
use Rattle.journals.specs.inner.Marks.{ranks_in, mark_at, members_of}
use Rattle.journals.specs.declared.group.Mark.TheVariants.{InParent}
use Rattle.journals.proofs.GroupLemmas.{in_world}
use Rattle.journals.proofs.group.Marks.mark_parent.Goals as goal

pub returns-in-World-clause-marks : goal.returns-in-World-clause-marks
returns-in-World-clause-marks c = λ rank below.
    let world : is_among rank (members_of (ranks_in c.args.self.now) c.args.parent) ≡ true =
    ap (λ p. is_among rank (members_of (ranks_in c.args.self.now) p)) c.in-World.is ∙ in_world (ranks_in c.args.self.now) rank below in
    c.set_all.ensures.marks rank below ∙ sym (ap (λ (b : Bool). if b then InParent else mark_at c.args.self.now rank) world)
