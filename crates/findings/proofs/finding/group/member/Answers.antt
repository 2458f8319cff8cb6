use Rattle.std.proofs.Common.{ℕ, Option, ap, ◌∙◌}
use Rattle.std.specs.Option.{unwrap_or}
use Rattle.std.proofs.lemmas.Option.{unwrap_or-slice_get}
use Rattle.mpigroup.specs.Groups.{group_of}
use Rattle.findings.proofs.finding.group.member.Goals as goal

pub returns : goal.returns
returns c =
    c.unwrap_or.ensures
    ∙ ap (λ (o : Option ℕ). unwrap_or o 0) (rw c.head.ensures.value at c.world_rank.ensures)
    ∙ unwrap_or-slice_get (group_of c.args.pairs.now.groups c.args.comm) c.args.g 0
