use Rattle.std.proofs.Common.{◌∙◌, ap, not, eqb, length, unwrap_or}
use Rattle.mpigroup.proofs.RunLemmas.{unwrap_or-position}
use Rattle.mpigroup.proofs.split.run_length.Goals as goal

pub returns : goal.returns
returns c =
    c.unwrap_or.ensures ∙ ap (λ o. unwrap_or o (length c.args.members.now)) c.other_colour_at.ensures ∙ unwrap_or-position (λ member. not (eqb member.colour c.args.colour)) c.args.members.now
