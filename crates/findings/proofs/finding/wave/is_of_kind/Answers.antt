use Rattle.std.proofs.Common.{Some, sym, ap, ◌∙◌}
use Rattle.mpicall.specs.declared.call.Kind.{Kind}
use Rattle.findings.proofs.AlikeLemmas.{member_alike}
use Rattle.findings.proofs.finding.wave.is_of_kind.Goals as goal

pub returns-in-Some-Some : goal.returns-in-Some-Some
returns-in-Some-Some c same compared =
    let it = c.in-Some-Some in
    member_alike c.args.pairs.now.groups c.args.pairs.now.recording c.args.member.comm c.args.wave c.args.member.g it.first (sym c.requires.first ∙ it.is-0)
    (sym it.ensures ∙ ap (λ (kind : Kind). Some kind) (sym (c.are_same_kind.ensures same))) compared
