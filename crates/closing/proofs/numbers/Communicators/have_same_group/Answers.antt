-- The groups of two keys.
use Rattle.std.proofs.Common.{◌≡◌, ◌∙◌, List, ℕ, ap, length}
use Rattle.std.specs.Str.{bytes_eq}
use Rattle.closing.specs.Keys.{group_of_key}
use Rattle.closing.proofs.RunLemmas.{group_kept}
use Rattle.closing.proofs.numbers.Communicators.have_same_group.Goals as goal

pub returns : goal.returns
returns c =
    λ run it another h has has_other.
    let self = c.args.self.now in
    let one : c.group-one.result.now ≡ group_of_key (length run) it = c.group-one.ensures.at ∙ group_kept run self c.args.key it h has in
    let two : c.group-another.result.now ≡ group_of_key (length run) another = c.group-another.ensures.at ∙ group_kept run self c.args.other another h has_other in
    c.eq.ensures ∙ ap (λ (g : List ℕ). bytes_eq g c.group-another.result.now) one ∙ ap (λ (g : List ℕ). bytes_eq (group_of_key (length run) it) g) two
