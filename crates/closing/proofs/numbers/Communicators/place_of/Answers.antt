-- The place of a rank in a group by its key.
use Rattle.std.proofs.Common.{◌≡◌, ◌∙◌, ◌==◌, ◌≤◌, ℕ, List, ap, arith, length, pos, rules}
use Rattle.std.specs.List.{position_or_len}
use Rattle.std.proofs.lemmas.Int.{to_z-of_z}
use mir.Syntax.{w32}
use Rattle.closing.specs.Keys.{group_of_key}
use Rattle.closing.proofs.RunLemmas.{group_kept, place_within}
use Rattle.closing.proofs.numbers.Communicators.place_of.Goals as goal

pub returns : goal.returns
returns c =
    λ run it h has few.
    let self = c.args.self.now in
    let group : c.group.result.now ≡ group_of_key (length run) it = c.group.ensures.at ∙ group_kept run self c.args.key it h has in
    let place : c.place_in.result ≡ position_or_len (λ member. member == c.args.rank) (group_of_key (length run) it) =
    c.place_in.ensures ∙ ap (λ (r : ℕ). position_or_len (λ member. member == r) c.group.result.now) c.from.ensures
    ∙ ap (λ (g : List ℕ). position_or_len (λ member. member == c.args.rank) g) group in
    let below : position_or_len (λ member. member == c.args.rank) (group_of_key (length run) it) ≤ 1024 = place_within c.args.rank (group_of_key (length run) it) few in
    let key : c.as_key.result ≡ pos (position_or_len (λ member. member == c.args.rank) (group_of_key (length run) it)) = c.as_key.ensures (omega arith) ∙ ap pos place in
    to_z-of_z w32 c.as_key.result (search rules) ∙ key
