-- The place of the first member of a group in that of its parent.
use Rattle.std.proofs.Common.{◌≡◌, ◌∙◌, ◌==◌, ◌≤◌, ℕ, List, ap, arith, length, sym, Some, None}
use Rattle.std.specs.Prelude.{slice_get}
use Rattle.std.specs.List.{position_or_len}
use Rattle.closing.specs.Keys.{group_of_key}
use Rattle.closing.proofs.RunLemmas.{first_rank, group_kept, no_first_rank, place_within}
use Rattle.closing.proofs.numbers.Communicators.place_of_first.Goals as goal

pub returns-in-Some : goal.returns-in-Some
returns-in-Some c =
    λ run on it h has has_it few.
    let self = c.args.self.now in
    let parent : c.group-on.result.now ≡ group_of_key (length run) on = c.group-on.ensures.at ∙ group_kept run self c.args.parent on h has in
    let members : c.group-members.result.now ≡ group_of_key (length run) it = c.group-members.ensures.at ∙ group_kept run self c.args.key it h has_it in
    let first = c.in-Some.first.now in
    let e : slice_get c.group-members.result.now 0 ≡ Some first = sym c.in-Some.ensures.value in
    let place : c.place_in.result ≡ position_or_len (λ member. member == first) (group_of_key (length run) on) =
    c.place_in.ensures ∙ ap (λ (g : List ℕ). position_or_len (λ member. member == first) g) parent in
    let below : position_or_len (λ member. member == first) (group_of_key (length run) on) ≤ 1024 = place_within first (group_of_key (length run) on) few in
    c.as_colour.ensures (omega arith) ∙ place
    ∙ sym (first_rank (group_of_key (length run) on) (group_of_key (length run) it) first (sym (ap (λ (g : List ℕ). slice_get g 0) members) ∙ e))

pub returns-in-None : goal.returns-in-None
returns-in-None c =
    λ run on it h has has_it few.
    let self = c.args.self.now in
    let members : c.group-members.result.now ≡ group_of_key (length run) it = c.group-members.ensures.at ∙ group_kept run self c.args.key it h has_it in
    let e : slice_get c.group-members.result.now 0 ≡ None = sym c.in-None.ensures.value in
    sym (no_first_rank (group_of_key (length run) on) (group_of_key (length run) it) (sym (ap (λ (g : List ℕ). slice_get g 0) members) ∙ e))
