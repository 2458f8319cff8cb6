-- A member more.
use Rattle.std.proofs.Common.{◌<◌, ◌∙◌, ◌++◌, ℕ, List, length, take, get_or, sym, ap, arith}
use Rattle.std.specs.Prelude.{codes, string_bytes}
use Rattle.std.proofs.lemmas.List.{take_more}
use Rattle.judging.proofs.HeadTextLemmas.{fields_with, puts_field}
use Rattle.judging.proofs.head.push_group.Goals as goal

pub loop-member-preserved : goal.loop-member-preserved
loop-member-preserved c =
    let group = c.args.group.now in
    let place = c.loop-member.member-index in
    let within : place < length group = omega (arith, c.loop-member-test.true) in
    puts_field (string_bytes c.args.text.now) (string_bytes c.push_number.new.text) (string_bytes c.loop-member.text) (take place group) (get_or group place 0) (codes "comm")
    c.loop-member.invariant c.in_ok-push_number.ensures
    ∙ ap (λ (members : List ℕ). string_bytes c.args.text.now ++ fields_with (codes "comm") members) (sym (take_more group place 0 within))
