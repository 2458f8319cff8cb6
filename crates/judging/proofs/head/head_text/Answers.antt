-- A group more.
use Rattle.std.proofs.Common.{[], ◌∷◌, arith}
use Rattle.std.specs.Prelude.{codes, string_bytes}
use Rattle.closing.specs.Groups.{groups_in}
use Rattle.closing.specs.Texts.{line_with}
use Rattle.judging.proofs.HeadTextLemmas.{puts_group}
use Rattle.judging.proofs.head.head_text.Goals as goal

pub loop-number-preserved : goal.loop-number-preserved
loop-number-preserved c =
    puts_group (line_with (codes "ranks") (c.args.ranks ∷ [])) (string_bytes c.loop-number.text) (string_bytes c.push_group.new.text)
    (groups_in c.args.run.now) c.loop-number.number c.group.result.now c.loop-number.auto.number
    (omega (arith, c.loop-number-test.true, c.count-number-end.ensures)) c.group.ensures c.loop-number.invariant c.in_ok-push_group.ensures
