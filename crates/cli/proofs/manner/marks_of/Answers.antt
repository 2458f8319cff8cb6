use Rattle.std.proofs.Common.{false, map, rules}
use Rattle.std.proofs.lemmas.List.FromFn.{fill_by_all}
use Rattle.cli.specs.Choices.{is_named}
use Rattle.cli.proofs.manner.marks_of.Goals as goal

pub returns : goal.returns
returns c = fill_by_all (is_named (map (λ text. text.now) c.args.texts.now)) c.loop-rank.marks 1024 false c.loop-rank.invariant.0 (search rules)
