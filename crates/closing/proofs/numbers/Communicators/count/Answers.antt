-- Each number has a group.
use Rattle.std.proofs.Common.{◌∙◌, sym}
use Rattle.closing.proofs.RunLemmas.{groups_count}
use Rattle.closing.proofs.numbers.Communicators.count.Goals as goal

pub returns : goal.returns
returns c = let self = c.args.self.now in c.len.ensures ∙ self.numbered.ok.0 ∙ sym (groups_count self)
