-- The number that is picked is the least free one.
use Rattle.closing.proofs.LeastLemmas.{takes_free}
use Rattle.closing.proofs.list.List.take_number.Goals as goal

pub returns-clause-takes : goal.returns-clause-takes
returns-clause-takes c = λ active are few. takes_free active c.args.self.now c.pick_number.new.self c.pick_number.result are (c.pick_number.ensures.takes are.kept few)
