use Rattle.std.proofs.Common.{sym, ◌∙◌}
use Rattle.closing.proofs.EntryLemmas.{receive_put}
use Rattle.closing.proofs.walk.Walk.starts_receive_of.Goals as goal

pub returns-in-Some-clause-takes : goal.returns-in-Some-clause-takes
returns-in-Some-clause-takes c = λ spot tells can.
    receive_put spot c.args.comm c.args.own c.args.message c.in-Some.message c.start_of_receive.result c.starts.result c.args.self.now.list c.starts.new.self
    c.in-Some.is (sym (tells.gone c.args.own) ∙ sym c.is_gone.ensures ∙ c.if-is_gone.false) can c.start_of_receive.ensures c.starts.ensures
