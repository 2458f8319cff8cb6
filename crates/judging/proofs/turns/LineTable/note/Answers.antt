-- The row of the rank is longer.
use Rattle.std.proofs.Common.{arith, refl}
use Rattle.judging.proofs.TableLemmas.{noted}
use Rattle.judging.proofs.turns.LineTable.note.Goals as goal

pub returns-in_ok-push_times-clause-noted : goal.returns-in_ok-push_times-clause-noted
returns-in_ok-push_times-clause-noted c = λ wanted.
    noted (λ row. row.items) c.args.self.now.lines.items c.args.rank c.from.result c.in-Some.lines.now c.push_times.new.lines _
    c.from.ensures (omega (arith, c.in-Some.ensures.variant.0 refl)) c.in-Some.ensures.value c.in_ok-push_times.ensures
