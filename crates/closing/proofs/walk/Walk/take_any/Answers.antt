-- Its call is what its word says of its fields.
use Rattle.std.proofs.Common.{refl}
use Rattle.closing.proofs.CallOfLemmas.{is_of}
use Rattle.closing.proofs.walk.Walk.take_any.Goals as goal

pub returns-clause-entered : goal.returns-clause-entered
returns-clause-entered c = λ said heading handed progress before ready.
    c.take_called.ensures.entered said heading handed progress
    (is_of c.args.lines.now c.args.entry.now c.args.entry.now.word c.fields.result.now c.read_call-it.result refl c.fields.ensures c.read_call-it.ensures.says c.read_call-it.ensures.requests)
    before ready
