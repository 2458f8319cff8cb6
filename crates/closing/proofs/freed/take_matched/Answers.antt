-- Another call takes no message.
use Rattle.std.proofs.Common.{◌∙◌, ap}
use Rattle.closing.specs.Called.{called}
use Rattle.closing.proofs.FreedIds.{matched_other}
use Rattle.closing.proofs.freed.take_matched.Goals as goal

pub returns-in_default-read_call : goal.returns-in_default-read_call
returns-in_default-read_call c =
    matched_other c.args.lines.now c.args.line c.in-Some-Call.word c.read_call.result c.args.matched.now
    (cc (c.word.ensures, c.in-Some-Call.is, c.in-Some-Call.field-0-is)) (c.read_call.ensures.says ∙ ap (called c.in-Some-Call.word) c.fields.ensures) c.in_default-read_call.not-StartsMatched
