-- The calls that come most often, by their words.
use Rattle.std.proofs.Common.{refl}
use Rattle.journals.specs.declared.word.CallWord.TheVariants as call
use Rattle.closing.proofs.CallOfLemmas.{is_of}
use Rattle.closing.proofs.CalledLemmas.{message_requests}
use Rattle.closing.proofs.walk.Walk.take_entry.Goals as goal

pub returns-in-Isend-clause-entered : goal.returns-in-Isend-clause-entered
returns-in-Isend-clause-entered c = λ said heading handed progress before ready.
    c.take_known.ensures.entered said heading handed progress
    (is_of c.args.lines.now c.args.entry.now call.Isend c.fields-fields.result.now c.starts_send-it.result c.in-Isend.is c.fields-fields.ensures c.starts_send-it.ensures
    (λ are. message_requests call.Isend c.fields-fields.result.now c.starts_send-it.result c.starts_send-it.ensures)) before ready

pub returns-in-Irecv-clause-entered : goal.returns-in-Irecv-clause-entered
returns-in-Irecv-clause-entered c = λ said heading handed progress before ready.
    c.take_known-in-Irecv.ensures.entered said heading handed progress
    (is_of c.args.lines.now c.args.entry.now call.Irecv c.fields-fields.result.now c.starts_receive-it.result c.in-Irecv.is c.fields-fields.ensures c.starts_receive-it.ensures
    (λ are. message_requests call.Irecv c.fields-fields.result.now c.starts_receive-it.result c.starts_receive-it.ensures)) before ready

pub returns-in-Recv-clause-entered : goal.returns-in-Recv-clause-entered
returns-in-Recv-clause-entered c = λ said heading handed progress before ready.
    c.take_known-in-Recv.ensures.entered said heading handed progress
    (is_of c.args.lines.now c.args.entry.now call.Recv c.fields-fields.result.now c.receives-it.result c.in-Recv.is c.fields-fields.ensures c.receives-it.ensures
    (λ are. message_requests call.Recv c.fields-fields.result.now c.receives-it.result c.receives-it.ensures)) before ready

pub returns-in-Wait-clause-entered : goal.returns-in-Wait-clause-entered
returns-in-Wait-clause-entered c = λ said heading handed progress before ready.
    c.take_called.ensures.entered said heading handed progress
    (is_of c.args.lines.now c.args.entry.now call.Wait c.fields-fields.result.now _ c.in-Wait.is c.fields-fields.ensures refl (λ are. tt)) before ready
