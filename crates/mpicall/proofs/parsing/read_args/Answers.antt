-- What was taken by the name's layout makes the call of the name.
use Rattle.mpicall.proofs.CallArgsLemmas.{args_read}
use Rattle.mpicall.proofs.parsing.read_args.Goals as goal

pub returns : goal.returns
returns c = args_read _ _ _ _ _ c.layout_of.ensures c.call.ensures c.in_ok-call_args.ensures
