use denote.Param.Send.{IsSend}
use Rattle.watches.specs.contracts.append.Known.{the_row}
use Rattle.watches.proofs.TokenSteps.{begins_keyless}

pub send : IsSend the_row
send = record { owned = λ d vs. ((λ vss. (tt, ((λ uss. (tt, tt)), tt))), begins_keyless d.name d.list); leaving = λ k f vs. tt }
