use denote.Param.Send.{IsSend}
use base.Fraction.{full_share}
use Rattle.watches.specs.contracts.append.Pen.{the_row}
use Rattle.watches.proofs.TokenSteps.{all_keyless}

pub send : IsSend the_row
send = record { owned = λ d vs. ((λ vss. (tt, ((λ uss. (tt, tt)), tt))), all_keyless d.name d.list full_share); leaving = λ k f vs. tt }
