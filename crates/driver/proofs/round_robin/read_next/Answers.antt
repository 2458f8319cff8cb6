-- One record more was read and entered; or the end came, and with it the fault, if it has one.
use Rattle.driver.proofs.TurnLemmas.{later_record, later_sealed, later_torn}
use Rattle.driver.specs.inner.Turns.{at_turn}
use Rattle.std.proofs.Common.{Some, ap, refl}
use Rattle.driver.proofs.round_robin.read_next.Goals as goal

pub returns-in-None : goal.returns-in-None
returns-in-None g c =
    later_record g.I.Input.left (g.G.Gate.may_answer c.args.gate.now) c.args.rank (at_turn c.args.source.now c.args.turn.now) _ c.args.ledger.now c.enter.new.self _ c.enter.result
    c.requires.is_rank (c.in-None.ensures.fresh refl) c.requires.going c.requires.going c.ends_list-turn.ensures c.enter.ensures c.in-None.ensures.read

pub returns-in-Some-Sealed : goal.returns-in-Some-Sealed
returns-in-Some-Sealed g c =
    later_sealed g.I.Input.left (g.G.Gate.may_answer c.args.gate.now) c.args.rank (at_turn c.args.source.now c.args.turn.now) _ c.args.ledger.now c.in-Some-Sealed.field-0 c.in-Some-Sealed.field-0-is
    c.requires.going refl (c.in-Some-Sealed.ensures.sealed (ap Some c.in-Some-Sealed.field-0-is)) c.in-Some-Sealed.ensures.read

pub returns-in-Some-Torn : goal.returns-in-Some-Torn
returns-in-Some-Torn g c =
    later_torn g.I.Input.left (g.G.Gate.may_answer c.args.gate.now) c.args.rank (at_turn c.args.source.now c.args.turn.now) _ c.args.ledger.now c.tear.new.self c.in-Some-Torn.field-0 c.in-Some-Torn.fault c.in-Some-Torn.field-0-is
    c.requires.is_rank c.requires.going refl c.tear.ensures c.in-Some-Torn.ensures.read
