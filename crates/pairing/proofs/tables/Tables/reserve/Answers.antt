use Rattle.pairing.proofs.FiledLemmas.{matched_grown}
use Rattle.pairing.proofs.tables.Tables.reserve.Goals as goal

pub returns-in_err-reserve-clause-kept : goal.returns-in_err-reserve-clause-kept
returns-in_err-reserve-clause-kept c recording tables = record {
  matched = tables.matched;
  others = record { joined = tables.others.joined; made_comms = tables.others.made_comms; active = c.reserve.ensures.kept recording tables.others.active };
}

pub returns-in_err-halves-clause-kept : goal.returns-in_err-halves-clause-kept
returns-in_err-halves-clause-kept c recording tables = record {
  matched = matched_grown c.args.head.now recording c.args.self.now.matches c.reserve-2.new.self c.reserve-2.ensures.grown tables.matched;
  others = record { joined = tables.others.joined; made_comms = tables.others.made_comms; active = c.reserve.ensures.kept recording tables.others.active };
}

pub returns-in_err-list-clause-kept : goal.returns-in_err-list-clause-kept
returns-in_err-list-clause-kept c recording tables = record {
  matched = matched_grown c.args.head.now recording c.args.self.now.matches c.reserve-2.new.self c.reserve-2.ensures.grown tables.matched;
  others = record {
    joined = c.reserve-3.ensures.joined recording tables.others.joined;
    made_comms = tables.others.made_comms;
    active = c.reserve.ensures.kept recording tables.others.active;
  };
}

pub returns-in_err-reserve-2-clause-kept : goal.returns-in_err-reserve-2-clause-kept
returns-in_err-reserve-2-clause-kept c recording tables = record {
  matched = matched_grown c.args.head.now recording c.args.self.now.matches c.reserve-2.new.self c.reserve-2.ensures.grown tables.matched;
  others = record {
    joined = c.reserve-3.ensures.joined recording tables.others.joined;
    made_comms = c.reserve-4.ensures.kept recording tables.others.made_comms;
    active = c.reserve.ensures.kept recording tables.others.active;
  };
}

pub returns-clause-kept : goal.returns-clause-kept
returns-clause-kept c recording tables = record {
  matched = matched_grown c.args.head.now recording c.args.self.now.matches c.reserve-2.new.self c.reserve-2.ensures.grown tables.matched;
  others = record {
    joined = c.reserve-3.ensures.joined recording tables.others.joined;
    made_comms = c.reserve-4.ensures.kept recording tables.others.made_comms;
    active = c.reserve.ensures.kept recording tables.others.active;
  };
}
