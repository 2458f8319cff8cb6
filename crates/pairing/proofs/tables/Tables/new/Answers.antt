use Rattle.pairing.proofs.FiledLemmas.{matched_new}
use Rattle.pairing.proofs.tables.Tables.new.Goals as goal

pub returns : goal.returns
returns c ranks = record {
  matched = matched_new c.args.head.now ranks c.in_ok-new.field-0 c.in_ok-new.ensures.keys c.in_ok-new.ensures.work;
  others = record { joined = c.in_ok-new-2.ensures ranks; made_comms = c.new-3.ensures ranks; active = c.in_ok-new-3.ensures ranks };
}
