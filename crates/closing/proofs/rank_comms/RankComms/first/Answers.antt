-- A rank has the world and itself alone, and no call counts so far.
use Rattle.std.proofs.Common.{rules}
use Rattle.closing.proofs.RankNumberLemmas.{first_numbers}
use Rattle.closing.proofs.rank_comms.RankComms.first.Goals as goal

pub returns : goal.returns
returns c = λ table rank is alone. record {
  table_is = is;
  numbers = first_numbers table rank c.new-numbers.result c.insert.new.self c.insert-2.new.self c.args.alone c.new-numbers.ensures c.in_ok-insert.ensures c.in_ok-insert-2.ensures is.world alone;
  waves = search rules;
  duplicates = search rules;
  groups = search rules;
  apart = search rules;
  wave = tt;
  own = tt;
}
