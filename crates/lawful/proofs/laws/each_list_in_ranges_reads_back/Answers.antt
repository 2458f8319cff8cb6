use Rattle.lawful.proofs.ReadLemmas.{each_list_in_ranges_reads_back}
use Rattle.lawful.proofs.laws.each_list_in_ranges_reads_back.Goals as goal

pub returns : goal.returns
returns c = each_list_in_ranges_reads_back
