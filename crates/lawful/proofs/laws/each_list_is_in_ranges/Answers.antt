use Rattle.lawful.proofs.RangedLists.{each_list_is_in_ranges}
use Rattle.lawful.proofs.laws.each_list_is_in_ranges.Goals as goal

pub returns : goal.returns
returns c = each_list_is_in_ranges
