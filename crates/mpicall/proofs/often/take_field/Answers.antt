-- A number and the byte behind it.
use Rattle.mpicall.proofs.OftenLemmas.{field_ends}
use Rattle.mpicall.proofs.often.take_field.Goals as goal

pub returns : goal.returns
returns c = field_ends _ _ _ _ _ _ c.in_ok-number.ensures c.requires c.if-next-end.false
