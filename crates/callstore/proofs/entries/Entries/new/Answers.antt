use Rattle.std.proofs.Common.{refl}
use Rattle.callstore.proofs.entries.Entries.new.Goals as goal

pub returns : goal.returns
returns c = rw c.new.ensures.items refl
