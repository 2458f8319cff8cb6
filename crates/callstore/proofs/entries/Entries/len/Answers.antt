use Rattle.std.proofs.Common.{ap, length, arith}
use Rattle.callstore.specs.inner.Entries.{EntryList}
use Rattle.callstore.proofs.EntryLemmas.{as_many}
use Rattle.callstore.proofs.entries.Entries.len.Goals as goal

pub returns : goal.returns
returns c =
    omega (arith, c.len.ensures, as_many c.self.inside.slots.items c.self.inside.pairs.items, ap (λ (list : EntryList). length list.items) c.self.view_is)
