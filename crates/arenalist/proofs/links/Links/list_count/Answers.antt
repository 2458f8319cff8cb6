use Rattle.std.proofs.Common.{length, ap, arith}
use Rattle.arenalist.specs.inner.Links.{Linked}
use Rattle.arenalist.proofs.LinkLemmas.{long_lists}
use Rattle.arenalist.proofs.links.Links.list_count.Goals as goal

pub returns : goal.returns
returns c = omega (arith, c.len.ensures, long_lists c.self.inside.heads.items c.self.inside.nexts.items, ap (λ (a : Linked). length a.lists) c.self.view_is)
