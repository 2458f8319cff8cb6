use Rattle.std.proofs.Common.{length, ap, arith}
use Rattle.arenalist.specs.Arena.{Arena}
use Rattle.arenalist.proofs.EntryLemmas.{long_entries}
use Rattle.arenalist.proofs.lists.Lists.list_count.Goals as goal

pub returns : goal.returns
returns g c = omega (arith, c.list_count.ensures, long_entries c.self.inside.values.items c.self.inside.links.lists, ap (λ (a : Arena g.row.T.Denot). length a.lists) c.self.view_is)
