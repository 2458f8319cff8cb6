use Rattle.std.proofs.Common.{ap, arith}
use Rattle.arenalist.specs.Arena.{Arena, times}
use Rattle.arenalist.proofs.EntryLemmas.{times_entries}
use Rattle.arenalist.proofs.lists.Lists.nodes_stand_once.Goals as goal

pub returns : goal.returns
returns g c n = omega (arith, times_entries c.self.inside.values.items n c.self.inside.links.lists, c.self.invariant.once n, ap (λ (a : Arena g.row.T.Denot). times a.lists n) c.self.view_is)
