use Rattle.std.proofs.Common.{◌≡◌, ◌∙◌, ℕ, length, sym, ap, arith}
use Rattle.arenaqueue.specs.Numbers.{list_at}
use Rattle.arenalist.specs.Arena.{Arena, spliced}
use Rattle.arenalist.specs.inner.Slots.{entries_of}
use Rattle.arenalist.proofs.EntryLemmas.{entries_at, long_entries}
use Rattle.arenalist.proofs.ArenaLemmas.{valued_in}
use Rattle.arenalist.proofs.SpliceLemmas.{arena_spliced, entries_spliced, entries_count}
use Rattle.arenalist.proofs.lists.Lists.append.Goals as goal

pub invariant_of-self : goal.invariant_of-self
invariant_of-self g c =
    let long : length c.args.self.now.lists ≡ length c.self.inside.links.lists = ap (λ (a : Arena g.row.T.Denot). length a.lists) (sym c.self.view_is) ∙ long_entries c.self.inside.values.items c.self.inside.links.lists in
    rw (c.splice-moved.ensures.heads, c.splice-moved.ensures.lists, c.splice-moved.ensures.cells, c.number.ensures, c.number-2.ensures) (arena_spliced _ _ _ _ _ _ c.args.to c.args.from c.self.invariant (omega (arith, long, c.requires.to)) (omega (arith, long, c.requires.from)) c.requires.differ)

pub returns-clause-lists : goal.returns-clause-lists
returns-clause-lists g c =
    rw (c.splice-moved.ensures.lists, c.number.ensures, c.number-2.ensures) (entries_spliced c.self.inside.values.items c.self.inside.links.lists c.args.to c.args.from ∙ ap (λ (a : Arena g.row.T.Denot). spliced a.lists c.args.to c.args.from) c.self.view_is)

pub returns-clause-work : goal.returns-clause-work
returns-clause-work g c =
    let cells : c.splice-moved.result ≡ length (list_at c.self.inside.links.lists c.args.from) = c.splice-moved.ensures.count ∙ ap (λ (l : ℕ). length (list_at c.self.inside.links.lists l)) c.number-2.ensures in
    let count : length (list_at (entries_of c.self.inside.values.items c.self.inside.links.lists) c.args.from) ≡ length (list_at c.self.inside.links.lists c.args.from) = ap (length {A = ℕ × g.row.T.Denot}) (entries_at c.self.inside.values.items c.self.inside.links.lists c.args.from) ∙ entries_count c.self.inside.values.items (list_at c.self.inside.links.lists c.args.from) (valued_in _ _ _ _ _ _ c.args.from c.self.invariant) in
    omega (arith, cells, count, c.saturating_add-self-inside.ensures, ap (λ (a : Arena g.row.T.Denot). length (list_at a.lists c.args.from)) c.self.view_is, ap (λ (a : Arena g.row.T.Denot). a.work) c.self.view_is)
