use Rattle.std.proofs.Common.{◌≡◌, ◌∙◌, ℕ, None, get_or, sym, ap, arith}
use Rattle.std.proofs.lemmas.List.{get_or_read}
use Rattle.std.specs.Prelude.{is_some, option_copied}
use Rattle.arenalist.specs.Arena.{Arena, value_at}
use Rattle.arenalist.proofs.EntryLemmas.{standing, at_some}
use Rattle.arenalist.proofs.ArenaLemmas.{given}
use Rattle.arenalist.proofs.lists.Lists.get.Goals as goal

pub index-requires : goal.index-requires
index-requires g c =
    let on = standing c.self.inside.values.items c.args.node c.self.inside.links.lists (rw (← c.self.view_is) at c.requires) in
    omega (arith, (given _ _ _ _ _ _ c.args.node c.self.invariant on).cell_in, c.self.invariant.as_many, c.number.ensures)

pub unwrap-requires : goal.unwrap-requires
unwrap-requires g c =
    let on = standing c.self.inside.values.items c.args.node c.self.inside.links.lists (rw (← c.self.view_is) at c.requires) in
    let it = given _ _ _ _ _ _ c.args.node c.self.invariant on in
    let read : c.index.result.now ≡ get_or c.self.inside.values.items c.number.result None = get_or_read c.self.inside.values.items c.number.result c.index.result.now (omega (arith, it.cell_in, c.self.invariant.as_many, c.number.ensures)) c.index.ensures None in
    c.as_ref.ensures.variant ∙ ap is_some (read ∙ ap (λ (n : ℕ). get_or c.self.inside.values.items n None) c.number.ensures) ∙ it.has

pub returns : goal.returns
returns g c =
    let on = standing c.self.inside.values.items c.args.node c.self.inside.links.lists (rw (← c.self.view_is) at c.requires) in
    let it = given _ _ _ _ _ _ c.args.node c.self.invariant on in
    let read : c.index.result.now ≡ get_or c.self.inside.values.items c.number.result None = get_or_read c.self.inside.values.items c.number.result c.index.result.now (omega (arith, it.cell_in, c.self.invariant.as_many, c.number.ensures)) c.index.ensures None in
    ap (λ (a : Arena g.row.T.Denot). value_at a.lists c.args.node) (sym c.self.view_is)
    ∙ at_some c.self.inside.values.items c.args.node c.self.inside.links.lists on
    ∙ ap (λ (n : ℕ). get_or c.self.inside.values.items n None) (sym c.number.ensures)
    ∙ sym read
    ∙ sym c.as_ref.ensures.value
    ∙ ap option_copied c.unwrap.ensures
